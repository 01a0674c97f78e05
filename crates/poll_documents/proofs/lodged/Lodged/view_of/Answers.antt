use Rattle.std.proofs.Common.{◌∙◌, ap}
use Rattle.poll_machine.specs.House.{view_at}
use Rattle.poll_documents.proofs.lodged.Lodged.view_of.Goals as goal

pub returns : goal.returns
returns g c = c.view_of.ensures c.self.inside.id.0
    ∙ ap (λ (p : _). view_at p c.args.link.0) c.self.view_is
