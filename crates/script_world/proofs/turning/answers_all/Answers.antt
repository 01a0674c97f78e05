use Rattle.std.proofs.Common.{◌∙◌, ◌++◌, ap, map}
use Rattle.document_laws.specs.AtOnce.{answered, stored}
use Rattle.script_world.proofs.Answers.{takes_both, grown}
use Rattle.script_world.proofs.turning.answers_all.Goals as goal

pub returns : goal.returns
returns g c =
    grown g.K.Kit.rules g.K.Kit.cut c.args.seats.now c.args.broker.now c.stores_all.new.broker _ _ c.extend_from_slice.new.self.items
    (c.in_ok-extend_from_slice.ensures.items ∙ ap (λ b. c.in_ok-bytes.bytes.items ++ b) c.deref.ensures.value)
    (takes_both g.K.Kit.rules g.K.Kit.cut c.args.seats.now c.args.broker.now c.paints_all.new.broker c.stores_all.new.broker (map answered c.args.jobs.items) (map stored c.args.errands.items) c.in_ok-bytes.bytes.items c.in_ok-more.more.items
    c.in_ok-bytes.ensures c.in_ok-more.ensures)
