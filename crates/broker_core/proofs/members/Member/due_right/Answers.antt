use Rattle.std.proofs.Common.{sym, ap, ◌∙◌}
use Rattle.tile_key.specs.Places.{next_place}
use Rattle.broker_core.specs.Choosing.{where_true}
use Rattle.broker_core.proofs.Groupings.{no_key_due}
use Rattle.broker_core.proofs.members.Member.due_right.Goals as goal

pub returns-in_err-next : goal.returns-in_err-next
returns-in_err-next c =
    c.from_residual.ensures
    ∙ ap (λ b. where_true b (next_place c.args.key.now)) (sym (no_key_due c.args.self.now.view (next_place c.args.key.now) c.kept.ensures (sym c.right.ensures ∙ c.in_err-next.was)))
