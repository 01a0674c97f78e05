use Rattle.std.proofs.Common.{ap, ◌∙◌, subst}
use Rattle.script_world.specs.Seats.{records}
use Rattle.script_world.specs.Taken.{JoinsBy}
use Rattle.script_world.proofs.Joins.{joined_by}
use Rattle.script_world.proofs.joining.joins.Goals as goal

pub returns-in_ok-bytes-in-Ok : goal.returns-in_ok-bytes-in-Ok
returns-in_ok-bytes-in-Ok g c =
    subst (λ given. JoinsBy g.K.Kit.rules g.K.Kit.cut c.args.seats.now c.args.link given c.args.broker c.in_ok-bytes-in-Ok.bytes.items (record { seats = c.sit.new.self; document = c.join.new.self })) c.in_ok-given.ensures
    (joined_by g.K.Kit.rules g.K.Kit.cut c.args.seats.now c.sit.new.self c.args.link c.in_ok-given.given c.args.broker c.join.new.self c.in-Ok.view.0 c.in-Ok.outs c.in_ok-bytes-in-Ok.bytes.items
    c.in-Ok.ensures.step c.in-Ok.ensures.view c.in_ok-sit-in-Ok.ensures (c.in_ok-bytes-in-Ok.ensures ∙ ap (records c.sit.new.self) c.get.ensures))
