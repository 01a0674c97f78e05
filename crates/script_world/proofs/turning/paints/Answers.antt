use Rattle.std.proofs.Common.{◌∙◌, ap}
use Rattle.script_world.specs.Seats.{records}
use Rattle.script_world.proofs.Answers.{comes_back}
use Rattle.script_world.proofs.turning.paints.Goals as goal

pub returns : goal.returns
returns g c =
    comes_back g.K.Kit.rules g.K.Kit.cut c.args.seats.now c.args.broker.now c.painted.new.self c.args.job c.in_ok-done.done.ticket.0 c.in_ok-done.done.scene c.in_ok-outs.outs c.in_ok-bytes.bytes.items
    (ap (λ t. t.0) c.in_ok-done.ensures.0) c.in_ok-done.ensures.1 c.in_ok-outs.ensures.step (c.in_ok-bytes.ensures ∙ ap (records c.args.seats.now) c.get.ensures)
