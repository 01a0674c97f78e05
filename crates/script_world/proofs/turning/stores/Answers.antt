use Rattle.std.proofs.Common.{◌∙◌, ap}
use Rattle.document_laws.specs.AtOnce.{stored}
use Rattle.script_world.specs.Seats.{records}
use Rattle.script_world.proofs.Answers.{takes_one}
use Rattle.script_world.proofs.turning.stores.Goals as goal

pub returns : goal.returns
returns g c =
    takes_one g.K.Kit.rules g.K.Kit.cut c.args.seats.now c.args.broker.now c.put_done.new.self (stored c.args.errand) c.in_ok-outs.outs c.in_ok-bytes.bytes.items
    c.in_ok-outs.ensures.step (c.in_ok-bytes.ensures ∙ ap (records c.args.seats.now) c.get.ensures)
