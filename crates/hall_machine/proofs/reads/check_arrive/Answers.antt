use Rattle.std.proofs.Common.{sym, arith}
use Rattle.hall_machine.specs.States.{staged}
use Rattle.hall_machine.proofs.Owners.{arrives}
use Rattle.hall_machine.proofs.reads.check_arrive.Goals as goal

pub returns-in-Some : goal.returns-in-Some
returns-in-Some g c =
    let place = sym c.in-Some.ensures.place in
    let h = arrives (staged g.M.Labelled.tag c.args.next c.args.opens.now c.args.entries) c.args.who
    c.in-Some.at c.see.result.doc place c.see.ensures.doc in
    (h.0, place, h.1, c.in-Some.ensures.within, omega (arith, h.2))
