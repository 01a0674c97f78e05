use Rattle.part_calc.proofs.WalkingLaws.{take_leave, take_enter}
use Rattle.part_calc.proofs.dependants.take.Goals as goal

pub returns-then-visit : goal.returns-then-visit
returns-then-visit c = λ starts walk.
    take_leave c.args.index.now.entries starts c.args.fresh.now.entries c.args.visits.now.items c.args.ordered.now.items c.push.new.self.items c.args.visit c.if-visit.true c.in_ok-push.ensures.items walk

pub returns : goal.returns
returns c = λ starts walk.
    c.in_ok-enter.ensures starts c.args.ordered.now.items (take_enter c.args.index.now.entries starts c.args.fresh.now.entries c.args.visits.now.items c.args.ordered.now.items c.args.visit c.if-visit.false walk)
