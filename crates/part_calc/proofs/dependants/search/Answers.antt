use Rattle.std.proofs.Common.{subst, arith}
use Rattle.part_calc.specs.Walking.{IsWalk}
use Rattle.part_calc.proofs.WalkingLaws.{walk_first, walk_end}
use Rattle.part_calc.proofs.dependants.search.Goals as goal

pub loop-step-init : goal.loop-step-init
loop-step-init c = λ starts pushed.
    walk_first c.args.index.now.entries starts c.new-fresh.result.entries c.args.visits.items c.new-ordered.result.items c.new-fresh.ensures.empty c.new-ordered.ensures.items pushed

pub loop-step-preserved : goal.loop-step-preserved
loop-step-preserved c = λ starts pushed.
    c.in_ok-take-in-Some.ensures starts (subst (λ v. IsWalk c.args.index.now.entries starts c.loop-step.fresh.entries v c.loop-step.ordered.items) c.in-Some.ensures.items (c.loop-step.invariant starts pushed))

pub returns-in-None : goal.returns-in-None
returns-in-None c = λ starts pushed.
    walk_end c.args.index.now.entries starts c.loop-step.fresh.entries c.loop-step.visits.items c.loop-step.ordered.items c.turned.result.items (omega (arith, c.in-None.ensures.cases.0)) c.turned.ensures (c.loop-step.invariant starts pushed)
