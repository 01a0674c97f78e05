use Rattle.std.proofs.Common.{subst, sym, ◌∙◌}
use Rattle.part_calc.specs.Lanes.{is_reader}
use Rattle.part_calc.specs.Walking.{IsPushed}
use Rattle.part_calc.proofs.WalkingLaws.{walk_again, walk_enter}
use Rattle.part_calc.proofs.dependants.enter.Goals as goal

pub returns-then-was_entered : goal.returns-then-was_entered
returns-then-was_entered c = λ starts ordered walk.
    walk_again c.args.index.now.entries starts c.args.fresh.now.entries c.mark.new.fresh.entries c.args.visits.now.items ordered c.args.position
    (sym c.in_ok-was_entered.ensures.before ∙ c.if-was_entered.true) c.in_ok-was_entered.ensures.marked walk

pub returns : goal.returns
returns c = λ starts ordered walk.
    walk_enter c.args.index.now.entries starts c.args.fresh.now.entries c.mark.new.fresh.entries c.args.visits.now.items c.push_readers.new.visits.items ordered c.args.position
    (sym c.in_ok-was_entered.ensures.before ∙ c.if-was_entered.false) c.in_ok-was_entered.ensures.marked
    (subst (λ v. IsPushed v c.push_readers.new.visits.items (is_reader c.args.index.now.entries c.args.position)) c.in_ok-push.ensures.items c.in_ok-push_readers.ensures) walk
