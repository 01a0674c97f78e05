use Rattle.std.proofs.Common.{refl}
use Rattle.part_calc.proofs.KeptLaws.{put_kept, set_kept, failed_kept, failed_put, set_exactly, set_in_order, set_there, set_elsewhere}
use Rattle.part_calc.proofs.KnowLaws.{knows_grown}
use Rattle.part_calc.proofs.part.Part.set.Goals as goal

pub recalculate-requires-clause-knows : goal.recalculate-requires-clause-knows
recalculate-requires-clause-knows c = knows_grown c.self.inside.cells.entries c.self.inside.index.entries c.learn.new.index.entries c.self.invariant.3 c.learn.ensures.grown

pub invariant_of-self : goal.invariant_of-self
invariant_of-self c =
    failed_kept c.self.inside.cells.entries c.self.inside.fates.entries c.self.inside.fates.entries c.self.inside.index.entries c.learn.new.index.entries c.self.inside.kept c.self.invariant (λ p h. refl) c.learn.ensures.grown

pub invariant_of-self-in_err-found : goal.invariant_of-self-in_err-found
invariant_of-self-in_err-found c =
    failed_kept c.self.inside.cells.entries c.self.inside.fates.entries c.self.inside.fates.entries c.self.inside.index.entries c.learn.new.index.entries c.self.inside.kept c.self.invariant (λ p h. refl) c.learn.ensures.grown

pub invariant_of-self-in_err-make_room : goal.invariant_of-self-in_err-make_room
invariant_of-self-in_err-make_room c =
    failed_kept c.self.inside.cells.entries c.self.inside.fates.entries c.make_room.new.kept.entries c.self.inside.index.entries c.learn.new.index.entries c.self.inside.kept c.self.invariant c.make_room.ensures.stay c.learn.ensures.grown

pub invariant_of-self-in_err-before : goal.invariant_of-self-in_err-before
invariant_of-self-in_err-before c =
    failed_put c.self.inside.cells.entries c.put.new.cells.entries c.self.inside.fates.entries c.make_room.new.kept.entries c.self.inside.index.entries c.learn.new.index.entries c.self.inside.kept c.in_err-before.ensures.err c.self.invariant c.make_room.ensures.stay c.learn.ensures.grown

pub invariant_of-self-2 : goal.invariant_of-self-2
invariant_of-self-2 c =
    set_kept c.self.inside.cells.entries c.put.new.cells.entries c.args.at c.in_ok-cell.cell c.args.raw.now c.self.inside.fates.entries c.make_room.new.kept.entries c.commit.new.kept.entries c.tidy.new.kept.entries c.in_ok-found.found.fates.items
    c.self.inside.index.entries c.learn.new.index.entries c.unlearn.new.index.entries c.edited_len-kept.result
    c.self.invariant.0 c.self.invariant.1 c.self.invariant.3 c.requires.row c.requires.column c.requires.valid c.utf8.raw c.in_ok-cell.ensures c.in_ok-before.ensures.ok c.in_ok-before.ensures.ordered
    c.edited_len-kept.ensures c.in_ok-found.ensures.computed c.make_room.ensures.stay c.in_ok-make_room.ensures.there c.commit.ensures c.tidy.ensures c.learn.ensures.grown c.in_ok-learn.ensures.added c.unlearn.ensures

pub returns-clause-exactly : goal.returns-clause-exactly
returns-clause-exactly c =
    set_exactly c.self.inside.cells.entries c.args.self.now c.put.new.cells.entries c.args.at c.in_ok-cell.cell c.in_ok-found.found.changed c.self.view_is c.in_ok-before.ensures.ok c.in_ok-found.ensures.changed

pub returns-clause-in_order : goal.returns-clause-in_order
returns-clause-in_order c =
    set_in_order c.self.inside.cells.entries c.args.at c.in_ok-cell.cell c.in_ok-found.found.changed c.self.invariant.0 c.in_ok-found.ensures.changed

pub returns-clause-there : goal.returns-clause-there
returns-clause-there c =
    set_there c.self.inside.cells.entries c.put.new.cells.entries c.args.at c.in_ok-cell.cell c.args.raw.now c.self.invariant.0 c.in_ok-cell.ensures c.in_ok-before.ensures.ok

pub returns-clause-elsewhere : goal.returns-clause-elsewhere
returns-clause-elsewhere c =
    set_elsewhere c.self.inside.cells.entries c.args.self.now c.put.new.cells.entries c.args.at c.in_ok-cell.cell c.self.invariant.0 c.self.view_is c.in_ok-before.ensures.ok

pub returns-clause-kept : goal.returns-clause-kept
returns-clause-kept c =
    put_kept c.self.inside.cells.entries c.put.new.cells.entries c.args.at c.in_ok-cell.cell c.args.raw.now
    c.self.invariant.0 c.requires.row c.requires.column c.requires.valid c.utf8.raw c.in_ok-cell.ensures c.in_ok-before.ensures.ok c.in_ok-before.ensures.ordered
