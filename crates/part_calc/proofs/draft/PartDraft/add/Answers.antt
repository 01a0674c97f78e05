use Rattle.part_calc.proofs.KeptLaws.{added_kept, put_kept}
use Rattle.part_calc.proofs.draft.PartDraft.add.Goals as goal

pub invariant_of-self : goal.invariant_of-self
invariant_of-self c =
    added_kept c.self.inside.cells.entries c.put.new.cells.entries c.args.at c.in_ok-cell.cell c.args.raw.now c.put.result
    c.self.invariant c.requires.row c.requires.column c.requires.valid c.utf8.raw c.in_ok-cell.ensures c.put.ensures.ok c.put.ensures.ordered c.put.ensures.err

pub invariant_of-self-2 : goal.invariant_of-self-2
invariant_of-self-2 c =
    put_kept c.self.inside.cells.entries c.put.new.cells.entries c.args.at c.in_ok-cell.cell c.args.raw.now
    c.self.invariant c.requires.row c.requires.column c.requires.valid c.utf8.raw c.in_ok-cell.ensures c.in_ok-put.ensures.ok c.in_ok-put.ensures.ordered
