use Rattle.std.proofs.Common.{ℕ, List, [], ap}
use Rattle.std.specs.Prelude.{Option, unwrap_or}
use Rattle.sheet_cells.proofs.CellLaws.{other_cell}
use Rattle.sheet_cells.proofs.cells.Cells.set.Goals as goal

pub returns-then-is_empty-clause-elsewhere : goal.returns-then-is_empty-clause-elsewhere
returns-then-is_empty-clause-elsewhere c =
    λ other differs. rw (← c.self.view_is) (ap (λ (o : Option (List ℕ)). unwrap_or o []) (c.remove.ensures.updates.2 other (other_cell c.args.at.now other differs)))

pub returns-clause-elsewhere : goal.returns-clause-elsewhere
returns-clause-elsewhere c =
    λ other differs. rw (← c.self.view_is) (ap (λ (o : Option (List ℕ)). unwrap_or o []) (c.in_ok-insert.ensures.updates.2 other (other_cell c.args.at.now other differs)))
