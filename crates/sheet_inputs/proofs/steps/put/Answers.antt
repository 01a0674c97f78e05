use Rattle.std.proofs.Common.{sym, ◌∙◌}
use Rattle.sheet_rules.proofs.ChangedCells.{in_reach, told_positions, told_damage}
use Rattle.sheet_rules.proofs.CursorLaws.{seated, unseated}
use Rattle.sheet_inputs.proofs.steps.put.Goals as goal

pub damage_of-requires-clause-cells : goal.damage_of-requires-clause-cells
damage_of-requires-clause-cells c =
    in_reach c.get.result.now (told_positions c.args.book.now c.set.new.self c.args.cursor.at.part c.in-Ok.changed c.get.result.now c.parts-before.ensures.kept c.parts-after.ensures.kept c.in-Ok.ensures.changed c.get.ensures)

pub returns-in-Ok-clause-seats : goal.returns-in-Ok-clause-seats
returns-in-Ok-clause-seats c =
    seated c.args.cursors.now.entries c.seat.new.cursors.entries c.reseat.new.cursors.entries c.args.view c.args.cursor c.in_ok-new.new c.in_ok-new.ensures.ok c.reseat.ensures

pub returns-in-Ok-clause-damage : goal.returns-in-Ok-clause-damage
returns-in-Ok-clause-damage c =
    c.damage_of.ensures ∙ told_damage c.args.book.now c.set.new.self c.args.cursor.at.part c.in-Ok.changed c.get.result.now c.in-Ok.ensures.changed c.get.ensures

pub returns-in-Err-clause-cursors : goal.returns-in-Err-clause-cursors
returns-in-Err-clause-cursors c =
    unseated c.args.cursors.now.entries c.seat.new.cursors.entries c.unseat.new.cursors.entries c.args.view c.args.cursor c.in_ok-new.new c.in_ok-new.ensures.ok c.in_ok-new.ensures.new c.unseat.ensures
