use Rattle.script_laws.proofs.patches_and_sheets_are_right.Goals as goal

pub returns-clause-patch : goal.returns-clause-patch
returns-clause-patch c = c.replays_are_right.ensures.written

pub returns-clause-sheet : goal.returns-clause-sheet
returns-clause-sheet c = c.replays_are_right-2.ensures.written
