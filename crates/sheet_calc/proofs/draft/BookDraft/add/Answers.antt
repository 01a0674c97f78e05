use Rattle.sheet_calc.proofs.BookLaws.{added_ok}
use Rattle.sheet_calc.proofs.draft.BookDraft.add.Goals as goal

pub returns-clause-ok : goal.returns-clause-ok
returns-clause-ok c =
    added_ok c.self.inside.parts.items c.args.self.now c.args.at.now c.args.raw.now c.index_mut-part.result.now c.add.new.self c.add.result c.self.view_is c.requires.cell.part c.index_mut-part.ensures.value c.add.ensures.ok
