use Rattle.sheet_calc.proofs.BookLaws.{set_ok, set_there, set_elsewhere, set_exactly, set_changed}
use Rattle.sheet_calc.proofs.book.Book.set.Goals as goal

pub returns-clause-ok : goal.returns-clause-ok
returns-clause-ok c =
    set_ok c.self.inside.parts.items c.args.self.now c.args.at.now c.args.raw.now c.index_mut-part.result.now c.set.new.self c.self.view_is c.requires.cell.part c.index_mut-part.ensures.value c.in_ok-positions.ensures.ok

pub returns-clause-there : goal.returns-clause-there
returns-clause-there c =
    set_there c.self.inside.parts.items c.args.self.now c.args.at.now c.args.raw.now c.set.new.self c.self.view_is c.requires.cell.part c.in_ok-positions.ensures.there

pub returns-clause-elsewhere : goal.returns-clause-elsewhere
returns-clause-elsewhere c =
    set_elsewhere c.self.inside.parts.items c.args.self.now c.args.at.now c.index_mut-part.result.now c.set.new.self c.self.view_is c.requires.cell.part c.index_mut-part.ensures.value c.in_ok-positions.ensures.elsewhere

pub returns-clause-exactly : goal.returns-clause-exactly
returns-clause-exactly c =
    set_exactly c.self.inside.parts.items c.args.self.now c.args.at.now c.in_ok-positions.positions c.index_mut-part.result.now c.set.new.self c.self.view_is c.requires.cell.part c.index_mut-part.ensures.value c.in_ok-positions.ensures.exactly

pub returns-clause-changed : goal.returns-clause-changed
returns-clause-changed c =
    set_changed c.self.inside.parts.items c.args.self.now c.args.at.now c.args.raw.now c.in_ok-positions.positions c.index_mut-part.result.now c.set.new.self c.self.view_is c.requires.cell.part c.index_mut-part.ensures.value c.in_ok-positions.ensures.ok c.in_ok-positions.ensures.changed
