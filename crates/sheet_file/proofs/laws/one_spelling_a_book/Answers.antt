use Rattle.sheet_file.proofs.FileLaws.{read_is_book, read_is_written}
use Rattle.sheet_file.proofs.laws.one_spelling_a_book.Goals as goal

pub returns-clause-text : goal.returns-clause-text
returns-clause-text c = read_is_written

pub returns-clause-book : goal.returns-clause-book
returns-clause-book c = read_is_book
