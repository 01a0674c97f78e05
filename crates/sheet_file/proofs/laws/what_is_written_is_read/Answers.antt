use Rattle.sheet_file.proofs.FileLaws.{file_is_read}
use Rattle.sheet_file.proofs.laws.what_is_written_is_read.Goals as goal

pub returns : goal.returns
returns c = file_is_read
