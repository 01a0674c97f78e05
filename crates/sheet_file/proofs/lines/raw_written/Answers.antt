use Rattle.std.proofs.Common.{sym}
use Rattle.sheet_file.proofs.LineLaws.{raw_of_none}
use Rattle.sheet_file.proofs.lines.raw_written.Goals as goal

pub returns-in-Err : goal.returns-in-Err
returns-in-Err c = sym (raw_of_none c.args.raw.now c.in-Err.ensures.cases.0)
