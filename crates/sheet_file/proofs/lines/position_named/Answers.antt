use Rattle.std.proofs.Common.{sym}
use Rattle.sheet_file.proofs.LineLaws.{capitals_are_utf8}
use Rattle.sheet_file.proofs.lines.position_named.Goals as goal

pub returns-in-Err : goal.returns-in-Err
returns-in-Err c = absurd (c.in-Err.ensures.cases.0 (capitals_are_utf8 c.args.word.now (sym c.if-not-has_no_small_letter.ensures)))
