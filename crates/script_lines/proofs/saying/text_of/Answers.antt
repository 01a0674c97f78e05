use Rattle.std.proofs.Common.{sym}
use Rattle.std.proofs.lemmas.Str.{is_utf8-from_IsUtf8}
use Rattle.script_lines.proofs.Files.{no_text}
use Rattle.script_lines.proofs.saying.text_of.Goals as goal

pub returns-in-Err-clause-form : goal.returns-in-Err-clause-form
returns-in-Err-clause-form c = no_text c.args.bytes.now c.in-Err.ensures.cases.0

pub returns-in-Ok-clause-form : goal.returns-in-Ok-clause-form
returns-in-Ok-clause-form c = sym (is_utf8-from_IsUtf8 _ c.in-Ok.ensures.cases.1)
