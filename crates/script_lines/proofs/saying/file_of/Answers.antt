use Rattle.script_lines.proofs.Files.{not_text}
use Rattle.script_lines.proofs.saying.file_of.Goals as goal

pub returns-in-Err : goal.returns-in-Err
returns-in-Err c = not_text c.args.bytes.now c.in-Err.ensures.cases.0
