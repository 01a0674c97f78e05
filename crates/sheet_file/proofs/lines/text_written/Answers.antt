use Rattle.std.proofs.Common.{◌≤◌, length, arith, sym, ◌∙◌}
use Rattle.std.proofs.lemmas.Grind.{common_steps}
use Rattle.sheet_file.proofs.LineLaws.{raw_some}
use Rattle.sheet_file.proofs.lines.text_written.Goals as goal

pub returns-then-is_raw : goal.returns-then-is_raw
returns-then-is_raw c =
    let some : 1 ≤ length c.args.text.now = grind (arith, common_steps) in
    sym (raw_some c.args.text.now c.utf8.text some (sym c.is_raw.ensures ∙ c.if-is_raw.true))
