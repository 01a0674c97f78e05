use Rattle.std.proofs.Common.{◌≡◌, List, ℕ, length, ap, ◌∙◌, arith}
use Rattle.part_calc.specs.Parts.{text_at}
use Rattle.part_calc.specs.Text.{line_at}
use Rattle.part_calc.proofs.LengthLaws.{short_raw, text_fits}
use Rattle.part_calc.proofs.EditLengths.{edited_length}
use Rattle.part_calc.proofs.lengths.edited_len.Goals as goal

pub overflow_add-result : goal.overflow_add-result
overflow_add-result c =
    let short = text_fits 0 c.args.cells.now.entries (omega arith) c.requires.part in
    let raw = short_raw c.args.raw.now c.requires.valid in
    let new = c.line_len_at-new.ensures.small in
    omega (arith, c.requires.kept, short, raw, new)

pub overflow_sub-result : goal.overflow_sub-result
overflow_sub-result c =
    let told = edited_length 0 c.args.cells.now.entries c.args.at c.args.raw.now c.requires.part in
    let old : c.line_len_at-old.result ≡ length (line_at 0 c.args.at (text_at c.args.cells.now.entries c.args.at)) =
    c.line_len_at-old.ensures.length ∙ ap (λ (raw : List ℕ). length (line_at 0 c.args.at raw)) c.raw_at.ensures in
    omega (arith, told, old, c.line_len_at-new.ensures.length, c.requires.kept)

pub returns : goal.returns
returns c =
    let told = edited_length 0 c.args.cells.now.entries c.args.at c.args.raw.now c.requires.part in
    let old : c.line_len_at-old.result ≡ length (line_at 0 c.args.at (text_at c.args.cells.now.entries c.args.at)) =
    c.line_len_at-old.ensures.length ∙ ap (λ (raw : List ℕ). length (line_at 0 c.args.at raw)) c.raw_at.ensures in
    omega (arith, told, old, c.line_len_at-new.ensures.length, c.requires.kept)
