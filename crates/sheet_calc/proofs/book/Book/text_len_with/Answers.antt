use Rattle.std.proofs.Common.{◌≡◌, ℕ, List, length, ap, ◌∙◌, arith}
use Rattle.part_calc.specs.Text.{line_at}
use Rattle.part_calc.proofs.LengthLaws.{short_raw}
use Rattle.sheet_calc.specs.Books.{position_of, text_of}
use Rattle.sheet_calc.proofs.BookLaws.{edited_text}
use Rattle.sheet_calc.proofs.book.Book.text_len_with.Goals as goal

pub overflow_add-result : goal.overflow_add-result
overflow_add-result c =
    let short = short_raw c.args.raw.now c.requires.valid in
    omega (arith, short, c.line_len_at-new.ensures.small, c.text_len.ensures.small)

pub overflow_sub-result : goal.overflow_sub-result
overflow_sub-result c =
    let at = c.args.at.now in
    let told = edited_text c.args.self.now at c.args.raw.now c.parts-count.ensures.kept c.requires.cell.part in
    let old : c.line_len_at-old.result ≡ length (line_at at.part (position_of at) (text_of c.args.self.now at)) =
    c.line_len_at-old.ensures.length ∙ ap (λ (r : List ℕ). length (line_at at.part (position_of at) r)) c.raw.ensures in
    omega (arith, told, old, c.line_len_at-new.ensures.length, c.text_len.ensures.length)

pub returns : goal.returns
returns c =
    let at = c.args.at.now in
    let told = edited_text c.args.self.now at c.args.raw.now c.parts-count.ensures.kept c.requires.cell.part in
    let old : c.line_len_at-old.result ≡ length (line_at at.part (position_of at) (text_of c.args.self.now at)) =
    c.line_len_at-old.ensures.length ∙ ap (λ (r : List ℕ). length (line_at at.part (position_of at) r)) c.raw.ensures in
    omega (arith, told, old, c.line_len_at-new.ensures.length, c.text_len.ensures.length)
