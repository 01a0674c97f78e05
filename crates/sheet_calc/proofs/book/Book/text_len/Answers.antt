use Rattle.std.proofs.Common.{◌≡◌, ℕ, length, ap, ◌∙◌, arith}
use Rattle.std.specs.Fmt.{decimal}
use Rattle.sheet_calc.specs.Books.{Parts}
use Rattle.sheet_calc.specs.FileText.{all_lines, file_text}
use Rattle.sheet_calc.proofs.BookLaws.{text_is}
use Rattle.sheet_calc.proofs.book.Book.text_len.Goals as goal

pub returns-clause-length : goal.returns-clause-length
returns-clause-length c =
    let parts = c.self.inside.parts.items in
    let count : c.len-count.result ≡ length parts = omega (arith, c.len-count.ensures) in
    text_is parts c.digits.result c.lines_len.result
    (c.digits.ensures.length ∙ ap (λ (n : ℕ). length (decimal n)) count)
    (c.lines_len.ensures.length ∙ ap (λ (s : Parts). length (all_lines 0 s)) c.as_slice.ensures.value)
    ∙ ap (λ (s : Parts). length (file_text s)) c.self.view_is
