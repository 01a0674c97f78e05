use Rattle.std.proofs.Common.{lit<, get_or, ◌<◌, subst, sym, ℕ}
use Rattle.std.proofs.lemmas.Str.{IsCharBoundary-after_ascii}
use Rattle.sheet_formula.proofs.tokenizing.token_at.Goals as goal

pub range_from-requires : goal.range_from-requires
range_from-requires c =
    let small : get_or c.args.text.now c.args.at 0 < 128 = subst (λ (n : ℕ). n < 128) (sym (rw c.as_bytes.ensures.value at c.if-as_bytes-at-eq34.true)) (lit< tt) in
    λ _. IsCharBoundary-after_ascii c.args.text.now c.args.at c.utf8.text c.requires small
