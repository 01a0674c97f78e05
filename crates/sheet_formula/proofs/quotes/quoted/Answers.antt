use Rattle.std.proofs.Common.{◌≡◌, ◌++◌, ◌∷◌, [], List, ℕ, length, length-append, append_assoc, ◌+◌, arith, sym, ◌∙◌, ap, lit<, rules}
use Rattle.std.specs.Prelude.{Some, None, string_bytes}
use Rattle.std.proofs.lemmas.Str.Pattern.{split_parts, strip_prefix_char}
use Rattle.sheet_formula.specs.Tokens.{Text, quoted, with_front}
use Rattle.sheet_formula.proofs.Quoting.{quoted_more, quoted_end, quoted_none, behind_piece, dropped}
use Rattle.sheet_formula.proofs.quotes.quoted.Goals as goal

pub loop-piece-preserved : goal.loop-piece-preserved
loop-piece-preserved c =
    let parts = split_parts 34 c.loop-piece.rest.now (Some (c.in-Some.piece, c.in-Some.behind)) c.in-Some.ensures.cases (lit< tt) in
    let twice = strip_prefix_char 34 c.in-Some.behind.now (Some c.in-Some-strip_prefix.more) c.in-Some-strip_prefix.ensures.cases (lit< tt) in
    let front = string_bytes c.loop-piece.words in
    let words : string_bytes c.push.new.self ≡ (front ++ c.in-Some.piece.now) ++ 34 ∷ [] =
    c.in_ok-push-in-Some-strip_prefix.ensures.bytes
    ∙ ap (λ (code : List ℕ). string_bytes c.push_str.new.self ++ code) (c.push.ensures.ascii (lit< tt))
    ∙ ap (λ (text : List ℕ). text ++ 34 ∷ []) c.in_ok-push_str.ensures.bytes in
    let taken = c.loop-piece.invariant.2.0 in
    let piece = (taken ++ c.in-Some.piece.now) ++ 34 ∷ [] in (
      search rules,
      ap (λ (text : Text). with_front text (quoted c.in-Some-strip_prefix.more.now)) words
          ∙ quoted_more front c.loop-piece.rest.now c.in-Some.piece.now c.in-Some.behind.now c.in-Some-strip_prefix.more.now parts.0 parts.1 twice
          ∙ c.loop-piece.invariant.1,
      (
        piece ++ 34 ∷ [],
        behind_piece taken c.args.text.now c.loop-piece.rest.now c.in-Some.piece.now c.in-Some.behind.now c.loop-piece.invariant.2.1 parts.0
            ∙ ap (λ (behind : Text). piece ++ behind) twice
            ∙ sym (append_assoc piece (34 ∷ []) c.in-Some-strip_prefix.more.now),
      ),
    )

pub returns-in-None : goal.returns-in-None
returns-in-None c =
    let parts = split_parts 34 c.loop-piece.rest.now (Some (c.in-Some.piece, c.in-Some.behind)) c.in-Some.ensures.cases (lit< tt) in
    let closed = strip_prefix_char 34 c.in-Some.behind.now None c.in-None.ensures.cases (lit< tt) in
    let text = c.args.text.now in
    let behind = c.in-Some.behind.now in
    let taken = c.loop-piece.invariant.2.0 in
    let piece = taken ++ c.in-Some.piece.now in
    let whole : text ≡ (piece ++ 34 ∷ []) ++ behind = behind_piece taken text c.loop-piece.rest.now c.in-Some.piece.now behind c.loop-piece.invariant.2.1 parts.0 in
    let long : length text ≡ length piece + 1 + length behind = omega (arith, ap length whole, length-append (piece ++ 34 ∷ []) behind, length-append piece (34 ∷ [])) in (
      sym c.loop-piece.invariant.1
          ∙ quoted_end (string_bytes c.loop-piece.words) c.loop-piece.rest.now c.in-Some.piece.now behind parts.0 parts.1 closed
          ∙ ap (λ (words : Text). Some (words, behind)) (sym (c.of.ensures ∙ c.in_ok-push_str.ensures.bytes))
          ∙ ap (λ (rest : Text). Some (c.of.result, rest)) (dropped (piece ++ 34 ∷ []) text behind whole),
      omega (arith, long),
      omega (arith, long),
    )

pub returns : goal.returns
returns c =
    let none = split_parts 34 c.loop-piece.rest.now None c.in_default.ensures.cases (lit< tt) in
    sym c.loop-piece.invariant.1 ∙ ap (with_front (string_bytes c.loop-piece.words)) (quoted_none c.loop-piece.rest.now none)
