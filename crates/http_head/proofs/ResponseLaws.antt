-- A whole head of a response is one, and whole, begun and none exclude one another.
use Rattle.std.proofs.Common.{◌≡◌, ℕ, ◌≤◌, List, [], ◌∷◌, ◌++◌, ◌⊎◌, inl, inr, sym, ap, ◌∙◌, subst, arith, length, append_assoc, Some, None}
use Rattle.std.proofs.lemmas.List.{append-nil}
use Rattle.httparse.specs.Grammar.{ResponseHead, print_end, lf, print_response, ReadsResponse}
use Rattle.httparse.specs.Spans.{ResponseExceeds}
use Rattle.httparse.proofs.GrammarLemmas.{response_unique, ReadsResponse-append}
use Rattle.http_head.specs.declared.parts.ResponseParts.{ResponseParts}
use Rattle.http_head.specs.Responses.{ReadsResponseHead, response_said, BeginsResponse, IsNoResponse}
use Rattle.http_head.proofs.Cuts.{two_cuts, last_of}
use Rattle.http_head.proofs.Counts.{before_last, begun_few, snoc_some, lines_of, section_last, ends_in_last}
use Rattle.http_head.specs.Corners.{ends_in}
use Rattle.http_head.proofs.ResponseHeads.{response_start, response_start_is, response_ends}

pub one_response : (bytes : List ℕ) (p q : ResponseParts) (r s : List ℕ) → ReadsResponseHead bytes p r → ReadsResponseHead bytes q s → (p ≡ q) × (r ≡ s)
one_response bytes p q r s (h, x, few, said) (k, y, few', said') =
    let same = response_unique bytes h k r s x y in
    let e : Some p ≡ Some q = sym said ∙ ap response_said same.0 ∙ said' in
    let inner : p ≡ q = cc in
    (inner, same.1)

pub response_stays : (bytes more : List ℕ) (p : ResponseParts) (r : List ℕ) → ReadsResponseHead bytes p r → ReadsResponseHead (bytes ++ more) p (r ++ more)
response_stays bytes more p r (h, x, few, said) = (h, ReadsResponse-append bytes h r more x, few, said)

pub whole_not_begun : (bytes : List ℕ) (p : ResponseParts) (r : List ℕ) → ReadsResponseHead bytes p r → BeginsResponse bytes → ⊥
whole_not_begun bytes p r (h, x, few, said) begun = begun.not_whole h r x

-- a front that has too many lines is no front of a head that has not
whole_not_long : (bytes : List ℕ) (h : ResponseHead) (r : List ℕ) → ReadsResponse bytes h r → length h.fields ≤ 64 → ResponseExceeds 64 bytes → ⊥
whole_not_long bytes h r x few (front, rest, is, k, y, many) =
    elim (two_cuts front rest (print_response h) r (sym is ∙ x.1)) [
      | inl w ↦ beyond w.0 w.1
      | inr w ↦ within w.0 w.1 (last_of w.0)
    ]
  where
    beyond : (m : List ℕ) → front ≡ print_response h ++ m → ⊥
    beyond m begins =
        let text : front ++ print_end lf ≡ print_response h ++ (m ++ print_end lf) = ap (λ t. t ++ print_end lf) begins ∙ append_assoc (print_response h) m (print_end lf) in
        let same = response_unique (front ++ print_end lf) h k (m ++ print_end lf) [] (x.0, text) y in
        snoc_some m 10 same.1

    within : (m : List ℕ) → print_response h ≡ front ++ m → ((m ≡ []) ⊎ ((b : List ℕ) × (z : ℕ) × (m ≡ b ++ z ∷ []))) → ⊥
    within m begins (inl none) = beyond [] (sym (append-nil front) ∙ ap (λ t. front ++ t) (sym none) ∙ sym begins ∙ sym (append-nil (print_response h)))
    within m begins (inr w) =
        let whole : front ++ m ≡ response_start h ++ (lines_of h.fields ++ print_end h.last) = sym begins ∙ sym (append-nil (print_response h)) ∙ response_ends h in
        let low = begun_few (response_start h) (response_start_is h x.0) h.fields h.last x.0.fields front m whole (λ none. snoc_some w.0 w.1 (sym w.2 ∙ none)) in
        let high = before_last (response_start k) (response_start_is k y.0) k.fields k.last y.0.fields front 10 (y.1 ∙ response_ends k) in
        omega arith

pub whole_not_none : (bytes : List ℕ) (p : ResponseParts) (r : List ℕ) → ReadsResponseHead bytes p r → IsNoResponse bytes → ⊥
whole_not_none bytes p r (h, x, few, said) (inl never) = never [] h r (subst (λ t. ReadsResponse t h r) (sym (append-nil bytes)) x)
whole_not_none bytes p r (h, x, few, said) (inr (inl many)) = whole_not_long bytes h r x few many
whole_not_none bytes p r (h, x, few, said) (inr (inr (k, s, y, wrong))) =
    let same = response_unique bytes h k r s x y in
    let e : Some p ≡ None = sym said ∙ ap response_said same.0 ∙ wrong in
    cc

pub begun_not_none : (bytes : List ℕ) → BeginsResponse bytes → IsNoResponse bytes → ⊥
begun_not_none bytes begun (inl never) = never begun.can_end.0 begun.can_end.1 [] begun.can_end.2
begun_not_none bytes begun (inr (inl many)) = begun.few_lines many
begun_not_none bytes begun (inr (inr (k, s, y, wrong))) = begun.not_whole k s y

exceeds_stays : (bytes more : List ℕ) → ResponseExceeds 64 bytes → ResponseExceeds 64 (bytes ++ more)
exceeds_stays bytes more (front, rest, is, h, reads, many) = (front, rest ++ more, ap (λ t. t ++ more) is ∙ append_assoc front rest more, h, reads, many)

pub none_stays : (bytes more : List ℕ) → IsNoResponse bytes → IsNoResponse (bytes ++ more)
none_stays bytes more (inl never) = inl (λ after h rest reads. never (more ++ after) h rest (subst (λ t. ReadsResponse t h rest) (append_assoc bytes more after) reads))
none_stays bytes more (inr (inl many)) = inr (inl (exceeds_stays bytes more many))
none_stays bytes more (inr (inr (k, s, y, wrong))) = inr (inr (k, s ++ more, ReadsResponse-append bytes k s more y, wrong))

-- a front of bytes that begin a head begins it
pub begun_before : (bytes more : List ℕ) → BeginsResponse (bytes ++ more) → BeginsResponse bytes
begun_before bytes more begun = record {
  not_whole = λ h rest reads. begun.not_whole h (rest ++ more) (ReadsResponse-append bytes h rest more reads);
  can_end = (more ++ begun.can_end.0, begun.can_end.1, subst (λ t. ReadsResponse t begun.can_end.1 []) (append_assoc bytes more begun.can_end.0) begun.can_end.2);
  few_lines = λ many. begun.few_lines (exceeds_stays bytes more many);
}

-- a head that is whole with bytes that end no line is whole without them
pub opens_no_longer : (lines tail : List ℕ) (p : ResponseParts) (r : List ℕ) → BeginsResponse lines → ends_in tail ≡ 0 → ReadsResponseHead (lines ++ tail) p r → ⊥
opens_no_longer lines tail p r begun none (h, x, few, said) =
    let end = section_last h.fields h.last x.0.fields in
    let text : print_response h ≡ (response_start h ++ end.0) ++ 10 ∷ [] =
    sym (append-nil (print_response h)) ∙ response_ends h ∙ ap (λ t. response_start h ++ t) end.1 ∙ sym (append_assoc (response_start h) end.0 (10 ∷ [])) in
    let inside = ends_in_last lines tail r (response_start h ++ end.0) (print_response h) none text x.1 in
    begun.not_whole h inside.0 (x.0, inside.1)
