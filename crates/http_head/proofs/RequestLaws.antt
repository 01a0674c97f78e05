-- A whole head of a request is one, and whole, begun and none exclude one another.
use Rattle.std.proofs.Common.{◌≡◌, ℕ, ◌≤◌, List, [], ◌∷◌, ◌++◌, ◌⊎◌, inl, inr, sym, ap, ◌∙◌, subst, arith, length, append_assoc, Some, None}
use Rattle.std.proofs.lemmas.List.{append-nil}
use Rattle.httparse.specs.Grammar.{RequestHead, print_end, lf, print_request, ReadsRequest}
use Rattle.httparse.specs.Spans.{RequestExceeds}
use Rattle.httparse.proofs.GrammarLemmas.{request_unique, ReadsRequest-append}
use Rattle.http_head.specs.declared.parts.RequestParts.{RequestParts}
use Rattle.http_head.specs.Requests.{ReadsPlain, ReadsRequestHead, request_said, BeginsRequest, IsNoRequest}
use Rattle.http_head.proofs.Cuts.{two_cuts, last_of}
use Rattle.http_head.proofs.Counts.{before_last, begun_few, snoc_some, lines_of, section_last, ends_in_last}
use Rattle.http_head.specs.Corners.{ends_in}
use Rattle.http_head.proofs.RequestHeads.{request_start, request_start_is, request_ends, can_end_front}

pub one_request : (bytes : List ℕ) (p q : RequestParts) (r s : List ℕ) → ReadsRequestHead bytes p r → ReadsRequestHead bytes q s → (p ≡ q) × (r ≡ s)
one_request bytes p q r s (h, x, few, said) (k, y, few', said') =
    let same = request_unique bytes h k r s x.0 y.0 in
    let e : Some p ≡ Some q = sym said ∙ ap request_said same.0 ∙ said' in
    let inner : p ≡ q = cc in
    (inner, same.1)

pub request_stays : (bytes more : List ℕ) (p : RequestParts) (r : List ℕ) → ReadsRequestHead bytes p r → ReadsRequestHead (bytes ++ more) p (r ++ more)
request_stays bytes more p r (h, x, few, said) = (h, (ReadsRequest-append bytes h r more x.0, x.1), few, said)

pub whole_not_begun : (bytes : List ℕ) (p : RequestParts) (r : List ℕ) → ReadsRequestHead bytes p r → BeginsRequest bytes → ⊥
whole_not_begun bytes p r (h, x, few, said) begun = begun.not_whole h r x.0

-- a front that has too many lines is no front of a head that has not
whole_not_long : (bytes : List ℕ) (h : RequestHead) (r : List ℕ) → ReadsRequest bytes h r → length h.fields ≤ 64 → RequestExceeds 64 bytes → ⊥
whole_not_long bytes h r x few (front, rest, is, k, y, many) =
    elim (two_cuts front rest (print_request h) r (sym is ∙ x.1)) [
      | inl w ↦ beyond w.0 w.1
      | inr w ↦ within w.0 w.1 (last_of w.0)
    ]
  where
    beyond : (m : List ℕ) → front ≡ print_request h ++ m → ⊥
    beyond m begins =
        let text : front ++ print_end lf ≡ print_request h ++ (m ++ print_end lf) = ap (λ t. t ++ print_end lf) begins ∙ append_assoc (print_request h) m (print_end lf) in
        let same = request_unique (front ++ print_end lf) h k (m ++ print_end lf) [] (x.0, text) y in
        snoc_some m 10 same.1

    within : (m : List ℕ) → print_request h ≡ front ++ m → ((m ≡ []) ⊎ ((b : List ℕ) × (z : ℕ) × (m ≡ b ++ z ∷ []))) → ⊥
    within m begins (inl none) = beyond [] (sym (append-nil front) ∙ ap (λ t. front ++ t) (sym none) ∙ sym begins ∙ sym (append-nil (print_request h)))
    within m begins (inr w) =
        let whole : front ++ m ≡ request_start h ++ (lines_of h.fields ++ print_end h.last) = sym begins ∙ sym (append-nil (print_request h)) ∙ request_ends h in
        let low = begun_few (request_start h) (request_start_is h x.0) h.fields h.last x.0.fields front m whole (λ none. snoc_some w.0 w.1 (sym w.2 ∙ none)) in
        let high = before_last (request_start k) (request_start_is k y.0) k.fields k.last y.0.fields front 10 (y.1 ∙ request_ends k) in
        omega arith

pub whole_not_none : (bytes : List ℕ) (p : RequestParts) (r : List ℕ) → ReadsRequestHead bytes p r → IsNoRequest bytes → ⊥
whole_not_none bytes p r (h, x, few, said) (inl never) = never [] h r (subst (λ t. ReadsPlain t h r) (sym (append-nil bytes)) x)
whole_not_none bytes p r (h, x, few, said) (inr (inl many)) = whole_not_long bytes h r x.0 few many
whole_not_none bytes p r (h, x, few, said) (inr (inr (k, s, y, wrong))) =
    let same = request_unique bytes h k r s x.0 y.0 in
    let e : Some p ≡ None = sym said ∙ ap request_said same.0 ∙ wrong in
    cc

pub begun_not_none : (bytes : List ℕ) → BeginsRequest bytes → IsNoRequest bytes → ⊥
begun_not_none bytes begun (inl never) = never begun.can_end.0 begun.can_end.1 [] begun.can_end.2
begun_not_none bytes begun (inr (inl many)) = begun.few_lines many
begun_not_none bytes begun (inr (inr (k, s, y, wrong))) = begun.not_whole k s y.0

exceeds_stays : (bytes more : List ℕ) → RequestExceeds 64 bytes → RequestExceeds 64 (bytes ++ more)
exceeds_stays bytes more (front, rest, is, h, reads, many) = (front, rest ++ more, ap (λ t. t ++ more) is ∙ append_assoc front rest more, h, reads, many)

pub none_stays : (bytes more : List ℕ) → IsNoRequest bytes → IsNoRequest (bytes ++ more)
none_stays bytes more (inl never) = inl (λ after h rest reads. never (more ++ after) h rest (subst (λ t. ReadsPlain t h rest) (append_assoc bytes more after) reads))
none_stays bytes more (inr (inl many)) = inr (inl (exceeds_stays bytes more many))
none_stays bytes more (inr (inr (k, s, y, wrong))) = inr (inr (k, s ++ more, (ReadsRequest-append bytes k s more y.0, y.1), wrong))

-- a front of bytes that begin a head begins it
pub begun_before : (bytes more : List ℕ) → BeginsRequest (bytes ++ more) → BeginsRequest bytes
begun_before bytes more begun = record {
  not_whole = λ h rest reads. begun.not_whole h (rest ++ more) (ReadsRequest-append bytes h rest more reads);
  can_end = can_end_front bytes more begun.can_end;
  few_lines = λ many. begun.few_lines (exceeds_stays bytes more many);
}

-- a head that is whole with bytes that end no line is whole without them
pub opens_no_longer : (lines tail : List ℕ) (p : RequestParts) (r : List ℕ) → BeginsRequest lines → ends_in tail ≡ 0 → ReadsRequestHead (lines ++ tail) p r → ⊥
opens_no_longer lines tail p r begun none (h, x, few, said) =
    let end = section_last h.fields h.last x.0.0.fields in
    let text : print_request h ≡ (request_start h ++ end.0) ++ 10 ∷ [] =
    sym (append-nil (print_request h)) ∙ request_ends h ∙ ap (λ t. request_start h ++ t) end.1 ∙ sym (append_assoc (request_start h) end.0 (10 ∷ [])) in
    let inside = ends_in_last lines tail r (request_start h ++ end.0) (print_request h) none text x.0.1 in
    begun.not_whole h inside.0 (x.0.0, inside.1)
