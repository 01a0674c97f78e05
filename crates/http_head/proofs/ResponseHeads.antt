-- From what httparse says of the bytes to whether they are the head of a response, begin one, or are none.
use Rattle.std.proofs.Common.{◌≡◌, ℕ, zero, suc, ◌+◌, ◌≤◌, true, false, leb-true, List, [], ◌∷◌, ◌++◌, inl, inr, refl, sym, ap, ◌∙◌, subst, arith, length, take, drop, map, append_assoc, Option, Some, None, Result, Ok, Err}
use Rattle.std.specs.Prelude.{IfOk}
use Rattle.std.specs.List.{list_all}
use Rattle.std.specs.Char.{is_ascii_digit}
use Rattle.std.proofs.lemmas.Bool.Decides.{nat_tests}
use Rattle.std.proofs.lemmas.List.{length-map, length-take, length-take-le, append-nil}
use Rattle.std.proofs.lemmas.List.Folds.{list_all-append}
use Rattle.std.proofs.lemmas.List.Sums.{list_all-from_AllPass}
use Rattle.std.proofs.lemmas.List.Elements.{All-take}
use Rattle.httparse.specs.declared.spans.HeaderSpan.{HeaderSpan}
use Rattle.httparse.specs.declared.spans.ResponseSpans.{ResponseSpans}
use Rattle.httparse.specs.Grammar.{is_value_byte, AllPass, LineEnd, crlf, lf, print_end, print_blank, print_version, print_reason, reason_phrase, IsField, ResponseHead, IsResponseHead, print_response, ReadsResponse, HasNoResponse, MayBecomeResponse}
use Rattle.httparse.specs.Spans.{IsResponseAt, IsResponseOf, IsResponseWithin, ResponseExceeds, header_bytes, name_and_value}
use Rattle.httparse.proofs.GrammarLemmas.{cons-append, print_response-append}
use Rattle.http_head.specs.declared.parts.ResponseParts.{ResponseParts}
use Rattle.http_head.specs.declared.parts.Scan.{Scan}
use Rattle.http_head.specs.Corners.{behind_blank, ends_in, is_response_fine}
use Rattle.http_head.specs.Requests.{scan_said}
use Rattle.http_head.specs.Responses.{response_by, response_said, BeginsResponse, IsNoResponse, ScansResponse}
use Rattle.http_head.proofs.Tails.{no_blank, behind_blank-at, ends_in-append, ends_in-none, ends_behind-more}
use Rattle.http_head.proofs.Counts.{other_than, lines_of, ends_in-print_end, IsStart, before_last, lines_inside}

-- ---- the first line

blank_lines : (ends : List LineEnd) → list_all no_blank (print_blank ends) ≡ true
blank_lines [] = refl
blank_lines (crlf ∷ ends) = blank_lines ends
blank_lines (lf ∷ ends) = blank_lines ends

no_blank_in_version : (minor : ℕ) → minor ≤ 1 → list_all no_blank (print_version minor) ≡ true
no_blank_in_version zero small = refl
no_blank_in_version (suc zero) small = refl
no_blank_in_version (suc (suc n)) small = absurd (omega arith)

no_blank_before : (ends : List LineEnd) (minor : ℕ) → minor ≤ 1 → list_all no_blank (print_blank ends ++ print_version minor) ≡ true
no_blank_before ends minor small =
    let blank = blank_lines ends in
    let version = no_blank_in_version minor small in
    rw list_all-append (rw (blank, version) refl)

-- the empty lines and the version
abbrev pub before_status : ResponseHead → List ℕ
before_status h = print_blank h.blank ++ print_version h.minor

-- the first line, with the empty lines before it
abbrev pub response_start : ResponseHead → List ℕ
response_start h = before_status h ++ 32 ∷ (h.digits ++ (print_reason h.reason ++ print_end h.line_end))

regroup : (a b c d e f g r : List ℕ)
    → a ++ (b ++ 32 ∷ (c ++ (d ++ (e ++ ((f ++ g) ++ r))))) ≡ ((a ++ b) ++ 32 ∷ (c ++ (d ++ e))) ++ (f ++ (g ++ r))
regroup a b c d e f g r = simp append_assoc

-- a head is its first line, its lines and an empty line
pub response_is : (h : ResponseHead) (rest : List ℕ) → print_response h ++ rest ≡ response_start h ++ (lines_of h.fields ++ (print_end h.last ++ rest))
response_is h rest = print_response-append h rest ∙ regroup (print_blank h.blank) (print_version h.minor) h.digits (print_reason h.reason) (print_end h.line_end) (lines_of h.fields) (print_end h.last) rest

pub response_ends : (h : ResponseHead) → print_response h ++ [] ≡ response_start h ++ (lines_of h.fields ++ print_end h.last)
response_ends h = response_is h [] ∙ ap (λ t. response_start h ++ (lines_of h.fields ++ t)) (append-nil (print_end h.last))

behind_start : (h : ResponseHead) → IsResponseHead h → (t : List ℕ)
    → behind_blank (response_start h ++ t) ≡ h.digits ++ ((print_reason h.reason ++ print_end h.line_end) ++ t)
behind_start h is t =
    let whole : response_start h ++ t ≡ before_status h ++ 32 ∷ (h.digits ++ ((print_reason h.reason ++ print_end h.line_end) ++ t)) = simp (append_assoc, cons-append) in
    ap behind_blank whole ∙ behind_blank-at (before_status h) _ (no_blank_before h.blank h.minor is.minor)

no_end_in_digits : (digits : List ℕ) → AllPass is_ascii_digit digits → ends_in digits ≡ 0
no_end_in_digits digits all = ends_in-none digits (other_than is_ascii_digit 10 refl digits (list_all-from_AllPass is_ascii_digit digits all))

no_end_in_reason : (reason : Option (List ℕ)) → AllPass is_value_byte (reason_phrase reason) → ends_in (print_reason reason) ≡ 0
no_end_in_reason None all = refl
no_end_in_reason (Some phrase) all =
    let none = ends_in-none phrase (other_than is_value_byte 10 refl phrase (list_all-from_AllPass is_value_byte phrase all)) in
    let blank : ends_in (32 ∷ phrase) ≡ 0 + ends_in phrase = ends_in-append (32 ∷ []) phrase in
    omega arith

pub response_start_is : (h : ResponseHead) → IsResponseHead h → IsStart (response_start h)
response_start_is h is = record {
  counts = λ t.
      let digits = no_end_in_digits h.digits is.digits.1 in
      let reason = no_end_in_reason h.reason is.reason in
      let end = ends_in-print_end h.line_end in
      let one = ends_in-append (print_reason h.reason) (print_end h.line_end) in
      let two = ends_in-append (print_reason h.reason ++ print_end h.line_end) t in
      let three = ends_in-append h.digits ((print_reason h.reason ++ print_end h.line_end) ++ t) in
      let here = ap ends_in (behind_start h is t) in
      omega arith;
}

-- ---- too many lines

pub exceeding_ends : (bytes : List ℕ) → ResponseExceeds 64 bytes → 66 ≤ ends_in (behind_blank bytes)
exceeding_ends bytes (front, rest, is, h, reads, many) =
    let count = before_last (response_start h) (response_start_is h reads.0) h.fields h.last reads.0.fields front 10 (reads.1 ∙ response_ends h) in
    let more = ends_behind-more front rest in
    let same = ap (λ t. ends_in (behind_blank t)) is in
    omega arith

-- 65 whole lines of a head, with an empty line behind them
exceeds : (bytes rest : List ℕ) (h : ResponseHead) → IsResponseHead h → bytes ≡ (response_start h ++ lines_of (take 65 h.fields)) ++ rest
    → 65 ≤ length h.fields → ResponseExceeds 64 bytes
exceeds bytes rest h valid is enough =
    let k : ResponseHead = record h { fields = take 65 h.fields; last = lf } in
    let long : length (take 65 h.fields) ≡ 65 = length-take-le 65 h.fields enough in
    let good : IsResponseHead k = record { minor = valid.minor; digits = valid.digits; reason = valid.reason; fields = All-take IsField 65 h.fields valid.fields } in
    let text : (response_start h ++ lines_of (take 65 h.fields)) ++ print_end lf ≡ print_response k ++ [] = append_assoc (response_start h) (lines_of (take 65 h.fields)) (print_end lf) ∙ sym (response_ends k) in
    (response_start h ++ lines_of (take 65 h.fields), rest, is, k, (good, text), omega arith)

-- some bytes are left of a head that is not whole
pub unfinished : (bytes more : List ℕ) (h : ResponseHead) → HasNoResponse bytes → ReadsResponse (bytes ++ more) h [] → more ≡ [] → ⊥
unfinished bytes more h short reads none =
    short h [] (reads.0, sym (append-nil bytes) ∙ ap (λ t. bytes ++ t) (sym none) ∙ reads.1)

pub ends_exceed : (bytes : List ℕ) → HasNoResponse bytes → MayBecomeResponse bytes → 66 ≤ ends_in (behind_blank bytes) → ResponseExceeds 64 bytes
ends_exceed bytes short (more, h, reads) many =
    let inside = lines_inside (response_start h) (response_start_is h reads.0) h.fields h.last reads.0.fields bytes more (reads.1 ∙ response_ends h) (unfinished bytes more h short reads) many in
    exceeds bytes inside.0 h reads.0 inside.1 inside.2

-- ---- the scan's answers

pub begins : (bytes : List ℕ) → HasNoResponse bytes → MayBecomeResponse bytes → is_response_fine bytes ≡ true → BeginsResponse bytes
begins bytes short may fine =
    record {
      not_whole = short;
      can_end = may;
      few_lines = λ many.
          let more = exceeding_ends bytes many in
          let few = leb-true (ends_in (behind_blank bytes)) 65 fine in
          omega arith;
    }

pub is_none : (bytes : List ℕ) → HasNoResponse bytes → MayBecomeResponse bytes → is_response_fine bytes ≡ false → IsNoResponse bytes
is_none bytes short may other =
    let many : 66 ≤ ends_in (behind_blank bytes) = grind (arith, nat_tests) in
    inr (inl (ends_exceed bytes short may many))

pub judged_scans : (bytes : List ℕ) (headers : List HeaderSpan) (spans : ResponseSpans) (h : ResponseHead) → length headers ≡ 64
    → IsResponseWithin bytes headers spans → IsResponseAt bytes headers spans h
    → ScansResponse bytes (scan_said (response_by spans.code (map (header_bytes bytes) (take spans.headers headers))) spans.len)
judged_scans bytes headers spans h room within at =
    let count = ap length at.fields in
    let few : length h.fields ≤ 64 = omega (arith, count, length-map (take spans.headers headers) (header_bytes bytes), length-map h.fields name_and_value, length-take spans.headers headers, room) in
    let same : scan_said (response_by spans.code (map (header_bytes bytes) (take spans.headers headers))) spans.len ≡ scan_said (response_said h) spans.len =
    λ i. scan_said (response_by (at.code i) (at.fields i)) spans.len in
    subst (ScansResponse bytes) (sym same) (said_by few (response_said h) refl)
  where
    said_by : length h.fields ≤ 64 → (said : Option ResponseParts) → response_said h ≡ said → ScansResponse bytes (scan_said said spans.len)
    said_by few None said = inr (inr (h, drop spans.len bytes, at.reads, said))
    said_by few (Some parts) said = (within.section.len_fits, (h, at.reads, few, said))

-- the same of the answer
pub whole_scans : {E : Type 0} (bytes : List ℕ) (headers : List HeaderSpan) (spans : ResponseSpans) (answer : Result (Scan ResponseParts) E) → length headers ≡ 64
    → IsResponseWithin bytes headers spans → IsResponseOf bytes headers spans
    → IfOk answer (λ scan. scan ≡ scan_said (response_by spans.code (map (header_bytes bytes) (take spans.headers headers))) spans.len)
    → IfOk answer (ScansResponse bytes)
whole_scans bytes headers spans (Ok scan) room within at is = subst (ScansResponse bytes) (sym is) (judged_scans bytes headers spans at.0 room within at.1)
whole_scans bytes headers spans (Err e) room within at is = is

pub ruleset opens = (begins, is_none)
