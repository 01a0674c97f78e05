-- From what httparse says of the bytes to whether they are the head of a request, begin one, or are none.
use Rattle.std.proofs.Common.{◌≡◌, ℕ, zero, suc, ◌+◌, ◌≤◌, Bool, true, false, ◌&&◌, nat_le, leb-true, List, [], ◌∷◌, ◌++◌, inl, inr, refl, sym, ap, ◌∙◌, subst, arith, length, take, drop, map, append_assoc, Option, Some, None, Result, Ok, Err, lit<}
use Rattle.std.specs.Prelude.{IfOk, if◌then◌else◌}
use Rattle.std.specs.List.{list_all}
use Rattle.std.specs.Char.{is_ascii_graphic}
use Rattle.std.proofs.lemmas.Bool.{and_parts}
use Rattle.std.proofs.lemmas.Bool.Decides.{nat_tests}
use Rattle.std.proofs.lemmas.List.{length-map, length-take, length-take-le, length-append, append-nil}
use Rattle.std.proofs.lemmas.List.Folds.{list_all-append}
use Rattle.std.proofs.lemmas.List.Sums.{list_all-from_AllPass, AllPass-from_list_all}
use Rattle.std.proofs.lemmas.List.Elements.{All-nil, All-take, All-weaker}
use Rattle.httparse.specs.declared.spans.HeaderSpan.{HeaderSpan}
use Rattle.httparse.specs.declared.spans.RequestSpans.{RequestSpans}
use Rattle.httparse.specs.Grammar.{is_token_byte, is_uri_byte, IsToken, AllPass, LineEnd, crlf, lf, print_end, print_blank, print_version, RequestHead, IsRequestHead, print_request, ReadsRequest, HasNoRequest, MayBecomeRequest, EndsInTarget, IsField}
use Rattle.httparse.specs.Spans.{IsRequestAt, IsRequestOf, IsRequestWithin, RequestExceeds, header_bytes, span_bytes, name_and_value}
use Rattle.httparse.proofs.GrammarLemmas.{cons-append, print_request-append}
use Rattle.http_head.specs.declared.parts.RequestParts.{RequestParts}
use Rattle.http_head.specs.declared.parts.Scan.{Scan}
use Rattle.http_head.specs.declared.parts.Scan.TheVariants.{NoHead}
use Rattle.http_head.specs.Corners.{behind_blank, starts_plain, ends_in, is_request_fine}
use Rattle.http_head.specs.Requests.{is_plain, ReadsPlain, request_fields, request_said, request_judged, scan_said, CanEndRequest, NeverRequest, BeginsRequest, IsNoRequest, ScansRequest}
use Rattle.http_head.proofs.Tails.{no_blank, behind_blank-at, starts_plain-front, starts_plain-word, starts_plain-last, ends_in-append, ends_in-none, ends_behind-more, plain_behind-front}
use Rattle.http_head.proofs.Texts.{plain_is_text}
use Rattle.http_head.proofs.Cuts.{two_cuts}
use Rattle.http_head.proofs.Counts.{other_than, lines_of, ends_in-print_end, IsStart, before_last, lines_inside}

-- ---- the first line

token_has_no_blank : is_token_byte 32 ≡ false
unfolding is_token_byte
token_has_no_blank = refl

blank_lines : (ends : List LineEnd) → list_all no_blank (print_blank ends) ≡ true
blank_lines [] = refl
blank_lines (crlf ∷ ends) = blank_lines ends
blank_lines (lf ∷ ends) = blank_lines ends

-- the empty lines and the method
abbrev pub before_target : RequestHead → List ℕ
before_target h = print_blank h.blank ++ h.method

-- the first line, with the empty lines before it
abbrev pub request_start : RequestHead → List ℕ
request_start h = before_target h ++ 32 ∷ (h.target ++ 32 ∷ (print_version h.minor ++ print_end h.line_end))

no_blank_before : (ends : List LineEnd) (method : List ℕ) → IsToken method → list_all no_blank (print_blank ends ++ method) ≡ true
no_blank_before ends method token =
    let blank = blank_lines ends in
    let name = other_than is_token_byte 32 token_has_no_blank method (list_all-from_AllPass is_token_byte method token.1) in
    rw list_all-append (rw (blank, name) refl)

no_blank_in_target : (target : List ℕ) → AllPass is_uri_byte target → list_all no_blank target ≡ true
no_blank_in_target target uri = other_than is_uri_byte 32 refl target (list_all-from_AllPass is_uri_byte target uri)

no_end_in_target : (target : List ℕ) → AllPass is_uri_byte target → ends_in target ≡ 0
no_end_in_target target uri = ends_in-none target (other_than is_uri_byte 10 refl target (list_all-from_AllPass is_uri_byte target uri))

regroup : (a b c d e f g r : List ℕ)
    → a ++ (b ++ 32 ∷ (c ++ 32 ∷ (d ++ (e ++ ((f ++ g) ++ r))))) ≡ ((a ++ b) ++ 32 ∷ (c ++ 32 ∷ (d ++ e))) ++ (f ++ (g ++ r))
regroup a b c d e f g r = simp append_assoc

-- a head is its first line, its lines and an empty line
pub request_is : (h : RequestHead) (rest : List ℕ) → print_request h ++ rest ≡ request_start h ++ (lines_of h.fields ++ (print_end h.last ++ rest))
request_is h rest = print_request-append h rest ∙ regroup (print_blank h.blank) h.method h.target (print_version h.minor) (print_end h.line_end) (lines_of h.fields) (print_end h.last) rest

pub request_ends : (h : RequestHead) → print_request h ++ [] ≡ request_start h ++ (lines_of h.fields ++ print_end h.last)
request_ends h = request_is h [] ∙ ap (λ t. request_start h ++ (lines_of h.fields ++ t)) (append-nil (print_end h.last))

behind_start : (h : RequestHead) → IsRequestHead h → (t : List ℕ)
    → behind_blank (request_start h ++ t) ≡ h.target ++ 32 ∷ ((print_version h.minor ++ print_end h.line_end) ++ t)
behind_start h is t =
    let whole : request_start h ++ t ≡ before_target h ++ 32 ∷ (h.target ++ 32 ∷ ((print_version h.minor ++ print_end h.line_end) ++ t)) = simp (append_assoc, cons-append) in
    ap behind_blank whole ∙ behind_blank-at (before_target h) _ (no_blank_before h.blank h.method is.method)

ends_in_version : (minor : ℕ) → minor ≤ 1 → ends_in (print_version minor) ≡ 0
ends_in_version zero small = refl
ends_in_version (suc zero) small = refl
ends_in_version (suc (suc n)) small = absurd (omega arith)

pub request_start_is : (h : RequestHead) → IsRequestHead h → IsStart (request_start h)
request_start_is h is = record {
  counts = λ t.
      let target = no_end_in_target h.target is.target.1 in
      let version = ends_in_version h.minor is.minor in
      let end = ends_in-print_end h.line_end in
      let one = ends_in-append (print_version h.minor) (print_end h.line_end) in
      let two = ends_in-append (print_version h.minor ++ print_end h.line_end) t in
      let three = ends_in-append h.target (32 ∷ ((print_version h.minor ++ print_end h.line_end) ++ t)) in
      let blank : ends_in (32 ∷ ((print_version h.minor ++ print_end h.line_end) ++ t)) ≡ 0 + ends_in ((print_version h.minor ++ print_end h.line_end) ++ t) = ends_in-append (32 ∷ []) ((print_version h.minor ++ print_end h.line_end) ++ t) in
      let here = ap ends_in (behind_start h is t) in
      omega arith;
}

-- the target that a head shows is its target
pub target_seen : (h : RequestHead) → IsRequestHead h → (rest : List ℕ) → starts_plain (behind_blank (print_request h ++ rest)) ≡ is_plain h.target
target_seen h is rest =
    ap (λ t. starts_plain (behind_blank t)) (request_is h rest)
    ∙ ap starts_plain (behind_start h is (lines_of h.fields ++ (print_end h.last ++ rest)))
    ∙ starts_plain-word h.target _ (no_blank_in_target h.target is.target.1)

-- ---- none, by the target

pub never_by_target : (bytes : List ℕ) → starts_plain (behind_blank bytes) ≡ false → NeverRequest bytes
never_by_target bytes other = λ more h rest reads.
    let seen : starts_plain (behind_blank (bytes ++ more)) ≡ true = ap (λ t. starts_plain (behind_blank t)) reads.0.1 ∙ target_seen h reads.0.0 rest ∙ reads.1 in
    let front = plain_behind-front bytes more seen in
    cc

-- ---- begun

pub can_end_front : (bytes m : List ℕ) → CanEndRequest (bytes ++ m) → CanEndRequest bytes
can_end_front bytes m can = (m ++ can.0, can.1, subst (λ t. ReadsPlain t can.1 []) (append_assoc bytes m can.0) can.2)

pub graphic_is_uri : (b : ℕ) → is_ascii_graphic b ≡ true → is_uri_byte b ≡ true
graphic_is_uri b graphic = grind (arith, nat_tests)

-- the head with another target
retargeted : (h : RequestHead) → IsRequestHead h → (target : List ℕ) → is_plain target ≡ true → CanEndRequest (before_target h ++ 32 ∷ target)
retargeted h is target plain =
    let longer : is_plain (target ++ 120 ∷ []) ≡ true = list_all-append is_ascii_graphic target (120 ∷ []) ∙ rw plain refl in
    let k : RequestHead = record h { target = target ++ 120 ∷ [] } in
    let valid : IsRequestHead k = record {
      method = is.method;
      target = (omega (arith, length-append target (120 ∷ [])), All-weaker (λ b. is_ascii_graphic b ≡ true) (λ b. is_uri_byte b ≡ true) graphic_is_uri (target ++ 120 ∷ []) (AllPass-from_list_all is_ascii_graphic (target ++ 120 ∷ []) longer));
      target_text = plain_is_text (target ++ 120 ∷ []) longer;
      minor = is.minor;
      fields = is.fields;
    } in
    let more = 120 ∷ (32 ∷ ((print_version h.minor ++ print_end h.line_end) ++ (lines_of h.fields ++ print_end h.last))) in
    let text : (before_target h ++ 32 ∷ target) ++ more ≡ request_start k ++ (lines_of h.fields ++ print_end h.last) = simp (append_assoc, cons-append) in
    (more, k, ((valid, text ∙ sym (request_ends k)), longer))

-- what stands behind the blank
behind_last : (ends : List LineEnd) (method target : List ℕ) → IsToken method → behind_blank ((print_blank ends ++ method) ++ 32 ∷ target) ≡ target
behind_last ends method target token = behind_blank-at (print_blank ends ++ method) target (no_blank_before ends method token)

-- the bytes end in a target
can_end_in_target : (bytes : List ℕ) → EndsInTarget bytes → starts_plain (behind_blank bytes) ≡ true → CanEndRequest bytes
can_end_in_target bytes (ends, method, target, token, uri, is) plain =
    let h : RequestHead = record { blank = ends; method = method; target = 120 ∷ []; minor = 1; line_end = lf; fields = []; last = lf } in
    let valid : IsRequestHead h = record {
      method = token;
      target = (lit< tt, AllPass-from_list_all is_uri_byte (120 ∷ []) refl);
      target_text = plain_is_text (120 ∷ []) refl;
      minor = omega arith;
      fields = All-nil _;
    } in
    let seen : is_plain target ≡ true = sym (starts_plain-last target (no_blank_in_target target uri)) ∙ ap starts_plain (sym (behind_last ends method target token)) ∙ ap (λ t. starts_plain (behind_blank t)) (sym is) ∙ plain in
    subst CanEndRequest (sym is) (retargeted h valid target seen)

-- the bytes end before the target
before_it : (h : RequestHead) → IsRequestHead h → (bytes m : List ℕ) → before_target h ++ 32 ∷ [] ≡ bytes ++ m → CanEndRequest bytes
before_it h valid bytes m is = can_end_front bytes m (subst CanEndRequest is (retargeted h valid [] refl))

-- the bytes end in the target
inside_it : (h : RequestHead) → IsRequestHead h → (bytes m k : List ℕ) → bytes ≡ before_target h ++ 32 ∷ m → h.target ≡ m ++ k
    → starts_plain (behind_blank bytes) ≡ true → CanEndRequest bytes
inside_it h valid bytes m k is target plain =
    let none : (list_all no_blank m && list_all no_blank k) ≡ true = sym (list_all-append no_blank m k) ∙ ap (list_all no_blank) (sym target) ∙ no_blank_in_target h.target valid.target.1 in
    let parts = and_parts (list_all no_blank m) (list_all no_blank k) none in
    let seen : is_plain m ≡ true = sym (starts_plain-last m parts.0) ∙ ap starts_plain (sym (behind_blank-at (before_target h) m (no_blank_before h.blank h.method valid.method))) ∙ ap (λ t. starts_plain (behind_blank t)) (sym is) ∙ plain in
    subst CanEndRequest (sym is) (retargeted h valid m seen)

-- the bytes end behind the target
past_it : (h : RequestHead) → IsRequestHead h → (bytes m k : List ℕ) → bytes ≡ before_target h ++ 32 ∷ m → m ≡ h.target ++ k
    → starts_plain (behind_blank bytes) ≡ true → is_plain h.target ≡ true
past_it h valid bytes m k is target plain =
    let seen : starts_plain (h.target ++ k) ≡ true = ap starts_plain (sym target) ∙ ap starts_plain (sym (behind_blank-at (before_target h) m (no_blank_before h.blank h.method valid.method))) ∙ ap (λ t. starts_plain (behind_blank t)) (sym is) ∙ plain in
    sym (starts_plain-last h.target (no_blank_in_target h.target valid.target.1)) ∙ starts_plain-front h.target k seen

-- what stands behind the target
abbrev pub behind_target : RequestHead → List ℕ
behind_target h = 32 ∷ ((print_version h.minor ++ print_end h.line_end) ++ (lines_of h.fields ++ print_end h.last))

-- the bytes are a front of a head
can_end_front_of : (bytes more : List ℕ) (h : RequestHead) → ReadsRequest (bytes ++ more) h [] → starts_plain (behind_blank bytes) ≡ true → CanEndRequest bytes
can_end_front_of bytes more h reads plain =
    let text : request_start h ++ (lines_of h.fields ++ print_end h.last) ≡ (before_target h ++ 32 ∷ []) ++ (h.target ++ behind_target h) = simp (append_assoc, cons-append) in
    elim (two_cuts bytes more (before_target h ++ 32 ∷ []) (h.target ++ behind_target h) (reads.1 ∙ request_ends h ∙ text)) [
      | inl w ↦
          let is : bytes ≡ before_target h ++ 32 ∷ w.0 = w.1 ∙ append_assoc (before_target h) (32 ∷ []) w.0 in
          elim (two_cuts h.target (behind_target h) w.0 more w.2) [
            | inl v ↦ inside_it h reads.0 bytes w.0 v.0 is v.1 plain
            | inr v ↦ (more, h, (reads, past_it h reads.0 bytes w.0 v.0 is v.1 plain))
          ]
      | inr w ↦ before_it h reads.0 bytes w.0 w.1
    ]

can_end : (bytes : List ℕ) → MayBecomeRequest bytes → starts_plain (behind_blank bytes) ≡ true → CanEndRequest bytes
can_end bytes (inl w) plain = can_end_front_of bytes w.0 w.1 w.2 plain
can_end bytes (inr w) plain = can_end_in_target bytes w plain

-- ---- too many lines

pub exceeding_ends : (bytes : List ℕ) → RequestExceeds 64 bytes → 66 ≤ ends_in (behind_blank bytes)
exceeding_ends bytes (front, rest, is, h, reads, many) =
    let count = before_last (request_start h) (request_start_is h reads.0) h.fields h.last reads.0.fields front 10 (reads.1 ∙ request_ends h) in
    let more = ends_behind-more front rest in
    let same = ap (λ t. ends_in (behind_blank t)) is in
    omega arith

-- 65 whole lines of a head, with an empty line behind them
exceeds : (bytes rest : List ℕ) (h : RequestHead) → IsRequestHead h → bytes ≡ (request_start h ++ lines_of (take 65 h.fields)) ++ rest
    → 65 ≤ length h.fields → RequestExceeds 64 bytes
exceeds bytes rest h valid is enough =
    let k : RequestHead = record h { fields = take 65 h.fields; last = lf } in
    let long : length (take 65 h.fields) ≡ 65 = length-take-le 65 h.fields enough in
    let good : IsRequestHead k = record { method = valid.method; target = valid.target; target_text = valid.target_text; minor = valid.minor; fields = All-take IsField 65 h.fields valid.fields } in
    let text : (request_start h ++ lines_of (take 65 h.fields)) ++ print_end lf ≡ print_request k ++ [] = append_assoc (request_start h) (lines_of (take 65 h.fields)) (print_end lf) ∙ sym (request_ends k) in
    (request_start h ++ lines_of (take 65 h.fields), rest, is, k, (good, text), omega arith)

-- some bytes are left of a head that is not whole
unfinished : (bytes more : List ℕ) (h : RequestHead) → HasNoRequest bytes → ReadsRequest (bytes ++ more) h [] → more ≡ [] → ⊥
unfinished bytes more h short reads none =
    short h [] (reads.0, sym (append-nil bytes) ∙ ap (λ t. bytes ++ t) (sym none) ∙ reads.1)

pub ends_exceed : (bytes : List ℕ) → HasNoRequest bytes → MayBecomeRequest bytes → 66 ≤ ends_in (behind_blank bytes) → RequestExceeds 64 bytes
ends_exceed bytes short (inl (more, h, reads)) many =
    let inside = lines_inside (request_start h) (request_start_is h reads.0) h.fields h.last reads.0.fields bytes more (reads.1 ∙ request_ends h) (unfinished bytes more h short reads) many in
    exceeds bytes inside.0 h reads.0 inside.1 inside.2
ends_exceed bytes short (inr (ends, method, target, token, uri, is)) many =
    let none = no_end_in_target target uri in
    let same = ap (λ t. ends_in (behind_blank t)) is ∙ ap ends_in (behind_last ends method target token) in
    absurd (omega arith)

-- ---- the scan's answers

pub begins : (bytes : List ℕ) → HasNoRequest bytes → MayBecomeRequest bytes → is_request_fine bytes ≡ true → BeginsRequest bytes
begins bytes short may fine =
    let parts = and_parts (starts_plain (behind_blank bytes)) (nat_le (ends_in (behind_blank bytes)) 65) fine in
    record {
      not_whole = short;
      can_end = can_end bytes may parts.0;
      few_lines = λ many.
          let more = exceeding_ends bytes many in
          let few = leb-true (ends_in (behind_blank bytes)) 65 parts.1 in
          omega arith;
    }

pub is_none : (bytes : List ℕ) → HasNoRequest bytes → MayBecomeRequest bytes → is_request_fine bytes ≡ false → IsNoRequest bytes
is_none bytes short may other = by (starts_plain (behind_blank bytes)) refl other
  where
    by : (b : Bool) → starts_plain (behind_blank bytes) ≡ b → (b && nat_le (ends_in (behind_blank bytes)) 65) ≡ false → IsNoRequest bytes
    by false target other = inl (never_by_target bytes target)
    by true target other =
        let many : 66 ≤ ends_in (behind_blank bytes) = grind (arith, nat_tests) in
        inr (inl (ends_exceed bytes short may many))

pub judged_scans : (bytes : List ℕ) (headers : List HeaderSpan) (spans : RequestSpans) (h : RequestHead) → length headers ≡ 64
    → IsRequestWithin bytes headers spans → IsRequestAt bytes headers spans h
    → ScansRequest bytes (request_judged (span_bytes bytes spans.method) (span_bytes bytes spans.path) (map (header_bytes bytes) (take spans.headers headers)) spans.len)
judged_scans bytes headers spans h room within at =
    let count = ap length at.fields in
    let few : length h.fields ≤ 64 = omega (arith, count, length-map (take spans.headers headers) (header_bytes bytes), length-map h.fields name_and_value, length-take spans.headers headers, room) in
    let same : request_judged (span_bytes bytes spans.method) (span_bytes bytes spans.path) (map (header_bytes bytes) (take spans.headers headers)) spans.len ≡ request_judged h.method h.target (request_fields h) spans.len =
    λ i. request_judged (at.method i) (at.path i) (at.fields i) spans.len in
    subst (ScansRequest bytes) (sym same) (judged_by few (is_plain h.target) refl)
  where
    said_by : length h.fields ≤ 64 → is_plain h.target ≡ true → (said : Option RequestParts) → request_said h ≡ said → ScansRequest bytes (scan_said said spans.len)
    said_by few plain None said = inr (inr (h, drop spans.len bytes, (at.reads, plain), said))
    said_by few plain (Some parts) said = (within.section.len_fits, (h, (at.reads, plain), few, said))

    judged_by : length h.fields ≤ 64 → (b : Bool) → is_plain h.target ≡ b
        → ScansRequest bytes (if b then scan_said (request_said h) spans.len else NoHead)
    judged_by few false plain = inl (never_by_target bytes (ap (λ t. starts_plain (behind_blank t)) at.reads.1 ∙ target_seen h at.reads.0 (drop spans.len bytes) ∙ plain))
    judged_by few true plain = said_by few plain (request_said h) refl

-- the same of the answer
pub whole_scans : {E : Type 0} (bytes : List ℕ) (headers : List HeaderSpan) (spans : RequestSpans) (answer : Result (Scan RequestParts) E) → length headers ≡ 64
    → IsRequestWithin bytes headers spans → IsRequestOf bytes headers spans
    → IfOk answer (λ scan. scan ≡ request_judged (span_bytes bytes spans.method) (span_bytes bytes spans.path) (map (header_bytes bytes) (take spans.headers headers)) spans.len)
    → IfOk answer (ScansRequest bytes)
whole_scans bytes headers spans (Ok scan) room within at is = subst (ScansRequest bytes) (sym is) (judged_scans bytes headers spans at.0 room within at.1)
whole_scans bytes headers spans (Err e) room within at is = is

pub ruleset opens = (begins, is_none)
