-- A size line leads to its size.
use Rattle.std.proofs.Common.{ℕ, ◌≡◌, ◌+◌, ◌-◌, ◌*◌, ◌<◌, ◌≤◌, Bool, true, false, cond, eqb, leb, List, [], ◌∷◌, ◌++◌, length, Option, Some, None, refl, ap, ◌∙◌, arith, subst}
use Rattle.std.proofs.lemmas.Bool.Decides.{nat_tests}
use Rattle.std.proofs.lemmas.List.{length-append}
use Rattle.std.specs.Char.{is_ascii_hexdigit, digit_value}
use Rattle.std.specs.Str.Parse.{digits_value_after}
use Rattle.httparse.specs.Grammar.{AllPass, ChunkLine, IsExtension, print_chunk_line, print_extension, print_end, crlf, is_ows, is_extension_byte}
use Rattle.wire_body.specs.declared.states.BodyState.{BodyState}
use Rattle.wire_body.specs.declared.states.Phase.{Phase}
use Rattle.wire_body.specs.declared.states.Phase.TheVariants.{Size, Digits, Pad, Extension, SizeEnd, Bad, TooLong}
use Rattle.wire_body.specs.Bodies.{step, line_step, with_digit, behind_size, behind_size_line, in_phase, framing_at, expects}
use Rattle.wire_body.specs.declared.states.TheConstants.{LINE_LIMIT}
use Rattle.http_laws.specs.Spellings.{IsSizeLine}
use Rattle.http_laws.proofs.Leads.{place, Leads, leads_none, leads_then, leads_one, leads_first, fits, in_line, first_passes, others_pass}

small : (n d v : ℕ) → n * 16 + d ≤ v → n ≤ v
small n d v le = omega arith

swap : (n d v : ℕ) → n * 16 + d ≡ v → 16 * n + d ≡ v
swap n d v is = omega arith

through : (a b c : ℕ) → a ≤ b → b ≤ c → a ≤ c
through a b c p q = omega arith

-- a number grows with each digit behind it
after_grows : (ds : List ℕ) (n : ℕ) → n ≤ digits_value_after 16 n ds
after_grows [] n = omega arith
after_grows (d ∷ ds) n =
    let rest : n * 16 + digit_value d ≤ digits_value_after 16 (n * 16 + digit_value d) ds = after_grows ds (n * 16 + digit_value d) in
    small n (digit_value d) (digits_value_after 16 (n * 16 + digit_value d) ds) rest

-- one digit
digit_fits : (p : Phase) (left room line d size : ℕ) → left * 16 + digit_value d ≡ size → size ≤ room → with_digit (place p left room line) d ≡ place Digits size room line
digit_fits p left room line d size is within =
    let swapped : 16 * left + digit_value d ≡ size = swap left (digit_value d) size is in
    ap (λ v. cond (leb v room) (place Digits v room line) (place TooLong left room line)) swapped
    ∙ fits size room (place Digits size room line) (place TooLong left room line) within

digit_step : (p : Phase) (left room line d : ℕ) → is_ascii_hexdigit d ≡ true → left * 16 + digit_value d ≤ room
    → line_step Digits (place p left room line) d ≡ place Digits (left * 16 + digit_value d) room line
digit_step p left room line d hex within =
    ap (λ c. cond c (with_digit (place p left room line) d) (behind_size (place p left room line) d)) hex
    ∙ digit_fits p left room line d (left * 16 + digit_value d) refl within

first_digit_step : (left room line d : ℕ) → is_ascii_hexdigit d ≡ true → left * 16 + digit_value d ≤ room
    → line_step Size (place Size left room line) d ≡ place Digits (left * 16 + digit_value d) room line
first_digit_step left room line d hex within =
    ap (λ c. cond c (with_digit (place Size left room line) d) (place Bad left room line)) hex
    ∙ digit_fits Size left room line d (left * 16 + digit_value d) refl within

more_digits : (ds : List ℕ) (left room n m : ℕ) → AllPass is_ascii_hexdigit ds → digits_value_after 16 left ds ≤ room → n ≡ length ds + m
    → Leads (place Digits left room n) ds (place Digits (digits_value_after 16 left ds) room m)
more_digits [] left room n m hex within len = leads_none _ _ (ap (λ k. place Digits left room k) (omega arith))
more_digits (d ∷ ds) left room n m hex within len =
    let below : left * 16 + digit_value d ≤ room = through _ _ _ (after_grows ds (left * 16 + digit_value d)) within in
    leads_first d refl
    (in_line Digits left room n (length ds + m) d refl (omega arith) ∙ digit_step Digits left room (length ds + m) d (first_passes is_ascii_hexdigit d ds hex) below)
    (more_digits ds (left * 16 + digit_value d) room (length ds + m) m (others_pass is_ascii_hexdigit d ds hex) within refl)

digits : (ds : List ℕ) (room n m : ℕ) → 0 < length ds → AllPass is_ascii_hexdigit ds → digits_value_after 16 0 ds ≤ room → n ≡ length ds + m
    → Leads (place Size 0 room n) ds (place Digits (digits_value_after 16 0 ds) room m)
digits [] room n m some hex within len = absurd (omega arith)
digits (d ∷ ds) room n m some hex within len =
    let below : 0 * 16 + digit_value d ≤ room = through _ _ _ (after_grows ds (0 * 16 + digit_value d)) within in
    leads_first d refl
    (in_line Size 0 room n (length ds + m) d refl (omega arith) ∙ first_digit_step 0 room (length ds + m) d (first_passes is_ascii_hexdigit d ds hex) below)
    (more_digits ds (0 * 16 + digit_value d) room (length ds + m) m (others_pass is_ascii_hexdigit d ds hex) within refl)

-- behind the digits, before the line's end
abbrev is_behind : Phase → Bool
is_behind Digits = true
is_behind Pad = true
is_behind _ = false

abbrev is_before_end : Phase → Bool
is_before_end Digits = true
is_before_end Pad = true
is_before_end Extension = true
is_before_end _ = false

behind_is_framing : (p : Phase) → is_behind p ≡ true → framing_at p ≡ 1
behind_is_framing Digits is = refl
behind_is_framing Pad is = refl
behind_is_framing _ is = cc

before_is_framing : (p : Phase) → is_before_end p ≡ true → framing_at p ≡ 1
before_is_framing Digits is = refl
before_is_framing Pad is = refl
before_is_framing Extension is = refl
before_is_framing _ is = cc

before_end : (p : Phase) → is_behind p ≡ true → is_before_end p ≡ true
before_end Digits is = refl
before_end Pad is = refl
before_end _ is = cc

text_stays : (s : BodyState) (b : ℕ) → is_extension_byte b ≡ true → line_step Extension s b ≡ s
text_stays s b is = grind (arith, nat_tests)

blank_not_hex : (b : ℕ) → is_ows b ≡ true → is_ascii_hexdigit b ≡ false
blank_not_hex b is = grind (arith, nat_tests)

blank_behind : (s : BodyState) (b : ℕ) → is_ows b ≡ true → behind_size s b ≡ in_phase Pad s
blank_behind s b is = ap (λ c. cond c (in_phase Pad s) (cond (eqb b 59) (in_phase Extension s) (expects 13 (in_phase SizeEnd s) s b))) is

blank : (p : Phase) (left room n m b : ℕ) → is_behind p ≡ true → is_ows b ≡ true → n ≡ m + 1 → step (place p left room n) b ≡ place Pad left room m
blank Digits left room n m b is ows e =
    in_line Digits left room n m b refl e
    ∙ ap (λ c. cond c (with_digit (place Digits left room m) b) (behind_size (place Digits left room m) b)) (blank_not_hex b ows)
    ∙ blank_behind (place Digits left room m) b ows
blank Pad left room n m b is ows e = in_line Pad left room n m b refl e ∙ blank_behind (place Pad left room m) b ows
blank _ left room n m b is ows e = cc

pads : (xs : List ℕ) (p : Phase) (left room n m : ℕ) → is_behind p ≡ true → AllPass is_ows xs → n ≡ length xs + m
    → (q : Phase) × (is_behind q ≡ true) × Leads (place p left room n) xs (place q left room m)
pads [] p left room n m is all len = (p, is, leads_none _ _ (ap (λ k. place p left room k) (omega arith)))
pads (b ∷ xs) p left room n m is all len =
    let rest : (q : Phase) × (is_behind q ≡ true) × Leads (place Pad left room (length xs + m)) xs (place q left room m)
    = pads xs Pad left room (length xs + m) m refl (others_pass is_ows b xs all) refl in (
      rest.0,
      rest.1,
      leads_first b (behind_is_framing p is) (blank p left room n (length xs + m) b is (first_passes is_ows b xs all) (omega arith)) rest.2,
    )

-- a byte of an extension
text_step : (left room n m b : ℕ) → is_extension_byte b ≡ true → n ≡ m + 1 → step (place Extension left room n) b ≡ place Extension left room m
text_step left room n m b is e = in_line Extension left room n m b refl e ∙ text_stays (place Extension left room m) b is

texts : (xs : List ℕ) (left room n m : ℕ) → AllPass is_extension_byte xs → n ≡ length xs + m → Leads (place Extension left room n) xs (place Extension left room m)
texts [] left room n m all len = leads_none _ _ (ap (λ k. place Extension left room k) (omega arith))
texts (b ∷ xs) left room n m all len =
    leads_first b refl (text_step left room n (length xs + m) b (first_passes is_extension_byte b xs all) (omega arith))
    (texts xs left room (length xs + m) m (others_pass is_extension_byte b xs all) refl)

semicolon_step : (p : Phase) (left room n m : ℕ) → is_behind p ≡ true → n ≡ m + 1 → step (place p left room n) 59 ≡ place Extension left room m
semicolon_step Digits left room n m is e = in_line Digits left room n m 59 refl e
semicolon_step Pad left room n m is e = in_line Pad left room n m 59 refl e
semicolon_step _ left room n m is e = cc

return_step : (p : Phase) (left room n m : ℕ) → is_before_end p ≡ true → n ≡ m + 1 → step (place p left room n) 13 ≡ place SizeEnd left room m
return_step Digits left room n m is e = in_line Digits left room n m 13 refl e
return_step Pad left room n m is e = in_line Pad left room n m 13 refl e
return_step Extension left room n m is e = in_line Extension left room n m 13 refl e
return_step _ left room n m is e = cc

extensions : (x : Option (List ℕ)) (p : Phase) (left room n m : ℕ) → is_behind p ≡ true → IsExtension x → n ≡ length (print_extension x) + m
    → (q : Phase) × (is_before_end q ≡ true) × Leads (place p left room n) (print_extension x) (place q left room m)
extensions None p left room n m is ok len = (p, before_end p is, leads_none _ _ (ap (λ k. place p left room k) (omega arith)))
extensions (Some xs) p left room n m is ok len = (
  Extension,
  refl,
  leads_first 59 (behind_is_framing p is) (semicolon_step p left room n (length xs + m) is (omega arith)) (texts xs left room (length xs + m) m ok refl),
)

-- the line's end
line_end : (p : Phase) (left room n m : ℕ) → is_before_end p ≡ true → n ≡ m + 2 → Leads (place p left room n) (print_end crlf) (behind_size_line (place SizeEnd left room m))
line_end p left room n m is e =
    leads_first 13 (before_is_framing p is) (return_step p left room n (m + 1) is (omega arith))
    (leads_one (place SizeEnd left room (m + 1)) (behind_size_line (place SizeEnd left room m)) 10 refl (in_line SizeEnd left room (m + 1) m 10 refl refl))

-- how long a size line is
line_len : (l : ChunkLine) → length (print_chunk_line l) ≡ length l.digits + length l.pad + length (print_extension l.extension) + 2
unfolding print_chunk_line
line_len l =
    omega (arith, length-append (l.digits ++ l.pad ++ print_extension l.extension) (print_end crlf), length-append (l.digits ++ l.pad) (print_extension l.extension), length-append l.digits l.pad)

parts_fit : (a b c limit : ℕ) → a + b + c + 2 ≤ limit → limit ≡ a + (b + (c + (limit - (a + b + c + 2) + 2)))
parts_fit a b c limit within = omega arith

-- a whole size line, on a line of any limit
line_at : (limit : ℕ) (l : ChunkLine) (size room : ℕ) → IsSizeLine l size → size ≤ room → length (print_chunk_line l) ≤ limit
    → (m : ℕ) × Leads (place Size 0 room limit) (print_chunk_line l) (behind_size_line (place SizeEnd size room m))
unfolding print_chunk_line
line_at limit l size room ok within short =
    let m : ℕ = limit - (length l.digits + length l.pad + length (print_extension l.extension) + 2) in
    let value : digits_value_after 16 0 l.digits ≤ room = omega (arith, ok.value, within) in
    let whole : limit ≡ length l.digits + (length l.pad + (length (print_extension l.extension) + (m + 2)))
    = parts_fit (length l.digits) (length l.pad) (length (print_extension l.extension)) limit (omega (arith, line_len l, short)) in
    let ds : Leads (place Size 0 room limit) l.digits (place Digits (digits_value_after 16 0 l.digits) room (length l.pad + (length (print_extension l.extension) + (m + 2))))
    = digits l.digits room limit (length l.pad + (length (print_extension l.extension) + (m + 2))) ok.digits ok.hex value whole in
    let ps : (q : Phase) × (is_behind q ≡ true) × Leads (place Digits (digits_value_after 16 0 l.digits) room (length l.pad + (length (print_extension l.extension) + (m + 2)))) l.pad (place q (digits_value_after 16 0 l.digits) room (length (print_extension l.extension) + (m + 2)))
    = pads l.pad Digits (digits_value_after 16 0 l.digits) room (length l.pad + (length (print_extension l.extension) + (m + 2))) (length (print_extension l.extension) + (m + 2)) refl ok.pad refl in
    let xs : (q : Phase) × (is_before_end q ≡ true) × Leads (place ps.0 (digits_value_after 16 0 l.digits) room (length (print_extension l.extension) + (m + 2))) (print_extension l.extension) (place q (digits_value_after 16 0 l.digits) room (m + 2))
    = extensions l.extension ps.0 (digits_value_after 16 0 l.digits) room (length (print_extension l.extension) + (m + 2)) (m + 2) ps.1 ok.extension refl in
    let all : Leads (place Size 0 room limit) (print_chunk_line l) (behind_size_line (place SizeEnd (digits_value_after 16 0 l.digits) room m))
    = leads_then (leads_then (leads_then ds ps.2) xs.2) (line_end xs.0 (digits_value_after 16 0 l.digits) room (m + 2) m xs.1 refl) in
    (m, subst (λ v. Leads (place Size 0 room limit) (print_chunk_line l) (behind_size_line (place SizeEnd v room m))) ok.value all)

pub size_line : (l : ChunkLine) (size room : ℕ) → IsSizeLine l size → size ≤ room
    → (m : ℕ) × Leads (place Size 0 room LINE_LIMIT) (print_chunk_line l) (behind_size_line (place SizeEnd size room m))
size_line l size room ok within = line_at LINE_LIMIT l size room ok within ok.within
