-- The size line that was read.
use Rattle.std.proofs.Common.{ℕ, ◌≡◌, ◌+◌, ◌*◌, ◌≤◌, true, false, cond, eqb, leb, List, [], ◌∷◌, ◌++◌, length, Option, Some, None, refl, sym, ap, ◌∙◌, subst, arith, append_assoc, inl, inr}
use Rattle.std.proofs.lemmas.Bool.Decides.{nat_tests}
use Rattle.std.proofs.lemmas.List.{length-append}
use Rattle.std.specs.Char.{is_ascii_hexdigit, digit_value}
use Rattle.std.specs.Str.Parse.{digits_value_after}
use Rattle.httparse.specs.Grammar.{AllPass, ChunkLine, IsExtension, print_chunk_line, print_extension, is_ows, is_extension_byte}
use Rattle.wire_body.specs.declared.states.BodyState.{BodyState}
use Rattle.wire_body.specs.declared.states.Phase.{Phase}
use Rattle.wire_body.specs.declared.states.Phase.TheVariants.{Size, Digits, Pad, Extension, SizeEnd, Bad, TooLong}
use Rattle.wire_body.specs.Bodies.{with_digit, behind_size, behind_size_line, expects}
use Rattle.wire_body.specs.declared.states.TheConstants.{LINE_LIMIT}
use Rattle.http_laws.specs.Spellings.{IsSizeLine}
use Rattle.http_laws.proofs.Leads.{place}
use Rattle.http_laws.proofs.Ends.{Ends, ends_at, bad_ends, long_ends, not_yet, line_next, split, same_byte, expect_next, none_pass, one_passes}

swap : (n d : ℕ) → 16 * n + d ≡ n * 16 + d
swap n d = omega arith

through : (a b c : ℕ) → a ≤ b → b ≤ c → a ≤ c
through a b c p q = omega arith

-- a test that holds
pub test_holds : (a b : ℕ) → leb a b ≡ true → a ≤ b
test_holds a b is = grind (arith, nat_tests)

-- one digit that kept the size within the room
one_digit : (p : Phase) (left room m b : ℕ) (body bytes out : List ℕ) → Ends (with_digit (place p left room m) b) body bytes out
    → (left * 16 + digit_value b ≤ room) × Ends (place Digits (left * 16 + digit_value b) room m) body bytes out
one_digit p left room m b body bytes out e =
    elim (split (leb (16 * left + digit_value b) room) (place Digits (16 * left + digit_value b) room m) (place TooLong left room m) body bytes out e) [
      | inl h ↦ (
        subst (λ v. v ≤ room) (swap left (digit_value b)) (test_holds (16 * left + digit_value b) room h.0),
        ends_at (ap (λ v. place Digits v room m) (swap left (digit_value b))) h.1,
      )
      | inr h ↦ absurd (long_ends h.1)
    ]

record DigitsIn (left room n : ℕ) (body bytes out : List ℕ) : Type 0 where
  ds : List ℕ
  b : ℕ
  rest : List ℕ
  m : ℕ
  hex : AllPass is_ascii_hexdigit ds
  text : bytes ≡ ds ++ (b ∷ rest)
  len : n ≡ length ds + (m + 1)
  small : digits_value_after 16 left ds ≤ room
  ends : Ends (behind_size (place Digits (digits_value_after 16 left ds) room m) b) body rest out

one_more_digit : (left room n m b : ℕ) (body bytes out : List ℕ) → n ≡ m + 1 → is_ascii_hexdigit b ≡ true
    → DigitsIn (left * 16 + digit_value b) room m body bytes out → DigitsIn left room n body (b ∷ bytes) out
one_more_digit left room n m b body bytes out len is d = record {
  ds = b ∷ d.ds;
  b = d.b;
  rest = d.rest;
  m = d.m;
  hex = one_passes is_ascii_hexdigit b d.ds is d.hex;
  text = ap (λ xs. b ∷ xs) d.text;
  len = omega (arith, d.len);
  small = d.small;
  ends = d.ends;
}

digits_in : (bytes : List ℕ) (left room n : ℕ) (body out : List ℕ) → left ≤ room → Ends (place Digits left room n) body bytes out → DigitsIn left room n body bytes out
digits_in [] left room n body out small e = absurd (not_yet (place Digits left room n) body out refl e)
digits_in (b ∷ bytes) left room n body out small e =
    let l : (m : ℕ) × (n ≡ m + 1) × Ends (cond (is_ascii_hexdigit b) (with_digit (place Digits left room m) b) (behind_size (place Digits left room m) b)) body bytes out
    = line_next Digits left room n b body bytes out refl e in
    elim (split (is_ascii_hexdigit b) (with_digit (place Digits left room l.0) b) (behind_size (place Digits left room l.0) b) body bytes out l.2) [
      | inl h ↦
          one_more_digit left room n l.0 b body bytes out l.1 h.0
          (digits_in bytes (left * 16 + digit_value b) room l.0 body out (one_digit Digits left room l.0 b body bytes out h.1).0 (one_digit Digits left room l.0 b body bytes out h.1).1)
      | inr h ↦ record { ds = []; b = b; rest = bytes; m = l.0; hex = none_pass is_ascii_hexdigit; text = refl; len = omega (arith, l.1); small = small; ends = h.1 }
    ]

abbrev tail_state : Phase → ℕ → ℕ → ℕ → ℕ → BodyState
tail_state q v room k c = cond (eqb c 59) (place Extension v room k) (expects 13 (place SizeEnd v room k) (place q v room k) c)

record PadsIn (v room m : ℕ) (body bytes out : List ℕ) : Type 0 where
  pad : List ℕ
  c : ℕ
  rest : List ℕ
  k : ℕ
  q : Phase
  blanks : AllPass is_ows pad
  text : bytes ≡ pad ++ (c ∷ rest)
  len : m ≡ length pad + k
  ends : Ends (tail_state q v room k c) body rest out

one_more_pad : (v room m n b : ℕ) (body bytes out : List ℕ) → m ≡ n + 1 → is_ows b ≡ true → PadsIn v room n body bytes out → PadsIn v room m body (b ∷ bytes) out
one_more_pad v room m n b body bytes out len is p = record {
  pad = b ∷ p.pad;
  c = p.c;
  rest = p.rest;
  k = p.k;
  q = p.q;
  blanks = one_passes is_ows b p.pad is p.blanks;
  text = ap (λ xs. b ∷ xs) p.text;
  len = omega (arith, p.len);
  ends = p.ends;
}

no_pad : (p : Phase) (v room m b : ℕ) (body bytes out : List ℕ) → Ends (tail_state p v room m b) body bytes out → PadsIn v room m body (b ∷ bytes) out
no_pad p v room m b body bytes out e = record { pad = []; c = b; rest = bytes; k = m; q = p; blanks = none_pass is_ows; text = refl; len = omega arith; ends = e }

pads_in : (bytes : List ℕ) (p : Phase) (v room m b : ℕ) (body out : List ℕ) → Ends (behind_size (place p v room m) b) body bytes out → PadsIn v room m body (b ∷ bytes) out
pads_in [] p v room m b body out e =
    elim (split (is_ows b) (place Pad v room m) (tail_state p v room m b) body [] out e) [
      | inl h ↦ absurd (not_yet (place Pad v room m) body out refl h.1)
      | inr h ↦ no_pad p v room m b body [] out h.1
    ]
pads_in (b' ∷ bytes) p v room m b body out e =
    elim (split (is_ows b) (place Pad v room m) (tail_state p v room m b) body (b' ∷ bytes) out e) [
      | inl h ↦
          let l : (n : ℕ) × (m ≡ n + 1) × Ends (behind_size (place Pad v room n) b') body bytes out = line_next Pad v room m b' body bytes out refl h.1 in
          one_more_pad v room m l.0 b body (b' ∷ bytes) out l.1 h.0 (pads_in bytes Pad v room l.0 b' body out l.2)
      | inr h ↦ no_pad p v room m b body (b' ∷ bytes) out h.1
    ]

record TextsIn (v room n : ℕ) (body bytes out : List ℕ) : Type 0 where
  xs : List ℕ
  rest : List ℕ
  k : ℕ
  plain : AllPass is_extension_byte xs
  text : bytes ≡ xs ++ (13 ∷ rest)
  len : n ≡ length xs + (k + 1)
  ends : Ends (place SizeEnd v room k) body rest out

plain_byte : (b : ℕ) → eqb b 13 ≡ false → eqb b 10 ≡ false → is_extension_byte b ≡ true
plain_byte b p q = grind (arith, nat_tests)

one_more_text : (v room n m b : ℕ) (body bytes out : List ℕ) → n ≡ m + 1 → is_extension_byte b ≡ true → TextsIn v room m body bytes out → TextsIn v room n body (b ∷ bytes) out
one_more_text v room n m b body bytes out len is t = record {
  xs = b ∷ t.xs;
  rest = t.rest;
  k = t.k;
  plain = one_passes is_extension_byte b t.xs is t.plain;
  text = ap (λ zs. b ∷ zs) t.text;
  len = omega (arith, t.len);
  ends = t.ends;
}

texts_in : (bytes : List ℕ) (v room n : ℕ) (body out : List ℕ) → Ends (place Extension v room n) body bytes out → TextsIn v room n body bytes out
texts_in [] v room n body out e = absurd (not_yet (place Extension v room n) body out refl e)
texts_in (b ∷ bytes) v room n body out e =
    let l : (m : ℕ) × (n ≡ m + 1) × Ends (cond (eqb b 13) (place SizeEnd v room m) (cond (eqb b 10) (place Bad v room m) (place Extension v room m))) body bytes out
    = line_next Extension v room n b body bytes out refl e in
    elim (split (eqb b 13) (place SizeEnd v room l.0) (cond (eqb b 10) (place Bad v room l.0) (place Extension v room l.0)) body bytes out l.2) [
      | inl h ↦ record { xs = []; rest = bytes; k = l.0; plain = none_pass is_extension_byte; text = ap (λ c. c ∷ bytes) (same_byte b 13 h.0); len = omega (arith, l.1); ends = h.1 }
      | inr h ↦
          elim (split (eqb b 10) (place Bad v room l.0) (place Extension v room l.0) body bytes out h.1) [
            | inl g ↦ absurd (bad_ends g.1)
            | inr g ↦ one_more_text v room n l.0 b body bytes out l.1 (plain_byte b h.0 g.0) (texts_in bytes v room l.0 body out g.1)
          ]
    ]

record ExtensionsIn (v room m : ℕ) (body bytes out : List ℕ) : Type 0 where
  x : Option (List ℕ)
  rest : List ℕ
  k : ℕ
  ok : IsExtension x
  text : bytes ≡ print_extension x ++ (13 ∷ rest)
  len : m ≡ length (print_extension x) + k
  ends : Ends (place SizeEnd v room k) body rest out

with_text : (v room m c : ℕ) (body bytes out : List ℕ) → c ≡ 59 → TextsIn v room m body bytes out → ExtensionsIn v room m body (c ∷ bytes) out
with_text v room m c body bytes out is t = record {
  x = Some t.xs;
  rest = t.rest;
  k = t.k;
  ok = t.plain;
  text = ap (λ d. d ∷ bytes) is ∙ ap (λ zs. 59 ∷ zs) t.text;
  len = omega (arith, t.len);
  ends = t.ends;
}

extensions_in : (q : Phase) (v room m c : ℕ) (body bytes out : List ℕ) → Ends (tail_state q v room m c) body bytes out → ExtensionsIn v room m body (c ∷ bytes) out
extensions_in q v room m c body bytes out e =
    elim (split (eqb c 59) (place Extension v room m) (expects 13 (place SizeEnd v room m) (place q v room m) c) body bytes out e) [
      | inl h ↦ with_text v room m c body bytes out (same_byte c 59 h.0) (texts_in bytes v room m body out h.1)
      | inr h ↦
          let r : (c ≡ 13) × Ends (place SizeEnd v room m) body bytes out = expect_next 13 c v room m q (place SizeEnd v room m) body bytes out h.1 in
          record { x = None; rest = bytes; k = m; ok = tt; text = ap (λ d. d ∷ bytes) r.0; len = omega arith; ends = r.1 }
    ]

pub record SizeLineIn (room : ℕ) (body bytes out : List ℕ) : Type 0 where
  pub line : ChunkLine
  pub size : ℕ
  pub rest : List ℕ
  pub k : ℕ
  pub ok : IsSizeLine line size
  pub fits : size ≤ room
  pub text : bytes ≡ print_chunk_line line ++ rest
  pub ends : Ends (behind_size_line (place SizeEnd size room k)) body rest out

-- the line's text, from its parts
assoc_line : (ds pad ext r : List ℕ) → (ds ++ pad ++ ext ++ (13 ∷ (10 ∷ []))) ++ r ≡ ds ++ (pad ++ (ext ++ (13 ∷ (10 ∷ r))))
assoc_line ds pad ext r = simp append_assoc

line_text : (l : ChunkLine) (r1 r2 r3 r4 : List ℕ) → r1 ≡ l.pad ++ r2 → r2 ≡ print_extension l.extension ++ (13 ∷ r3) → r3 ≡ 10 ∷ r4 → l.digits ++ r1 ≡ print_chunk_line l ++ r4
unfolding print_chunk_line
line_text l r1 r2 r3 r4 e1 e2 e3 =
    ap (λ z. l.digits ++ z) (e1 ∙ ap (λ z. l.pad ++ z) (e2 ∙ ap (λ z. print_extension l.extension ++ (13 ∷ z)) e3))
    ∙ sym (assoc_line l.digits l.pad (print_extension l.extension) r4)

line_len : (l : ChunkLine) → length (print_chunk_line l) ≡ length l.digits + length l.pad + length (print_extension l.extension) + 2
unfolding print_chunk_line
line_len l =
    omega (arith, length-append (l.digits ++ l.pad ++ print_extension l.extension) (13 ∷ (10 ∷ [])), length-append (l.digits ++ l.pad) (print_extension l.extension), length-append l.digits l.pad)

-- the line feed
record FeedIn (v room k : ℕ) (body bytes out : List ℕ) : Type 0 where
  rest : List ℕ
  m : ℕ
  text : bytes ≡ 10 ∷ rest
  len : k ≡ m + 1
  ends : Ends (behind_size_line (place SizeEnd v room m)) body rest out

feed_in : (bytes : List ℕ) (v room k : ℕ) (body out : List ℕ) → Ends (place SizeEnd v room k) body bytes out → FeedIn v room k body bytes out
feed_in [] v room k body out e = absurd (not_yet (place SizeEnd v room k) body out refl e)
feed_in (b ∷ bytes) v room k body out e =
    let l : (m : ℕ) × (k ≡ m + 1) × Ends (expects 10 (behind_size_line (place SizeEnd v room m)) (place SizeEnd v room m) b) body bytes out = line_next SizeEnd v room k b body bytes out refl e in
    let r : (b ≡ 10) × Ends (behind_size_line (place SizeEnd v room l.0)) body bytes out = expect_next 10 b v room l.0 SizeEnd (behind_size_line (place SizeEnd v room l.0)) body bytes out l.2 in
    record { rest = bytes; m = l.0; text = ap (λ c. c ∷ bytes) r.0; len = l.1; ends = r.1 }

-- the line's length, from its parts
short_enough : (limit m0 m1 k1 k2 k3 ds pad ext : ℕ) → limit ≡ m0 + 1 → m0 ≡ ds + (m1 + 1) → m1 ≡ pad + k1 → k1 ≡ ext + k2 → k2 ≡ k3 + 1 → (1 + ds) + pad + ext + 2 ≤ limit
short_enough limit m0 m1 k1 k2 k3 ds pad ext a b c d e = omega arith

line_of : (room m0 b : ℕ) (body bytes out : List ℕ) → LINE_LIMIT ≡ m0 + 1 → is_ascii_hexdigit b ≡ true
    → (d : DigitsIn (0 * 16 + digit_value b) room m0 body bytes out)
    → (p : PadsIn (digits_value_after 16 (0 * 16 + digit_value b) d.ds) room d.m body (d.b ∷ d.rest) out)
    → (x : ExtensionsIn (digits_value_after 16 (0 * 16 + digit_value b) d.ds) room p.k body (p.c ∷ p.rest) out)
    → FeedIn (digits_value_after 16 (0 * 16 + digit_value b) d.ds) room x.k body x.rest out
    → SizeLineIn room body (b ∷ bytes) out
line_of room m0 b body bytes out first is d p x f =
    record {
      line = record { digits = b ∷ d.ds; pad = p.pad; extension = x.x };
      size = digits_value_after 16 (0 * 16 + digit_value b) d.ds;
      rest = f.rest;
      k = f.m;
      ok = record {
        digits = omega arith;
        hex = one_passes is_ascii_hexdigit b d.ds is d.hex;
        pad = p.blanks;
        extension = x.ok;
        within =
            subst (λ n. n ≤ LINE_LIMIT) (sym (line_len (record { digits = b ∷ d.ds; pad = p.pad; extension = x.x })))
            (through (length (b ∷ d.ds) + length p.pad + length (print_extension x.x) + 2) ((1 + length d.ds) + length p.pad + length (print_extension x.x) + 2) LINE_LIMIT (omega arith)
            (short_enough LINE_LIMIT m0 d.m p.k x.k f.m (length d.ds) (length p.pad) (length (print_extension x.x)) first d.len p.len x.len f.len));
        value = refl;
      };
      fits = d.small;
      text =
          ap (λ z. b ∷ z) d.text
          ∙ line_text (record { digits = b ∷ d.ds; pad = p.pad; extension = x.x }) (d.b ∷ d.rest) (p.c ∷ p.rest) x.rest f.rest p.text x.text f.text;
      ends = f.ends;
    }

pub size_line_in : (bytes : List ℕ) (room : ℕ) (body out : List ℕ) → Ends (place Size 0 room LINE_LIMIT) body bytes out → SizeLineIn room body bytes out
size_line_in [] room body out e = absurd (not_yet (place Size 0 room LINE_LIMIT) body out refl e)
size_line_in (b ∷ bytes) room body out e =
    let l : (m : ℕ) × (LINE_LIMIT ≡ m + 1) × Ends (cond (is_ascii_hexdigit b) (with_digit (place Size 0 room m) b) (place Bad 0 room m)) body bytes out
    = line_next Size 0 room LINE_LIMIT b body bytes out refl e in
    elim (split (is_ascii_hexdigit b) (with_digit (place Size 0 room l.0) b) (place Bad 0 room l.0) body bytes out l.2) [
      | inl h ↦
          let g : (0 * 16 + digit_value b ≤ room) × Ends (place Digits (0 * 16 + digit_value b) room l.0) body bytes out = one_digit Size 0 room l.0 b body bytes out h.1 in
          let d : DigitsIn (0 * 16 + digit_value b) room l.0 body bytes out = digits_in bytes (0 * 16 + digit_value b) room l.0 body out g.0 g.1 in
          let p : PadsIn (digits_value_after 16 (0 * 16 + digit_value b) d.ds) room d.m body (d.b ∷ d.rest) out
          = pads_in d.rest Digits (digits_value_after 16 (0 * 16 + digit_value b) d.ds) room d.m d.b body out d.ends in
          let x : ExtensionsIn (digits_value_after 16 (0 * 16 + digit_value b) d.ds) room p.k body (p.c ∷ p.rest) out
          = extensions_in p.q (digits_value_after 16 (0 * 16 + digit_value b) d.ds) room p.k p.c body p.rest out p.ends in
          line_of room l.0 b body bytes out l.1 h.0 d p x (feed_in x.rest (digits_value_after 16 (0 * 16 + digit_value b) d.ds) room x.k body out x.ends)
      | inr h ↦ absurd (bad_ends h.1)
    ]
