-- The trailers that were read.
use Rattle.std.proofs.Common.{ℕ, ◌≡◌, ◌+◌, ◌<◌, ◌≤◌, true, cond, eqb, get_or, List, [], ◌∷◌, ◌++◌, length, refl, sym, ap, ◌∙◌, subst, arith, append_assoc, zero, suc, inl, inr}
use Rattle.std.specs.List.{flat_map, All}
use Rattle.std.proofs.lemmas.List.{length-append}
use Rattle.httparse.specs.Grammar.{AllPass, is_token_byte, is_value_byte, LineEnd, crlf, lf, print_end, Field, IsField, print_field, print_section}
use Rattle.wire_body.specs.declared.states.Phase.{Phase}
use Rattle.wire_body.specs.declared.states.Phase.TheVariants.{Trailer, Name, Value, ValueEnd, LastEnd, Done}
use Rattle.wire_body.specs.Bodies.{expects, ends_line}
use Rattle.http_laws.proofs.Leads.{place}
use Rattle.http_laws.proofs.Ends.{Ends, ends_final, not_yet, line_next, split, same_byte, expect_next, none_pass, one_passes}

record NamesIn (left room n : ℕ) (body bytes out : List ℕ) : Type 0 where
  xs : List ℕ
  rest : List ℕ
  m : ℕ
  tokens : AllPass is_token_byte xs
  text : bytes ≡ xs ++ (58 ∷ rest)
  len : n ≡ length xs + (m + 1)
  ends : Ends (place Value left room m) body rest out

one_more_name : (left room n m b : ℕ) (body bytes out : List ℕ) → n ≡ m + 1 → is_token_byte b ≡ true → NamesIn left room m body bytes out → NamesIn left room n body (b ∷ bytes) out
one_more_name left room n m b body bytes out len is t = record {
  xs = b ∷ t.xs;
  rest = t.rest;
  m = t.m;
  tokens = one_passes is_token_byte b t.xs is t.tokens;
  text = ap (λ z. b ∷ z) t.text;
  len = omega (arith, t.len);
  ends = t.ends;
}

names_in : (bytes : List ℕ) (left room n : ℕ) (body out : List ℕ) → Ends (place Name left room n) body bytes out → NamesIn left room n body bytes out
names_in [] left room n body out e = absurd (not_yet (place Name left room n) body out refl e)
names_in (b ∷ bytes) left room n body out e =
    let l : (m : ℕ) × (n ≡ m + 1) × Ends (cond (is_token_byte b) (place Name left room m) (expects 58 (place Value left room m) (place Name left room m) b)) body bytes out
    = line_next Name left room n b body bytes out refl e in
    elim (split (is_token_byte b) (place Name left room l.0) (expects 58 (place Value left room l.0) (place Name left room l.0) b) body bytes out l.2) [
      | inl h ↦ one_more_name left room n l.0 b body bytes out l.1 h.0 (names_in bytes left room l.0 body out h.1)
      | inr h ↦
          let r : (b ≡ 58) × Ends (place Value left room l.0) body bytes out = expect_next 58 b left room l.0 Name (place Value left room l.0) body bytes out h.1 in
          record { xs = []; rest = bytes; m = l.0; tokens = none_pass is_token_byte; text = ap (λ c. c ∷ bytes) r.0; len = omega (arith, l.1); ends = r.1 }
    ]

-- a line feed that leads to the next phase
record FeedIn (next : Phase) (left room k : ℕ) (body bytes out : List ℕ) : Type 0 where
  rest : List ℕ
  m : ℕ
  text : bytes ≡ 10 ∷ rest
  len : k ≡ m + 1
  ends : Ends (place next left room m) body rest out

value_feed : (bytes : List ℕ) (left room k : ℕ) (body out : List ℕ) → Ends (place ValueEnd left room k) body bytes out → FeedIn Trailer left room k body bytes out
value_feed [] left room k body out e = absurd (not_yet (place ValueEnd left room k) body out refl e)
value_feed (b ∷ bytes) left room k body out e =
    let l : (m : ℕ) × (k ≡ m + 1) × Ends (expects 10 (place Trailer left room m) (place ValueEnd left room m) b) body bytes out = line_next ValueEnd left room k b body bytes out refl e in
    let r : (b ≡ 10) × Ends (place Trailer left room l.0) body bytes out = expect_next 10 b left room l.0 ValueEnd (place Trailer left room l.0) body bytes out l.2 in
    record { rest = bytes; m = l.0; text = ap (λ c. c ∷ bytes) r.0; len = l.1; ends = r.1 }

last_feed : (bytes : List ℕ) (left room k : ℕ) (body out : List ℕ) → Ends (place LastEnd left room k) body bytes out → FeedIn Done left room k body bytes out
last_feed [] left room k body out e = absurd (not_yet (place LastEnd left room k) body out refl e)
last_feed (b ∷ bytes) left room k body out e =
    let l : (m : ℕ) × (k ≡ m + 1) × Ends (expects 10 (place Done left room m) (place LastEnd left room m) b) body bytes out = line_next LastEnd left room k b body bytes out refl e in
    let r : (b ≡ 10) × Ends (place Done left room l.0) body bytes out = expect_next 10 b left room l.0 LastEnd (place Done left room l.0) body bytes out l.2 in
    record { rest = bytes; m = l.0; text = ap (λ c. c ∷ bytes) r.0; len = l.1; ends = r.1 }

record ValuesIn (left room n : ℕ) (body bytes out : List ℕ) : Type 0 where
  raw : List ℕ
  end : LineEnd
  rest : List ℕ
  m : ℕ
  plain : AllPass is_value_byte raw
  text : bytes ≡ raw ++ (print_end end ++ rest)
  len : n ≡ length raw + (length (print_end end) + m)
  ends : Ends (place Trailer left room m) body rest out

one_more_value : (left room n m b : ℕ) (body bytes out : List ℕ) → n ≡ m + 1 → is_value_byte b ≡ true → ValuesIn left room m body bytes out → ValuesIn left room n body (b ∷ bytes) out
one_more_value left room n m b body bytes out len is t = record {
  raw = b ∷ t.raw;
  end = t.end;
  rest = t.rest;
  m = t.m;
  plain = one_passes is_value_byte b t.raw is t.plain;
  text = ap (λ z. b ∷ z) t.text;
  len = omega (arith, t.len);
  ends = t.ends;
}

with_return : (left room n m b : ℕ) (body bytes out : List ℕ) → n ≡ m + 1 → b ≡ 13 → FeedIn Trailer left room m body bytes out → ValuesIn left room n body (b ∷ bytes) out
with_return left room n m b body bytes out len is f = record {
  raw = [];
  end = crlf;
  rest = f.rest;
  m = f.m;
  plain = none_pass is_value_byte;
  text = ap (λ c. c ∷ bytes) is ∙ ap (λ z. 13 ∷ z) f.text;
  len = omega (arith, f.len);
  ends = f.ends;
}

values_in : (bytes : List ℕ) (left room n : ℕ) (body out : List ℕ) → Ends (place Value left room n) body bytes out → ValuesIn left room n body bytes out
values_in [] left room n body out e = absurd (not_yet (place Value left room n) body out refl e)
values_in (b ∷ bytes) left room n body out e =
    let l : (m : ℕ) × (n ≡ m + 1) × Ends (cond (is_value_byte b) (place Value left room m) (ends_line ValueEnd (place Trailer left room m) (place Value left room m) b)) body bytes out
    = line_next Value left room n b body bytes out refl e in
    elim (split (is_value_byte b) (place Value left room l.0) (ends_line ValueEnd (place Trailer left room l.0) (place Value left room l.0) b) body bytes out l.2) [
      | inl h ↦ one_more_value left room n l.0 b body bytes out l.1 h.0 (values_in bytes left room l.0 body out h.1)
      | inr h ↦
          elim (split (eqb b 13) (place ValueEnd left room l.0) (expects 10 (place Trailer left room l.0) (place Value left room l.0) b) body bytes out h.1) [
            | inl g ↦ with_return left room n l.0 b body bytes out l.1 (same_byte b 13 g.0) (value_feed bytes left room l.0 body out g.1)
            | inr g ↦
                let r : (b ≡ 10) × Ends (place Trailer left room l.0) body bytes out = expect_next 10 b left room l.0 Value (place Trailer left room l.0) body bytes out g.1 in
                record { raw = []; end = lf; rest = bytes; m = l.0; plain = none_pass is_value_byte; text = ap (λ c. c ∷ bytes) r.0; len = omega (arith, l.1); ends = r.1 }
          ]
    ]

pub record SectionIn (n : ℕ) (body bytes out : List ℕ) : Type 0 where
  pub fields : List Field
  pub end : LineEnd
  pub rest : List ℕ
  pub ok : All IsField fields
  pub text : bytes ≡ print_section fields end ++ rest
  pub short : length (print_section fields end) ≤ n
  pub same : body ≡ out

parts_text : (name v pend more pe rest : List ℕ) → (((name ++ v) ++ pend ++ more) ++ pe) ++ rest ≡ name ++ (v ++ (pend ++ ((more ++ pe) ++ rest)))
parts_text name v pend more pe rest = simp append_assoc

field_text : (name raw pend more pe rest : List ℕ) → (((name ++ (58 ∷ raw)) ++ pend ++ more) ++ pe) ++ rest ≡ name ++ (58 ∷ (raw ++ (pend ++ ((more ++ pe) ++ rest))))
field_text name raw pend more pe rest = parts_text name (58 ∷ raw) pend more pe rest

field_len : (name raw pend more pe : List ℕ) → length (((name ++ (58 ∷ raw)) ++ pend ++ more) ++ pe) ≡ length name + (1 + (length raw + (length pend + length (more ++ pe))))
field_len name raw pend more pe =
    omega (arith, length-append ((name ++ (58 ∷ raw)) ++ pend ++ more) pe, length-append ((name ++ (58 ∷ raw)) ++ pend) more, length-append (name ++ (58 ∷ raw)) pend, length-append name (58 ∷ raw), length-append more pe)

one_field : (f : Field) (fs : List Field) → IsField f → All IsField fs → (k : ℕ) (d : Field) → k < length (f ∷ fs) → IsField (get_or (f ∷ fs) k d)
one_field f fs is all zero d less = is
one_field f fs is all (suc k) d less = all k d (omega arith)

adds_up : (n m0 m1 m2 name raw pend rest : ℕ) → n ≡ m0 + 1 → m0 ≡ name + (m1 + 1) → m1 ≡ raw + (pend + m2) → rest ≤ m2 → (1 + name) + (1 + (raw + (pend + rest))) ≤ n
adds_up n m0 m1 m2 name raw pend rest a b c d = omega arith

with_field : (left room n m b : ℕ) (body bytes out : List ℕ) → n ≡ m + 1 → is_token_byte b ≡ true → (nm : NamesIn left room m body bytes out) (vl : ValuesIn left room nm.m body nm.rest out)
    → SectionIn vl.m body vl.rest out → SectionIn n body (b ∷ bytes) out
with_field left room n m b body bytes out len is nm vl s = record {
  fields = record { name = b ∷ nm.xs; raw = vl.raw; end = vl.end } ∷ s.fields;
  end = s.end;
  rest = s.rest;
  ok = one_field (record { name = b ∷ nm.xs; raw = vl.raw; end = vl.end }) s.fields (record { name = (omega arith, one_passes is_token_byte b nm.xs is nm.tokens); raw = vl.plain }) s.ok;
  text =
      ap (λ z. b ∷ z) (nm.text ∙ ap (λ z. nm.xs ++ (58 ∷ z)) (vl.text ∙ ap (λ z. vl.raw ++ (print_end vl.end ++ z)) s.text))
      ∙ sym (field_text (b ∷ nm.xs) vl.raw (print_end vl.end) (flat_map print_field s.fields) (print_end s.end) s.rest);
  short =
      subst (λ k. k ≤ n) (sym (field_len (b ∷ nm.xs) vl.raw (print_end vl.end) (flat_map print_field s.fields) (print_end s.end)))
      (omega (arith, adds_up n m nm.m vl.m (length nm.xs) (length vl.raw) (length (print_end vl.end)) (length (print_section s.fields s.end)) len nm.len vl.len s.short));
  same = s.same;
}

with_last_return : (left room n m b : ℕ) (body bytes out : List ℕ) → n ≡ m + 1 → b ≡ 13 → FeedIn Done left room m body bytes out → SectionIn n body (b ∷ bytes) out
with_last_return left room n m b body bytes out len is f = record {
  fields = [];
  end = crlf;
  rest = f.rest;
  ok = λ k d less. absurd (omega arith);
  text = ap (λ c. c ∷ bytes) is ∙ ap (λ z. 13 ∷ z) f.text;
  short = omega (arith, f.len);
  same = (ends_final (place Done left room f.m) body f.rest out refl f.ends).1;
}

with_last_feed : (left room n m b : ℕ) (body bytes out : List ℕ) → n ≡ m + 1 → b ≡ 10 → Ends (place Done left room m) body bytes out → SectionIn n body (b ∷ bytes) out
with_last_feed left room n m b body bytes out len is e = record {
  fields = [];
  end = lf;
  rest = bytes;
  ok = λ k d less. absurd (omega arith);
  text = ap (λ c. c ∷ bytes) is;
  short = omega arith;
  same = (ends_final (place Done left room m) body bytes out refl e).1;
}

-- the rest behind a field is shorter
shorter : (fuel : ℕ) (xs raw pend r1 r2 bytes : List ℕ) → bytes ≡ xs ++ (58 ∷ r1) → r1 ≡ raw ++ (pend ++ r2) → length bytes ≤ fuel → length r2 ≤ fuel
shorter fuel xs raw pend r1 r2 bytes e1 e2 fits =
    omega (arith, ap length e1, ap length e2, length-append xs (58 ∷ r1), length-append raw (pend ++ r2), length-append pend r2)

pub section_in : (fuel : ℕ) (bytes : List ℕ) (left room n : ℕ) (body out : List ℕ) → length bytes ≤ fuel → Ends (place Trailer left room n) body bytes out → SectionIn n body bytes out
section_in fuel [] left room n body out fits e = absurd (not_yet (place Trailer left room n) body out refl e)
section_in zero (b ∷ bytes) left room n body out fits e = absurd (omega arith)
section_in (suc fuel) (b ∷ bytes) left room n body out fits e =
    let l : (m : ℕ) × (n ≡ m + 1) × Ends (cond (is_token_byte b) (place Name left room m) (ends_line LastEnd (place Done left room m) (place Trailer left room m) b)) body bytes out
    = line_next Trailer left room n b body bytes out refl e in
    elim (split (is_token_byte b) (place Name left room l.0) (ends_line LastEnd (place Done left room l.0) (place Trailer left room l.0) b) body bytes out l.2) [
      | inl h ↦
          let nm : NamesIn left room l.0 body bytes out = names_in bytes left room l.0 body out h.1 in
          let vl : ValuesIn left room nm.m body nm.rest out = values_in nm.rest left room nm.m body out nm.ends in
          with_field left room n l.0 b body bytes out l.1 h.0 nm vl
          (section_in fuel vl.rest left room vl.m body out (shorter fuel nm.xs vl.raw (print_end vl.end) nm.rest vl.rest bytes nm.text vl.text (omega arith)) vl.ends)
      | inr h ↦
          elim (split (eqb b 13) (place LastEnd left room l.0) (expects 10 (place Done left room l.0) (place Trailer left room l.0) b) body bytes out h.1) [
            | inl g ↦ with_last_return left room n l.0 b body bytes out l.1 (same_byte b 13 g.0) (last_feed bytes left room l.0 body out g.1)
            | inr g ↦
                let r : (b ≡ 10) × Ends (place Done left room l.0) body bytes out = expect_next 10 b left room l.0 Trailer (place Done left room l.0) body bytes out g.1 in
                with_last_feed left room n l.0 b body bytes out l.1 r.0 r.1
          ]
    ]
