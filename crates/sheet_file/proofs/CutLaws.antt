-- A text cut at a byte, and the lines of a file.
use Rattle.std.proofs.Common.{◌≡◌, ℕ, ◌+◌, ◌<◌, Bool, true, false, cond, eqb, List, [], ◌∷◌, ◌++◌, length, Option, Some, None, refl, ap, sym, ◌∙◌, subst, arith, length-append}
use Rattle.std.specs.Option.{option_map}
use Rattle.std.proofs.lemmas.Bool.{eqb-true}
use Rattle.std.proofs.lemmas.Option.{same_Some}
use Rattle.cool_words.specs.Words.{cut_at, with_front}
use Rattle.sheet_file.specs.Lines.{in_front, lines_of, before_newline}

-- a text that was cut: there is no such byte in front of the cut
pub record IsCut (byte : ℕ) (bytes front back : List ℕ) : Type 0 where
  pub joined : bytes ≡ front ++ byte ∷ back
  pub clean : cut_at byte front ≡ None

cut_step : (byte c : ℕ) (bytes : List ℕ) (b : Bool) → eqb c byte ≡ b → cut_at byte (c ∷ bytes) ≡ cond b (Some ([], bytes)) (option_map (with_front c) (cut_at byte bytes))
cut_step byte c bytes b h = ap (λ (t : Bool). cond t (Some ([], bytes)) (option_map (with_front c) (cut_at byte bytes))) h

pub cut_is : (byte : ℕ) (bytes front back : List ℕ) → cut_at byte bytes ≡ Some (front, back) → IsCut byte bytes front back
cut_is byte [] front back h = cc
cut_is byte (c ∷ bytes) front back h = by (λ f g. cut_is byte bytes f g) (eqb c byte) refl (cut_at byte bytes) refl (sym (cut_step byte c bytes (eqb c byte) refl) ∙ h)
  where
    by : ((f g : List ℕ) → cut_at byte bytes ≡ Some (f, g) → IsCut byte bytes f g) → (b : Bool) → eqb c byte ≡ b → (o : Option (List ℕ × List ℕ)) → cut_at byte bytes ≡ o → cond b (Some ([], bytes)) (option_map (with_front c) o) ≡ Some (front, back) → IsCut byte (c ∷ bytes) front back
    by ih true is o cut e =
        let pair : ([], bytes) ≡ (front, back) = same_Some ([], bytes) (front, back) e in
        let f : [] ≡ front = ap (λ (q : List ℕ × List ℕ). q.0) pair in
        let g : bytes ≡ back = ap (λ (q : List ℕ × List ℕ). q.1) pair in
        let same : c ≡ byte = eqb-true c byte is in
        record {
          joined = ap (λ (d : ℕ). d ∷ bytes) same ∙ ap (λ (t : List ℕ). byte ∷ t) g ∙ ap (λ (t : List ℕ). t ++ byte ∷ back) f;
          clean = subst (λ (t : List ℕ). cut_at byte t ≡ None) f refl;
        }
    by ih false is None cut e = cc
    by ih false is (Some s) cut e =
        let pair : with_front c s ≡ (front, back) = same_Some (with_front c s) (front, back) e in
        let f : c ∷ s.0 ≡ front = ap (λ (q : List ℕ × List ℕ). q.0) pair in
        let g : s.1 ≡ back = ap (λ (q : List ℕ × List ℕ). q.1) pair in
        let rest : IsCut byte bytes s.0 s.1 = ih s.0 s.1 cut in
        record {
          joined = ap (λ (t : List ℕ). c ∷ t) rest.joined ∙ ap (λ (t : List ℕ). c ∷ (s.0 ++ byte ∷ t)) g ∙ ap (λ (t : List ℕ). t ++ byte ∷ back) f;
          clean = subst (λ (t : List ℕ). cut_at byte t ≡ None) f (cut_step byte c s.0 false is ∙ ap (option_map (with_front c)) rest.clean);
        }

-- and a text with that byte behind one without it is cut there
pub cut_join : (byte : ℕ) (front back : List ℕ) → cut_at byte front ≡ None → cut_at byte (front ++ byte ∷ back) ≡ Some (front, back)
cut_join byte [] back clean = cut_step byte byte back true (same byte)
  where
    same : (n : ℕ) → eqb n n ≡ true
    same n = grind arith
cut_join byte (c ∷ front) back clean = by (λ h. cut_join byte front back h) (eqb c byte) refl (cut_at byte front) refl (sym (cut_step byte c front (eqb c byte) refl) ∙ clean)
  where
    by : (cut_at byte front ≡ None → cut_at byte (front ++ byte ∷ back) ≡ Some (front, back)) → (b : Bool) → eqb c byte ≡ b → (o : Option (List ℕ × List ℕ)) → cut_at byte front ≡ o → cond b (Some ([], front)) (option_map (with_front c) o) ≡ None → cut_at byte (c ∷ (front ++ byte ∷ back)) ≡ Some (c ∷ front, back)
    by ih true is o cut e = cc
    by ih false is None cut e = cut_step byte c (front ++ byte ∷ back) false is ∙ ap (option_map (with_front c)) (ih cut)
    by ih false is (Some s) cut e = cc

-- the lines of a file that is cut at its first newline
pub line_step : (c : ℕ) (bytes : List ℕ) (b : Bool) → eqb c 10 ≡ b → lines_of (c ∷ bytes) ≡ cond b ((10 ∷ []) ∷ lines_of bytes) (in_front c (lines_of bytes))
unfolding lines_of
line_step c bytes b h = ap (λ (t : Bool). cond t ((10 ∷ []) ∷ lines_of bytes) (in_front c (lines_of bytes))) h

pub no_lines : lines_of [] ≡ []
unfolding lines_of
no_lines = refl

pub lines_cut : (bytes front back : List ℕ) → cut_at 10 bytes ≡ Some (front, back) → lines_of bytes ≡ (front ++ 10 ∷ []) ∷ lines_of back
lines_cut [] front back h = cc
lines_cut (c ∷ bytes) front back h = by (λ f g. lines_cut bytes f g) (eqb c 10) refl (cut_at 10 bytes) refl (sym (cut_step 10 c bytes (eqb c 10) refl) ∙ h)
  where
    by : ((f g : List ℕ) → cut_at 10 bytes ≡ Some (f, g) → lines_of bytes ≡ (f ++ 10 ∷ []) ∷ lines_of g) → (b : Bool) → eqb c 10 ≡ b → (o : Option (List ℕ × List ℕ)) → cut_at 10 bytes ≡ o → cond b (Some ([], bytes)) (option_map (with_front c) o) ≡ Some (front, back) → lines_of (c ∷ bytes) ≡ (front ++ 10 ∷ []) ∷ lines_of back
    by ih true is o cut e =
        let pair : ([], bytes) ≡ (front, back) = same_Some ([], bytes) (front, back) e in
        let f : [] ≡ front = ap (λ (q : List ℕ × List ℕ). q.0) pair in
        let g : bytes ≡ back = ap (λ (q : List ℕ × List ℕ). q.1) pair in
        line_step c bytes true is ∙ ap (λ (t : List ℕ). (t ++ 10 ∷ []) ∷ lines_of bytes) f ∙ ap (λ (t : List ℕ). (front ++ 10 ∷ []) ∷ lines_of t) g
    by ih false is None cut e = cc
    by ih false is (Some s) cut e =
        let pair : with_front c s ≡ (front, back) = same_Some (with_front c s) (front, back) e in
        let f : c ∷ s.0 ≡ front = ap (λ (q : List ℕ × List ℕ). q.0) pair in
        let g : s.1 ≡ back = ap (λ (q : List ℕ × List ℕ). q.1) pair in
        line_step c bytes false is ∙ ap (in_front c) (ih s.0 s.1 cut)
        ∙ ap (λ (t : List ℕ). (t ++ 10 ∷ []) ∷ lines_of s.1) f ∙ ap (λ (t : List ℕ). (front ++ 10 ∷ []) ∷ lines_of t) g

-- and of one without a newline
pub lines_uncut : (bytes : List ℕ) → cut_at 10 bytes ≡ None → 0 < length bytes → lines_of bytes ≡ bytes ∷ []
lines_uncut [] h some = absurd (omega arith)
lines_uncut (c ∷ bytes) h some = by (λ k l. lines_uncut bytes k l) (eqb c 10) refl (cut_at 10 bytes) refl (sym (cut_step 10 c bytes (eqb c 10) refl) ∙ h)
  where
    last : (rest : List ℕ) → (0 < length rest → lines_of rest ≡ rest ∷ []) → in_front c (lines_of rest) ≡ (c ∷ rest) ∷ []
    last [] ih = ap (in_front c) no_lines
    last (d ∷ rest) ih = ap (in_front c) (ih (omega arith))

    by : (cut_at 10 bytes ≡ None → 0 < length bytes → lines_of bytes ≡ bytes ∷ []) → (b : Bool) → eqb c 10 ≡ b → (o : Option (List ℕ × List ℕ)) → cut_at 10 bytes ≡ o → cond b (Some ([], bytes)) (option_map (with_front c) o) ≡ None → lines_of (c ∷ bytes) ≡ (c ∷ bytes) ∷ []
    by ih true is o cut e = cc
    by ih false is None cut e = line_step c bytes false is ∙ last bytes (ih cut)
    by ih false is (Some s) cut e = cc

-- what stands in front of the newline of such a line
pub text_cut : (text : List ℕ) → cut_at 10 text ≡ None → before_newline (text ++ 10 ∷ []) ≡ Some text
text_cut text clean = ap (option_map (λ sides. sides.0)) (cut_join 10 text [] clean)

pub text_uncut : (line : List ℕ) → cut_at 10 line ≡ None → before_newline line ≡ None
text_uncut line none = ap (option_map (λ sides. sides.0)) none

-- what stands behind a cut is shorter
pub cut_shorter : (byte : ℕ) (bytes front back : List ℕ) → IsCut byte bytes front back → length back < length bytes
cut_shorter byte bytes front back cut =
    let e : length bytes ≡ length front + length (byte ∷ back) = ap length cut.joined ∙ length-append front (byte ∷ back) in
    omega (arith, e)
