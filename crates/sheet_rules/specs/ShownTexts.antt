-- Shown texts, compared.
use Rattle.std.specs.Prelude.{◌≡◌, ℕ, Bool, true, false, ◌&&◌, nat_eq, List}
use Rattle.std.proofs.Common.{refl, ap, sym, ◌∙◌, subst, eqb-true, eq-eqb}
use Rattle.std.specs.Str.{bytes_eq}
use Rattle.std.specs.Cmp.{IsEquivalence}
use Rattle.std.specs.Cmp.Lexicographic.{same_text}
use Rattle.std.proofs.lemmas.Bool.{and_parts}
use Rattle.std.proofs.lemmas.Cmp.{nat_list_eq_equiv}
use Rattle.sheet_rules.specs.declared.cuts.ShownText.{ShownText}

-- whether two cells are one and show one text
abbrev pub same_shown : ShownText → ShownText → Bool
same_shown s t = nat_eq s.row t.row && nat_eq s.col t.col && bytes_eq s.text t.text

pub iff_same : (a b : Bool) → (a ≡ true → b ≡ true) → (b ≡ true → a ≡ true) → a ≡ b
iff_same true b f g = sym (f refl)
iff_same false true f g = g refl
iff_same false false f g = refl

-- a test that finds values alike exactly where they are one is an equivalence
pub equivalence_of_exact : {K : Type 0} (E : K → K → Bool) → ((x : K) → E x x ≡ true) → ((x y : K) → E x y ≡ true → x ≡ y) → IsEquivalence E
equivalence_of_exact {K} E alike exact = record {
  refl = alike;
  symm = λ x y. iff_same (E x y) (E y x) (λ e. subst (λ (z : K). E z x ≡ true) (exact x y e) (alike x)) (λ e. subst (λ (z : K). E z y ≡ true) (exact y x e) (alike y));
  congr = λ x y z e. ap (λ (w : K). E w z) (exact x y e);
}

both : (a b c : Bool) → a ≡ true → b ≡ true → c ≡ true → (a && b && c) ≡ true
both a b c p q r = rw (p, q, r) refl

shown_alike : (s : ShownText) → same_shown s s ≡ true
shown_alike s = both (nat_eq s.row s.row) (nat_eq s.col s.col) (bytes_eq s.text s.text) (eq-eqb s.row s.row refl) (eq-eqb s.col s.col refl) (nat_list_eq_equiv.refl s.text)

pub shown_exact : (s t : ShownText) → same_shown s t ≡ true → s ≡ t
shown_exact s t e =
    let outer = and_parts (nat_eq s.row t.row && nat_eq s.col t.col) (bytes_eq s.text t.text) e in
    let inner = and_parts (nat_eq s.row t.row) (nat_eq s.col t.col) outer.0 in
    ap (λ (n : ℕ). record { row = n; col = s.col; text = s.text }) (eqb-true s.row t.row inner.0)
    ∙ ap (λ (n : ℕ). record { row = t.row; col = n; text = s.text }) (eqb-true s.col t.col inner.1)
    ∙ ap (λ (b : List ℕ). record { row = t.row; col = t.col; text = b }) (same_text s.text t.text (sym outer.1))

pub shown_equivalence : IsEquivalence same_shown
shown_equivalence = equivalence_of_exact same_shown shown_alike shown_exact
