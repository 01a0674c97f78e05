-- Scenes, compared.
use Rattle.std.specs.Prelude.{◌≡◌, Bool, true, false, ◌&&◌, List, [], ◌∷◌}
use Rattle.std.proofs.Common.{refl, ap, ◌∙◌}
use Rattle.std.specs.Cmp.{IsEquivalence}
use Rattle.std.proofs.lemmas.Bool.{and_parts}
use Rattle.tile_key.specs.Places.{Place}
use Rattle.sheet_rules.specs.declared.cuts.ShownText.{ShownText}
use Rattle.sheet_rules.specs.ShownTexts.{same_shown, shown_equivalence, shown_exact, equivalence_of_exact}
use Rattle.sheet_kit.specs.declared.scene.SheetScene.{SheetScene}
use lib.Pointwise.{pointwise}

-- whether two scenes have areas that are alike, and the same texts
abbrev pub same_by : (Place → Place → Bool) → SheetScene → SheetScene → Bool
same_by alike a b = alike a.area b.area && pointwise same_shown a.texts b.texts

texts_alike : (ts : List ShownText) → pointwise same_shown ts ts ≡ true
texts_alike [] = refl
texts_alike (t ∷ ts) = rw (shown_equivalence.refl t, texts_alike ts) refl

texts_exact : (ss ts : List ShownText) → pointwise same_shown ss ts ≡ true → ss ≡ ts
texts_exact [] [] e = refl
texts_exact [] (t ∷ ts) e = cc
texts_exact (s ∷ ss) [] e = cc
texts_exact (s ∷ ss) (t ∷ ts) e =
    let parts = and_parts (same_shown s t) (pointwise same_shown ss ts) e in
    ap (λ (u : ShownText). u ∷ ss) (shown_exact s t parts.0) ∙ ap (λ (us : List ShownText). t ∷ us) (texts_exact ss ts parts.1)

-- scenes that compare alike are one, where areas that do are
pub scene_exact : (alike : Place → Place → Bool) → ((p q : Place) → alike p q ≡ true → p ≡ q) → (a b : SheetScene) → same_by alike a b ≡ true → a ≡ b
scene_exact alike exact a b e =
    let parts = and_parts (alike a.area b.area) (pointwise same_shown a.texts b.texts) e in
    ap (λ (p : Place). record { area = p; texts = a.texts }) (exact a.area b.area parts.0)
    ∙ ap (λ (ts : List ShownText). record { area = b.area; texts = ts }) (texts_exact a.texts b.texts parts.1)

scene_alike : (alike : Place → Place → Bool) → ((p : Place) → alike p p ≡ true) → (a : SheetScene) → same_by alike a a ≡ true
scene_alike alike same a = rw (same a.area, texts_alike a.texts) refl

pub scene_equivalence : (alike : Place → Place → Bool) → ((p : Place) → alike p p ≡ true) → ((p q : Place) → alike p q ≡ true → p ≡ q) → IsEquivalence (same_by alike)
scene_equivalence alike same exact = equivalence_of_exact (same_by alike) (scene_alike alike same) (scene_exact alike exact)
