-- One more accepted input changes nothing of what was applied.
use Rattle.std.proofs.Common.{◌≡◌, ℕ, zero, suc, ◌<◌, ◌≤◌, ◌||◌, ◌&&◌, List, [], ◌∷◌, ◌++◌, length, length-append, Some, refl, sym, ap, ◌∙◌, arith}
use Rattle.std.specs.Prelude.{slice_get, nat_le}
use Rattle.std.specs.Option.{option_map_or}
use Rattle.std.proofs.Math.ListN.{get_or-append}
use Rattle.std.proofs.lemmas.Option.{slice_get-get_or}
use Rattle.kit_trait.specs.Rules.{Rules, doc}
use Rattle.kit_trait.specs.declared.values.Input.{Input}
use Rattle.kit_trait.specs.declared.values.Damage.{Damage}
use Rattle.tile_key.specs.Places.{Place}
use Rattle.document_machine.specs.Due.{touched, damage_of, is_hurt}
use Rattle.document_machine.proofs.Journal.{doc_same}

-- an input is where it was
input_same : (journal : List Input) (n : ℕ) (input : Input) → n < length journal → slice_get (journal ++ input ∷ []) n ≡ slice_get journal n
input_same journal n input lt =
    let longer : n < length (journal ++ input ∷ []) = omega (arith, length-append journal (input ∷ [])) in
    slice_get-get_or (journal ++ input ∷ []) n input longer ∙ ap Some (get_or-append journal (input ∷ []) input n lt) ∙ sym (slice_get-get_or journal n input lt)

damage_same : {C B : Type 0} (rules : Rules C B) (base : List ℕ) (journal : List Input) (input : Input) (n : ℕ) → n < length journal → damage_of rules base (journal ++ input ∷ []) n ≡ damage_of rules base journal n
damage_same rules base journal input n lt =
    ap (λ c. option_map_or (λ (i : Input). rules.hurt c i) (slice_get (journal ++ input ∷ []) n) []) (sym (doc_same rules base journal n input (omega arith)))
    ∙ ap (λ o. option_map_or (λ (i : Input). rules.hurt (doc rules base journal n) i) o []) (input_same journal n input lt)

-- what the applied inputs touched
pub touched_same : {C B : Type 0} (rules : Rules C B) (base : List ℕ) (journal : List Input) (input : Input) (version : ℕ) (key : Place) (n : ℕ) → n ≤ length journal → touched rules base (journal ++ input ∷ []) version key n ≡ touched rules base journal version key n
touched_same rules base journal input version key zero le = refl
touched_same rules base journal input version key (suc n) le =
    ap (λ b. b || (nat_le version n && is_hurt (damage_of rules base (journal ++ input ∷ []) n) key)) (touched_same rules base journal input version key n (omega arith))
    ∙ ap (λ (hurt : List Damage). touched rules base journal version key n || (nat_le version n && is_hurt hurt key)) (damage_same rules base journal input n (omega arith))
