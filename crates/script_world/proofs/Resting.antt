-- Where there is nothing to do and no job is out, no work is next, whatever tiles are kept.
use Rattle.std.proofs.Common.{◌≡◌, ◌∙◌, ◌⊎◌, ℕ, ◌≤◌, Bool, true, false, ◌&&◌, cond, List, [], ◌∷◌, length, find, Option, None, inl, inr, refl, ap, sym, arith}
use Rattle.std.specs.Prelude.{nat_lt}
use Rattle.std.specs.List.{AllByRecursion}
use Rattle.std.proofs.lemmas.Bool.{cases_Bool, le-ltb}
use Rattle.document_machine.specs.Due.{has_room, is_due, is_out, keys}
use Rattle.document_machine.specs.Next.{Serve, Apply, Rest, can_serve, next_key, next_among, next_pair, or_later, pick, serving_next}
use Rattle.document_machine.specs.State.{View, Document}
use Rattle.document_machine.specs.Step.{IsServed, Rests}
use Rattle.document_machine.specs.declared.limits.TheConstants.{MOST_JOBS}
use Rattle.kit_trait.specs.Rules.{Rules}
use Rattle.tile_key.specs.Places.{Place}

none_found : {X : Type 0} (p : X → Bool) (xs : List X) → AllByRecursion (λ x. p x ≡ false) xs → find p xs ≡ None
none_found p [] all = refl
none_found p (x ∷ xs) all = rw (all.0) (none_found p xs all.1)

and_false : (b : Bool) → (b && false) ≡ false
and_false true = refl
and_false false = refl

module _ {C B S : Type 0} (rules : Rules C B) (kept : Place → Option ℕ) (d : Document S) (free : d.jobs ≡ []) where
  abbrev UnderWay : Place → Type 0
  UnderWay key = (is_out d.jobs key ≡ true) ⊎ (MOST_JOBS ≤ length d.jobs)

  abbrev serves : View → Place → Bool
  serves view key = can_serve kept d.jobs key && is_due rules d view key

  none_under_way : (key : Place) → UnderWay key → ⊥
  none_under_way key (inl out) = let odd : false ≡ true = sym (ap (λ js. is_out js key) free) ∙ out in absurd (cc)
  none_under_way key (inr full) = let none : length d.jobs ≡ 0 = ap length free in omega (arith, full, none)

  not_due : (view : View) (key : Place) → has_room view ≡ true → ((has_room view && is_due rules d view key) ≡ true → UnderWay key) → serves view key ≡ false
  not_due view key room served =
      elim (cases_Bool (is_due rules d view key)) [
        | inl due ↦
            let wanted : (has_room view && is_due rules d view key) ≡ true = rw (room, due) refl in
            absurd (none_under_way key (served wanted))
        | inr off ↦ ap (λ b. can_serve kept d.jobs key && b) off ∙ and_false (can_serve kept d.jobs key)
      ]

  none_due : (view : View) (places : List Place) → has_room view ≡ true → AllByRecursion (λ key. (has_room view && is_due rules d view key) ≡ true → UnderWay key) places → AllByRecursion (λ key. serves view key ≡ false) places
  none_due view [] room served = tt
  none_due view (key ∷ places) room served = (not_due view key room served.0, none_due view places room served.1)

  view_next : (view : View) → IsServed rules d view → next_key rules kept d view ≡ None
  view_next view served =
      let go : (b : Bool) → has_room view ≡ b → cond b (find (serves view) (keys rules d view)) None ≡ None = elim [
        | true ↦ λ room. none_found (serves view) (keys rules d view) (none_due view (keys rules d view) room served)
        | false ↦ λ full. refl
      ] in
      go (has_room view) refl

  none_among : (views : List View) → AllByRecursion (IsServed rules d) views → next_among rules kept d views ≡ None
  none_among [] served = refl
  none_among (view ∷ views) served =
      ap (λ o. or_later view.id o (next_among rules kept d views)) (view_next view served.0) ∙ none_among views served.1

  -- so a turn would be Idle
  pub none_next : Rests rules d → pick rules kept d ≡ Rest
  none_next rests =
      let less : nat_lt d.applied (length d.journal) ≡ false = let level = rests.level in le-ltb d.applied (length d.journal) (omega (arith, level)) in
      ap (λ b. cond b Serve (cond (nat_lt d.applied (length d.journal)) Apply (serving_next rules kept d (next_pair rules kept d)))) rests.no_save
      ∙ ap (λ b. cond b Apply (serving_next rules kept d (next_pair rules kept d))) less
      ∙ ap (serving_next rules kept d) (none_among d.views rests.served)
