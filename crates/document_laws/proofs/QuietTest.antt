-- Why the test of a quiet document tells.
use Rattle.std.proofs.Common.{◌≡◌, ◌≤◌, Bool, true, false, not, ◌&&◌, List, [], ◌∷◌, length, nat_eq, Option, None, Some, refl, ap, sym, subst, arith}
use Rattle.std.specs.Prelude.{◌⊎◌, is_none}
use Rattle.std.specs.List.{list_any, list_all, AllByRecursion}
use Rattle.std.proofs.lemmas.Bool.{and_parts, or_parts, not-true}
use Rattle.std.proofs.lemmas.Bool.Decides.{nat_tests}
use Rattle.kit_trait.specs.Rules.{Rules}
use Rattle.tile_key.specs.Places.{Place}
use Rattle.document_machine.specs.Due.{is_due, has_room, is_out, visible}
use Rattle.document_machine.specs.Keys.{is_among, ordered}
use Rattle.document_machine.specs.Quiet.{IsQuiet, is_quiet, is_still}
use Rattle.document_machine.specs.Saves.{has_ready_save}
use Rattle.document_machine.specs.State.{View, Document}
use Rattle.document_machine.specs.Step.{IsServed}
use Rattle.document_machine.specs.declared.limits.TheConstants.{MOST_JOBS}
use Rattle.document_laws.proofs.Ordered.{both, weaker, ordered_all, all_among}
use Rattle.document_laws.proofs.Quiet.{all_not_due, asked_due}

-- a list of no length is the empty one
none_there : {X : Type 0} (xs : List X) → nat_eq (length xs) 0 ≡ true → xs ≡ []
none_there [] e = refl
none_there (x ∷ xs) e = absurd (grind (arith, nat_tests))

nothing_there : {X : Type 0} (o : Option X) → is_none o ≡ true → o ≡ None
nothing_there None e = refl
nothing_there (Some x) e = absurd (cc)

-- what follows from a test that all pass
all_pass : {X : Type 0} (t : X → Bool) (P : X → Type 0) (xs : List X) → ((x : X) → t x ≡ true → P x)
    → list_all t xs ≡ true → AllByRecursion P xs
all_pass t P [] f e = tt
all_pass t P (x ∷ xs) f e =
    let parts = and_parts (t x) (list_all t xs) e in
    (f x parts.0, all_pass t P xs f parts.1)

-- all pass the test
passes : {X : Type 0} (t : X → Bool) (xs : List X) → AllByRecursion (λ x. t x ≡ true) xs
    → list_all t xs ≡ true
passes t [] all = refl
passes t (x ∷ xs) all = rw (all.0, passes t xs all.1) refl

-- none passes the test
none_passes : {X : Type 0} (t : X → Bool) (xs : List X) → list_any t xs ≡ false
    → AllByRecursion (λ x. t x ≡ false) xs
none_passes t [] e = tt
none_passes t (x ∷ xs) e =
    let parts = or_parts (t x) (list_any t xs) e in
    (parts.0, none_passes t xs parts.1)

passes_none : {X : Type 0} (t : X → Bool) (xs : List X) → AllByRecursion (λ x. t x ≡ false) xs
    → list_any t xs ≡ false
passes_none t [] all = refl
passes_none t (x ∷ xs) all = rw (all.0, passes_none t xs all.1) refl

module _ {C B S : Type 0} (rules : Rules C B) (d : Document S) (view : View) where
  -- a view that passes the test is served, and its window is empty
  still_is : is_still rules d view ≡ true → IsServed rules d view × (view.window ≡ [])
  still_is still =
      let first =
      and_parts (nat_eq (length view.window) 0)
      (not (list_any (is_due rules d view) (visible rules d view))
      && nat_eq (length view.asked) 0) still in
      let second =
      and_parts (not (list_any (is_due rules d view) (visible rules d view)))
      (nat_eq (length view.asked) 0) first.1 in
      let idle : view.asked ≡ [] = none_there view.asked second.1 in
      let clean =
      none_passes (is_due rules d view) (visible rules d view)
      (not-true (list_any (is_due rules d view) (visible rules d view)) second.0) in
      let Served : Place → Type 0 = λ key. (has_room view && is_due rules d view key) ≡ true
      → (is_out d.jobs key ≡ true) ⊎ (MOST_JOBS ≤ length d.jobs) in
      let away : (a b : Bool) → b ≡ false → (a && b) ≡ true → ⊥ =
      elim [ true ↦ λ b e f. (cc) | false ↦ λ b e f. (cc) ] in
      let served : AllByRecursion Served (visible rules d view) =
      weaker (λ key. is_due rules d view key ≡ false) Served (visible rules d view)
      (λ key is wanted. absurd (away (has_room view) (is_due rules d view key) is wanted))
      clean in (
        subst (λ asked. AllByRecursion Served (ordered asked (visible rules d view)))
            (sym idle) served,
        none_there view.window first.0,
      )

  -- nothing is asked for where no key that is asked for is due
  idle_by : (asked : List Place) → AllByRecursion (λ key. is_among view.asked key ≡ true) asked
      → AllByRecursion (λ key. is_due rules d view key ≡ false) asked → asked ≡ []
  idle_by [] among not_due = refl
  idle_by (key ∷ others) among not_due =
      absurd (let due = asked_due rules d view key among.0 in let no = not_due.0 in cc)

  -- a view that is served, with an empty window, passes the test where no job is out
  is_still_by : d.jobs ≡ [] → IsServed rules d view → view.window ≡ []
      → is_still rules d view ≡ true
  is_still_by no_job served empty =
      let parts =
      ordered_all (λ key. is_due rules d view key ≡ false) view.asked (visible rules d view)
      (all_not_due rules d view no_job served empty) in
      let idle : view.asked ≡ [] = idle_by view.asked (all_among view.asked) parts.0 in
      let clean : list_any (is_due rules d view) (visible rules d view) ≡ false =
      passes_none (is_due rules d view) (visible rules d view) parts.1 in
      let a : nat_eq (length view.window) 0 ≡ true = ap (λ w. nat_eq (length w) 0) empty in
      let b : nat_eq (length view.asked) 0 ≡ true = ap (λ w. nat_eq (length w) 0) idle in
      let c : not (list_any (is_due rules d view) (visible rules d view)) ≡ true = ap not clean in
      let go : (x y z : Bool) → x ≡ true → y ≡ true → z ≡ true → (x && (y && z)) ≡ true =
      λ x y z p q r. rw (p, q, r) refl in
      go (nat_eq (length view.window) 0)
      (not (list_any (is_due rules d view) (visible rules d view)))
      (nat_eq (length view.asked) 0) a c b

module _ {C B S : Type 0} (rules : Rules C B) (d : Document S) where
  pub passed_is_quiet : is_quiet rules d ≡ true → IsQuiet rules d
  passed_is_quiet test =
      let saves =
      and_parts (not (has_ready_save d) && is_none d.saving.put)
      (nat_eq d.applied (length d.journal)
      && (nat_eq (length d.jobs) 0 && list_all (is_still rules d) d.views)) test in
      let put = and_parts (not (has_ready_save d)) (is_none d.saving.put) saves.0 in
      let one = and_parts (nat_eq d.applied (length d.journal))
      (nat_eq (length d.jobs) 0 && list_all (is_still rules d) d.views) saves.1 in
      let two = and_parts (nat_eq (length d.jobs) 0) (list_all (is_still rules d) d.views) one.1 in
      let level : d.applied ≡ length d.journal = grind (arith, nat_tests, one.0) in
      record {
        rests = record {
          no_save = not-true (has_ready_save d) put.0;
          level = level;
          served = all_pass (is_still rules d) (IsServed rules d) d.views
              (λ view still. (still_is rules d view still).0) two.1;
        };
        no_job = none_there d.jobs two.0;
        no_put = nothing_there d.saving.put put.1;
        empty = all_pass (is_still rules d) (λ view. view.window ≡ []) d.views
            (λ view still. (still_is rules d view still).1) two.1;
      }

  pub quiet_passes : IsQuiet rules d → is_quiet rules d ≡ true
  quiet_passes quiet =
      let level : nat_eq d.applied (length d.journal) ≡ true = let e = quiet.rests.level in
      grind (arith, nat_tests) in
      let saves : not (has_ready_save d) ≡ true = ap not quiet.rests.no_save in
      let put : is_none d.saving.put ≡ true = ap is_none quiet.no_put in
      let none : nat_eq (length d.jobs) 0 ≡ true =
      ap (λ jobs. nat_eq (length jobs) 0) quiet.no_job in
      let still : list_all (is_still rules d) d.views ≡ true = passes (is_still rules d) d.views
      (both (IsServed rules d) (λ view. view.window ≡ [])
      (λ view. is_still rules d view ≡ true) d.views
      (λ view served empty. is_still_by rules d view quiet.no_job served empty) quiet.rests.served
      quiet.empty) in
      let go : (a b c d e : Bool) → a ≡ true → b ≡ true → c ≡ true → d ≡ true → e ≡ true
      → ((a && b) && (c && (d && e))) ≡ true = λ a b c d e p q r s t. rw (p, q, r, s, t) refl in
      go (not (has_ready_save d)) (is_none d.saving.put) (nat_eq d.applied (length d.journal))
      (nat_eq (length d.jobs) 0)
      (list_all (is_still rules d) d.views) saves put level none still
