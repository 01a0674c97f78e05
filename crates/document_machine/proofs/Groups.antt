-- The keys that a job is cut for are a group.
use Rattle.std.proofs.Common.{ℕ, zero, suc, ◌≤◌, Bool, true, false, cond, [], ◌∷◌, length, Option, refl, arith}
use Rattle.kit_trait.specs.Rules.{Rules}
use Rattle.tile_key.specs.Places.{Place, IsGroup, IsRun, next_place}
use Rattle.document_machine.specs.Next.{group_at, joins_group, right_of}
use Rattle.document_machine.specs.State.{Document}

-- to the right of a key no more are taken than so many
pub right_few : (most : ℕ) (test : Place → Bool) (key : Place) → length (right_of most test key) ≤ most
right_few zero test key = omega arith
right_few (suc most) test key =
    elim (test (next_place key)) as (λ b. length (cond b (next_place key ∷ right_of most test (next_place key)) []) ≤ suc most) [
      | true ↦ omega (arith, right_few most test (next_place key))
      | false ↦ omega arith
    ]

-- each of them begins where the one before it ends
pub right_run : (most : ℕ) (test : Place → Bool) (key : Place) → IsRun key (right_of most test key)
right_run zero test key = tt
right_run (suc most) test key =
    elim (test (next_place key)) as (λ b. IsRun key (cond b (next_place key ∷ right_of most test (next_place key)) [])) [
      | true ↦ (refl, right_run most test (next_place key))
      | false ↦ tt
    ]

-- so they are a group: one to eight keys side by side
pub group_is : {C B S : Type 0} (rules : Rules C B) (kept : Place → Option ℕ) (d : Document S) (key : Place) → IsGroup (group_at rules kept d key)
group_is rules kept d key =
    (right_few 7 (joins_group rules kept d) key, right_run 7 (joins_group rules kept d) key)
