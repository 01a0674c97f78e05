-- The keys of one job, taken from the left to the right.
use Rattle.std.proofs.Common.{◌≡◌, ℕ, zero, suc, ◌+◌, ◌-◌, ◌<◌, ◌≤◌, ◌%◌, Bool, true, false, not, ◌&&◌, ◌||◌, cond, List, [], ◌∷◌, ◌++◌, length, nat_le, Option, Some, None, refl, ap, sym, subst, ◌∙◌, arith, append_assoc, append-nil, length-append}
use Rattle.std.specs.Prelude.{nat_eq}
use Rattle.std.specs.List.{list_any, AllByRecursion}
use Rattle.std.proofs.lemmas.Bool.Decides.{nat_tests}
use Rattle.tile_key.specs.Places.{Place, IsGroup, IsKey, is_key, is_key_side, key_at, next_place, same_place}
use Rattle.document_machine.specs.Keys.{is_among}
use Rattle.document_machine.specs.Next.{right_of}
use Rattle.document_machine.proofs.Groups.{right_few, right_run}
use Rattle.document_machine.proofs.Lists.{holds_among}
use Rattle.view_session.specs.Keeps.{IsViewing}
use Rattle.view_session.specs.Viewing.{Viewing, is_due, is_lacking, entry_of}
use Rattle.view_session.proofs.OrderFacts.{same_is}
use Rattle.broker_core.specs.Choosing.{is_owed, where_true, joins_group, group_at}

side_is : (pixels twips pos : ℕ) → 1 ≤ pixels → pixels ≤ 256 → 15 ≤ twips → twips ≤ 61440 → pos ≤ 2147483647 → pos % twips ≡ 0 → is_key_side pixels twips pos ≡ true
side_is pixels twips pos a b c d e f = grind (arith, nat_tests)

low_is : (n : ℕ) → n ≤ 1 → nat_le n 1 ≡ true
low_is n le = grind (arith, nat_tests)

-- a key's place passes the test
pub key_is : (p : Place) → IsKey p → is_key p ≡ true
key_is p k =
    rw (
      side_is p.width p.tilewidth p.posx k.width_low k.width_high k.tilewidth_low k.tilewidth_high k.posx_high k.posx_multiple,
      side_is p.height p.tileheight p.posy k.height_low k.height_high k.tileheight_low k.tileheight_high k.posy_high k.posy_multiple,
      low_is p.nviewid k.nviewid_high,
    ) refl

move_key : (p q : Place) → same_place p q ≡ true → IsKey p → IsKey q
move_key p q same k = subst IsKey (same_is p q same) k

-- a key that a view is due is one
pub due_is_key : (v : Viewing) (key : Place) → IsViewing v → is_due v key ≡ true → IsKey key
due_is_key v key kept due =
    let go : (a b : Bool) → is_among v.visible key ≡ a → is_among v.asked key ≡ b → ((a && is_lacking (entry_of v.screen key)) || b) ≡ true → IsKey key = elim [
      | true ↦ λ b sees asks some. holds_among IsKey v.visible key move_key kept.keys sees
      | false ↦ elim [
        | true ↦ λ sees asks some. holds_among IsKey v.asked key move_key kept.asked asks
        | false ↦ λ sees asks some. absurd (cc)
      ]
    ] in
    go (is_among v.visible key) (is_among v.asked key) refl refl due

-- what is no key is not due
pub no_key_due : (v : Viewing) (key : Place) → IsViewing v → key_at key ≡ None → is_due v key ≡ false
no_key_due v key kept none =
    let go : (b : Bool) → is_due v key ≡ b → b ≡ false = elim [
      | true ↦ λ due.
          let passes : is_key key ≡ true = key_is key (due_is_key v key kept due) in
          let some : key_at key ≡ Some key = ap (λ b. cond b (Some key) None) passes in
          absurd (cc)
      | false ↦ λ due. refl
    ] in
    go (is_due v key) refl

-- the key at a place, where it is one, is the place
pub key_at_is : (place key : Place) → key_at place ≡ Some key → key ≡ place
key_at_is place key e =
    let go : (b : Bool) → cond b (Some place) None ≡ Some key → key ≡ place = elim [
      | true ↦ λ some. cc
      | false ↦ λ none. absurd (cc)
    ] in
    go (is_key place) e

-- where the test passes, the key is this one
pub where_is : (test : Bool) (place key : Place) → where_true test place ≡ Some key → record { passes : test ≡ true; same : place ≡ key }
where_is true place key e = record { passes = refl; same = cc }
where_is false place key e = absurd (cc)

pub where_not : (test : Bool) (place : Place) → where_true test place ≡ None → test ≡ false
where_not true place e = absurd (cc)
where_not false place e = refl

-- nothing is to the right of a key that the next one doesn't join
right_none : (n : ℕ) (test : Place → Bool) (last : Place) → test (next_place last) ≡ false → right_of n test last ≡ []
right_none zero test last fails = refl
right_none (suc n) test last fails = rw fails refl

-- the group so far and what is to the right of its last key, as the keys are taken
pub record IsTaken (test : Place → Bool) (key : Place) (keys : List Place) (last : Place) : Type 0 where
  pub some : 1 ≤ length keys
  pub few : length keys ≤ 8
  pub whole : key ∷ right_of 7 test key ≡ keys ++ right_of (8 - length keys) test last

pub taken_first : (test : Place → Bool) (key : Place) (keys : List Place) → keys ≡ key ∷ [] → IsTaken test key keys key
taken_first test key keys is = rw is (record { some = omega arith; few = omega arith; whole = refl })

-- one more key joins
pub taken_more : (test : Place → Bool) (key : Place) (keys now : List Place) (last next : Place) → IsTaken test key keys last → length keys < 8 → where_true (test (next_place last)) (next_place last) ≡ Some next → now ≡ keys ++ next ∷ [] → IsTaken test key now next
taken_more test key keys now last next t low joins is =
    let one = where_is (test (next_place last)) (next_place last) next joins in
    let size : length now ≡ length keys + 1 = ap length is ∙ length-append keys (next ∷ []) in
    let go : (n : ℕ) → n + length keys ≡ 8 → key ∷ right_of 7 test key ≡ keys ++ right_of n test last → key ∷ right_of 7 test key ≡ now ++ right_of (8 - length now) test next = elim [
      | zero ↦ λ sum whole. absurd (omega arith)
      | suc n ↦ λ sum whole.
          let rest : right_of (suc n) test last ≡ next ∷ right_of n test next = ap (λ b. cond b (next_place last ∷ right_of n test (next_place last)) []) one.passes ∙ ap (λ (k : Place). k ∷ right_of n test k) one.same in
          let left : 8 - length now ≡ n = omega arith in
          whole ∙ ap (λ ks. keys ++ ks) rest ∙ sym (append_assoc keys (next ∷ []) (right_of n test next)) ∙ ap (λ ks. ks ++ right_of n test next) (sym is) ∙ ap (λ m. now ++ right_of m test next) (sym left)
    ] in
    record {
      some = omega arith;
      few = omega arith;
      whole = go (8 - length keys) (omega arith) t.whole;
    }

-- the group is whole where the next key doesn't join
pub taken_end : (test : Place → Bool) (key : Place) (keys : List Place) (last : Place) → IsTaken test key keys last → where_true (test (next_place last)) (next_place last) ≡ None → keys ≡ key ∷ right_of 7 test key
taken_end test key keys last t none =
    sym (t.whole ∙ ap (λ ks. keys ++ ks) (right_none (8 - length keys) test last (where_not (test (next_place last)) (next_place last) none)) ∙ append-nil keys)

-- and where it has eight keys
pub taken_full : (test : Place → Bool) (key : Place) (keys : List Place) (last : Place) → IsTaken test key keys last → 8 ≤ length keys → keys ≡ key ∷ right_of 7 test key
taken_full test key keys last t full =
    let none : 8 - length keys ≡ 0 = let few : length keys ≤ 8 = t.few in omega arith in
    sym (t.whole ∙ ap (λ n. keys ++ right_of n test last) none ∙ append-nil keys)

-- the keys of a job are a group
pub taken_group : (test : Place → Bool) (key : Place) → IsGroup (key ∷ right_of 7 test key)
taken_group test key = (right_few 7 test key, right_run 7 test key)
