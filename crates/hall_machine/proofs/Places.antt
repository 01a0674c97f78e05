-- Places in a list that is seen through a function.
use Rattle.std.proofs.Common.{◌≡◌, ℕ, ◌+◌, Bool, not, None, Some, List, [], ◌∷◌, map, length, cond}
use Rattle.std.proofs.Common.{refl, ap, ◌∙◌, ltb, arith, take, drop, min}
use Rattle.std.specs.List.{position, prefix_len, slice_get}
use Rattle.std.specs.Option.{option_map}
use Rattle.std.proofs.lemmas.List.{length-map, drop_min, take_min}
use Rattle.std.proofs.lemmas.Option.{slice_get-map, get_or_from_slice_get}
use Rattle.hall_machine.specs.declared.words.Label.{Label}
use Rattle.hall_machine.specs.declared.words.OpenDocument.{OpenDocument}
use Rattle.hall_machine.specs.Machine.{desk_at, nobody}
use Rattle.hall_machine.specs.States.{sight, sights}

module _ {A B : Type 0} (f : A → B) (p : B → Bool) where
  first_seen : (xs : List A)
      → prefix_len (λ y. not (p y)) (map f xs) ≡ prefix_len (λ x. not (p (f x))) xs
  first_seen [] = refl
  first_seen (x ∷ xs) = ap (λ n. cond (not (p (f x))) (1 + n) 0) (first_seen xs)

  -- the first place in what is seen is the first place in the list
  pub position_seen : (xs : List A) → position p (map f xs) ≡ position (λ x. p (f x)) xs
  position_seen xs = ap (λ n. cond (ltb n (length (map f xs))) (Some n) None) (first_seen xs)
      ∙ ap (λ m. cond (ltb (prefix_len (λ x. not (p (f x))) xs) m)
      (Some (prefix_len (λ x. not (p (f x))) xs)) None) (length-map xs f)

-- the desk of an open document
pub desk_seen : {P M : Type 0} (tag : M → Label) (opens : List (OpenDocument P M)) (i : ℕ)
    (o : OpenDocument P M) → slice_get opens i ≡ Some o → desk_at (sights tag opens) i ≡ sight tag o
desk_seen tag opens i o e = get_or_from_slice_get (sights tag opens) i (sight tag o) nobody
    (slice_get-map (sight tag) opens i ∙ ap (option_map (sight tag)) e)

-- the oldest, at most 64
pub oldest : {A : Type 0} (n k : ℕ) (xs : List A) → n ≡ length xs → k ≡ min n 64
    → (drop k xs ≡ drop 64 xs) × (take k xs ≡ take 64 xs)
oldest n k xs e f =
    let m : k ≡ min 64 (length xs) = omega arith in
    (ap (λ j. drop j xs) m ∙ drop_min 64 xs, ap (λ j. take j xs) m ∙ take_min 64 xs)
