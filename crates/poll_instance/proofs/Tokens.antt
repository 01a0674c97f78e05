-- The token of a put's errand is that of the first save that the put is for.
use Rattle.std.proofs.Common.{◌≡◌, ℕ, Bool, true, false, not, ◌&&◌, cond, List, [], ◌∷◌, map}
use Rattle.std.proofs.Common.{filter, find, nat_eq, nat_le, Option, None, Some, refl, ap, sym, subst}
use Rattle.std.proofs.Common.{◌∙◌}
use Rattle.std.specs.Option.{option_map}
use Rattle.std.specs.List.{AllByRecursion}
use Rattle.outside.specs.declared.errands.Errand.{Errand}
use Rattle.save_core.specs.declared.values.Save.{Save}
use Rattle.save_core.specs.Saving.{Saving, errand_for, served, begun, left_over, token_for}
use Rattle.save_core.specs.Saving.{needs_put, is_unmodified, bound_to, last_stored}
use Rattle.poll_instance.specs.Locks.{put_token}

-- the token of the first save that the put is for
abbrev first_bound : List Save → Option (List ℕ)
first_bound saves = option_map (λ save. save.token) (find (λ save. save.bound) saves)

-- one save more in front, whichever it is: one that isn't ready, one that needs no put, or one that
-- needs one
shape : (bind : Save → Save) (needs : Save → Bool) (kept saves : List Save) (save : Save)
    (ready skip : Bool)
    → (bind save).bound ≡ ready → (bind save).token ≡ save.token
    → first_bound (map bind kept) ≡ option_map (λ s. s.token) (find needs saves)
    → first_bound (map bind (cond (not (ready && skip)) (save ∷ kept) kept))
    ≡ option_map (λ s. s.token) (cond (ready && not skip) (Some save) (find needs saves))
shape bind needs kept saves save true true bound token h = h
shape bind needs kept saves save true false bound token h =
    rw bound (ap (λ (t : List ℕ). Some t) token)
shape bind needs kept saves save false true bound token h = rw bound h
shape bind needs kept saves save false false bound token h = rw bound h

-- a save to which no put is bound yet
abbrev unbound : Save → Save
unbound save = record save { bound = false }

in_front : (applied last : ℕ) (save : Save) (saves : List Save)
    → save.bound ≡ false
    → first_bound (left_over applied last saves) ≡ token_for applied last saves
    → first_bound (left_over applied last (save ∷ saves)) ≡ token_for applied last (save ∷ saves)
in_front applied last save saves free h =
    let at_unbound : first_bound (left_over applied last (unbound save ∷ saves))
    ≡ token_for applied last (unbound save ∷ saves) =
    shape (bound_to applied) (needs_put applied last)
    (filter (λ s. not (is_unmodified applied last s)) saves) saves (unbound save)
    (nat_le save.mark applied) (save.skip && nat_eq last applied) refl refl h
    in
    let same : unbound save ≡ save = ap (λ b. record save { bound = b }) (sym free) in
    subst
    (λ (s : Save). first_bound (left_over applied last (s ∷ saves))
    ≡ token_for applied last (s ∷ saves))
    same at_unbound

-- all saves
pub first_token : (applied last : ℕ) (saves : List Save)
    → AllByRecursion (λ save. save.bound ≡ false) saves
    → first_bound (left_over applied last saves) ≡ token_for applied last saves
first_token applied last [] free = refl
first_token applied last (save ∷ saves) (free, others) =
    in_front applied last save saves free (first_token applied last saves others)

-- an errand made of a token has it
of_token : (token : Option (List ℕ)) (make : List ℕ → Errand) (errand : Errand)
    → ((t : List ℕ) → (make t).token ≡ t) → option_map make token ≡ Some errand
    → token ≡ Some errand.token
of_token None make errand has e = cc
of_token (Some t) make errand has e =
    let same : make t ≡ errand = cc in
    ap (λ (x : List ℕ). Some x) (sym (has t) ∙ ap (λ (x : Errand). x.token) same)

-- where a put begins, its saves are those that are left over
begun_saves : (errand : Option Errand) (s : Saving)
    → put_token (begun errand s) ≡ first_bound s.saves
begun_saves None s = refl
begun_saves (Some errand) s = refl

pub errands_token : (applied : ℕ) (file content : List ℕ) (s : Saving) (errand : Errand)
    → AllByRecursion (λ save. save.bound ≡ false) s.saves
    → errand_for applied file content s ≡ Some errand
    → put_token (served applied file content s) ≡ Some errand.token
errands_token applied file content s errand free e =
    begun_saves (errand_for applied file content s)
    (record s { saves = left_over applied (last_stored s) s.saves })
    ∙ first_token applied (last_stored s) s.saves free
    ∙ of_token (token_for applied (last_stored s) s.saves) _ errand (λ t. refl) e
