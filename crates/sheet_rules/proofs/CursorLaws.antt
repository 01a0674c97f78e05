-- Cursors that are put and taken away again.
use Rattle.std.proofs.Common.{◌≡◌, ◌≢◌, ℕ, Bool, true, false, cond, List, [], ◌∷◌, Option, Some, None, refl, ap, sym, ◌∙◌, subst, if◌then◌else◌}
use Rattle.std.specs.Ordering.{nat_cmp, match_ordering, is_eq}
use Rattle.std.specs.declared.cmp.Ordering.{Ordering}
use Rattle.std.specs.declared.cmp.Ordering.TheVariants.{Less, Equal, Greater}
use Rattle.std.specs.Cmp.{nat_cmp_is}
use Rattle.std.specs.Option.{is_none}
use Rattle.std.specs.Map.{lookup, remove_entry}
use Rattle.std.specs.BTreeMap.{is_at, insert_entry}
use Rattle.sheet_rules.specs.declared.cursors.Cursor.{Cursor}

same_number : (n : ℕ) → nat_cmp n n ≡ Equal
same_number n = sym (nat_cmp_is n n Equal refl)

-- a cursor that is put twice is put once
pub put_twice : (es : List (ℕ × Cursor)) (view : ℕ) (a b : Cursor) → insert_entry nat_cmp (insert_entry nat_cmp es view a) view b ≡ insert_entry nat_cmp es view b
put_twice [] view a b = rw same_number refl
put_twice (e ∷ es) view a b = by (nat_cmp view e.0) refl (put_twice es view a b)
  where
    by : (o : Ordering) → nat_cmp view e.0 ≡ o → insert_entry nat_cmp (insert_entry nat_cmp es view a) view b ≡ insert_entry nat_cmp es view b
        → insert_entry nat_cmp (match_ordering o ((view, a) ∷ e ∷ es) ((e.0, a) ∷ es) (e ∷ insert_entry nat_cmp es view a)) view b ≡ match_ordering o ((view, b) ∷ e ∷ es) ((e.0, b) ∷ es) (e ∷ insert_entry nat_cmp es view b)
    by Less h ih = rw same_number refl
    by Equal h ih = rw h refl
    by Greater h ih = rw h (ap (λ (s : List (ℕ × Cursor)). e ∷ s) ih)

-- a new cursor that is taken away again leaves what was there
pub put_taken : (es : List (ℕ × Cursor)) (view : ℕ) (a : Cursor) → lookup (is_at (nat_cmp view)) es ≡ None → remove_entry (is_at (nat_cmp view)) (insert_entry nat_cmp es view a) ≡ es
put_taken [] view a none = rw same_number refl
put_taken (e ∷ es) view a none = by (nat_cmp view e.0) refl (λ rest. put_taken es view a rest) none
  where
    by : (o : Ordering) → nat_cmp view e.0 ≡ o → (lookup (is_at (nat_cmp view)) es ≡ None → remove_entry (is_at (nat_cmp view)) (insert_entry nat_cmp es view a) ≡ es) → cond (is_eq o) (Some e.1) (lookup (is_at (nat_cmp view)) es) ≡ None
        → remove_entry (is_at (nat_cmp view)) (match_ordering o ((view, a) ∷ e ∷ es) ((e.0, a) ∷ es) (e ∷ insert_entry nat_cmp es view a)) ≡ e ∷ es
    by Less h ih none = rw same_number refl
    by Equal h ih none = cc
    by Greater h ih none = rw h (ap (λ (s : List (ℕ × Cursor)). e ∷ s) (ih none))

-- a cursor that a view was given first where it had none, and then again
pub seated : (es fs gs : List (ℕ × Cursor)) (view : ℕ) (a : Cursor) (new : Bool) → fs ≡ (if new then insert_entry nat_cmp es view a else es) → gs ≡ insert_entry nat_cmp fs view a → gs ≡ insert_entry nat_cmp es view a
seated es fs gs view a true was now = now ∙ ap (λ (s : List (ℕ × Cursor)). insert_entry nat_cmp s view a) was ∙ put_twice es view a a
seated es fs gs view a false was now = now ∙ ap (λ (s : List (ℕ × Cursor)). insert_entry nat_cmp s view a) was

none_there : (o : Option Cursor) → true ≡ is_none o → o ≡ None
none_there None e = refl
none_there (Some a) e = cc

-- and one that was taken away again where it was new
pub unseated : (es fs gs : List (ℕ × Cursor)) (view : ℕ) (a : Cursor) (new : Bool) → fs ≡ (if new then insert_entry nat_cmp es view a else es) → new ≡ is_none (lookup (is_at (nat_cmp view)) es)
    → gs ≡ (if new then remove_entry (is_at (nat_cmp view)) fs else fs) → gs ≡ es
unseated es fs gs view a true was none now =
    now ∙ ap (remove_entry (is_at (nat_cmp view))) was ∙ put_taken es view a (none_there (lookup (is_at (nat_cmp view)) es) none)
unseated es fs gs view a false was none now = now ∙ was
