-- Lists that grow at their end, and sums over a list in which one item changes.
use Rattle.std.proofs.Common.{◌≡◌, ℕ, zero, suc, ◌+◌, ◌<◌, ◌≤◌, ◌≢◌, List, [], ◌∷◌, ◌++◌, length}
use Rattle.std.proofs.Common.{set, ltb, cond, refl, sym, ap, subst, ◌∙◌, inl, inr, eq-eqb, ne_eqb}
use Rattle.std.proofs.Common.{append_assoc, arith}
use Rattle.std.proofs.Common.{length-append}
use Rattle.std.proofs.lemmas.Bool.{cond_both, ltb-true, ltb-false, lt-ltb, le-ltb}
use mathlib.Core.Option.{some, some-injective, some-ne-none}
use lib.ListN.{get_elem?}
use Rattle.turn_lock.specs.Lists.{IsPrefix, longer, total, times}
use Rattle.turn_lock.specs.Seats.{StaysOrAdds, own_after}

module _ {A : Type 0} where
  append_nil : (xs : List A) → xs ≡ xs ++ []
  append_nil [] = refl
  append_nil (x ∷ xs) = ap (λ ys. x ∷ ys) (append_nil xs)

  pub prefix_self : (xs : List A) → IsPrefix xs xs
  prefix_self xs = ([], append_nil xs)

  pub prefix_nil : (xs : List A) → IsPrefix [] xs
  prefix_nil xs = (xs, refl)

  pub prefix_of : (xs ys : List A) → ys ≡ xs → IsPrefix xs ys
  prefix_of xs ys e = ([], e ∙ append_nil xs)

  pub prefix_grows : (xs ys zs : List A) → IsPrefix xs ys → StaysOrAdds ys zs → IsPrefix xs zs
  prefix_grows xs ys zs p (inl e) = (p.0, e ∙ p.1)
  prefix_grows xs ys zs p (inr t) =
      (p.0 ++ t.0 ∷ [], t.1 ∙ ap (λ ws. ws ++ t.0 ∷ []) p.1 ∙ append_assoc xs p.0 (t.0 ∷ []))

  pub prefix_length : (xs ys : List A) → IsPrefix xs ys → length xs ≤ length ys
  prefix_length xs ys p = let e : length ys ≡ length xs + length p.0 = ap length p.1
      ∙ length-append xs p.0 in omega arith

  pub prefix_both : (xs ys log : List A) → IsPrefix xs log → IsPrefix ys log
      → length xs ≤ length ys → IsPrefix xs ys
  prefix_both [] ys log p q h = (ys, refl)
  prefix_both (x ∷ xs) [] log p q h = absurd (omega arith)
  prefix_both (x ∷ xs) (y ∷ ys) [] p q h = let e = p.1 in absurd (cc)
  prefix_both (x ∷ xs) (y ∷ ys) (l ∷ log) p q h =
      let e : l ∷ log ≡ x ∷ (xs ++ p.0) = p.1 in
      let d : l ∷ log ≡ y ∷ (ys ++ q.0) = q.1 in
      let r : IsPrefix xs ys = prefix_both xs ys log (p.0, cc) (q.0, cc) (omega arith) in
      (r.0, (let f : ys ≡ xs ++ r.0 = r.1 in let a : y ≡ x = cc in cc))

  pub longer_first : (xs ys log : List A) → IsPrefix xs log → IsPrefix ys log
      → IsPrefix xs (longer xs ys)
  longer_first xs ys log p q = cond_both (ltb (length xs) (length ys)) ys xs (λ zs. IsPrefix xs zs)
      (λ e. let h = ltb-true (length xs) (length ys) e in prefix_both xs ys log p q (omega arith))
      (λ e. prefix_self xs)

  pub longer_second : (xs ys log : List A) → IsPrefix xs log → IsPrefix ys log
      → IsPrefix ys (longer xs ys)
  longer_second xs ys log p q = cond_both (ltb (length xs) (length ys)) ys xs (λ zs. IsPrefix ys zs)
      (λ e. prefix_self ys)
      (λ e. let h = ltb-false (length xs) (length ys) e in prefix_both ys xs log q p (omega arith))

  pub longer_within : (xs ys log : List A) → IsPrefix xs log → IsPrefix ys log
      → IsPrefix (longer xs ys) log
  longer_within xs ys log p q = cond_both (ltb (length xs) (length ys)) ys xs
      (λ zs. IsPrefix zs log) (λ e. q) (λ e. p)

  pub total_set : (f : A → ℕ) (views : List A) (id : ℕ) (v w : A) → get_elem? views id ≡ some v
      → total f (set views id w) + f v ≡ total f views + f w
  total_set f [] id v w e = absurd (some-ne-none v (sym e))
  total_set f (x ∷ xs) zero v w e = let h : f x ≡ f v = ap f (some-injective x v e) in omega arith
  total_set f (x ∷ xs) (suc id) v w e = let h = total_set f xs id v w e in omega arith

  pub total_at : (f : A → ℕ) (views : List A) (id : ℕ) (v : A) → get_elem? views id ≡ some v
      → f v ≤ total f views
  total_at f [] id v e = absurd (some-ne-none v (sym e))
  total_at f (x ∷ xs) zero v e = let h : f x ≡ f v = ap f (some-injective x v e) in omega arith
  total_at f (x ∷ xs) (suc id) v e = let h = total_at f xs id v e in omega arith

  pub total_none : (f : A → ℕ) (views : List A)
      → ((p : ℕ) (v : A) → get_elem? views p ≡ some v → f v ≡ 0) → total f views ≡ 0
  total_none f [] h = refl
  total_none f (x ∷ xs) h = let a : f x
      ≡ 0 = h 0 x refl in let b = total_none f xs (λ p v e. h (suc p) v e) in omega arith

  pub total_append : (f : A → ℕ) (xs ys : List A) → total f (xs ++ ys) ≡ total f xs + total f ys
  total_append f [] ys = omega arith
  total_append f (x ∷ xs) ys = let h = total_append f xs ys in omega arith

  pub set_there : (l : List A) (i : ℕ) (v w : A) → get_elem? l i ≡ some v
      → get_elem? (set l i w) i ≡ some w
  set_there [] i v w e = absurd (some-ne-none v (sym e))
  set_there (x ∷ xs) zero v w e = refl
  set_there (x ∷ xs) (suc i) v w e = set_there xs i v w e

pub times_append : (p : ℕ) (xs ys : List ℕ) → times p (xs ++ ys) ≡ times p xs + times p ys
times_append p [] ys = omega arith
times_append p (x ∷ xs) ys = let h = times_append p xs ys in omega arith

pub times_self : (p : ℕ) → times p (p ∷ []) ≡ 1
times_self p = subst (λ b. cond b 1 0 + 0 ≡ 1) (sym (eq-eqb p p refl)) refl

pub times_other : (p x : ℕ) → x ≢ p → times p (x ∷ []) ≡ 0
times_other p x n = subst (λ b. cond b 1 0 + 0 ≡ 0) (sym (ne_eqb x p n)) refl

pub own_stays : (own : List ℕ) (n m : ℕ) → m ≡ n → own_after own n m ≡ own
own_stays own n m e = subst (λ b. cond b (own ++ n ∷ []) own ≡ own)
    (sym (le-ltb n m (omega arith))) refl

pub own_grows : (own : List ℕ) (n m : ℕ) → n < m → own_after own n m ≡ own ++ n ∷ []
own_grows own n m h = subst (λ b. cond b (own ++ n ∷ []) own ≡ own ++ n ∷ [])
    (sym (lt-ltb n m h)) refl
