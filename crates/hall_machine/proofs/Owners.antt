-- What the machine's answers say of the document that a call speaks of.
use Rattle.std.proofs.Common.{◌≡◌, ℕ, ◌+◌, ◌<◌, ◌≤◌, Bool, true, false, None, Some, Ok, Err, List}
use Rattle.std.proofs.Common.{[], ◌∷◌, length, cond, eqb, ltb, refl, sym, ap, subst, ◌∙◌, arith}
use Rattle.std.proofs.Common.{min, below_more}
use Rattle.std.specs.Prelude.{Option}
use Rattle.std.proofs.lemmas.Bool.{eqb-true}
use Rattle.std.proofs.lemmas.List.Sums.{sum_by-remove}
use Rattle.hall_machine.specs.declared.words.Ground.{Ground}
use Rattle.hall_machine.specs.declared.words.CloseFault.TheVariants.{Waiting}
use Rattle.hall_machine.specs.Machine.{Where, at, bound, Desk, Stage, nobody, is_bound_to}
use Rattle.hall_machine.specs.Machine.{other_than, weight, owed, place_of, desk_at, depart_by}
use Rattle.hall_machine.specs.Machine.{depart_at, depart_answer, collect_by, collect_at}
use Rattle.hall_machine.specs.Machine.{collect_answer, close_by, close_at, close_answer}
use Rattle.hall_machine.specs.Machine.{place_bound_to, arrive_at, arrive_answer, load_of, IsLeast}
use Rattle.std.proofs.lemmas.List.Quantifiers.{position-Some}

owner_is : (who p : ℕ) (b : Bool) → eqb p who ≡ b → cond b None (Some p) ≡ None → p ≡ who
owner_is who p true e h = eqb-true p who e
owner_is who p false e h = cc

-- where no other poll has the document, the caller owns it
pub owned : (who : ℕ) (w : Where) → other_than who w ≡ None → w ≡ at who
owned who (at p) h = ap at (owner_is who p (eqb p who) refl h)
owned who (bound p) h = cc

-- a parcel that is in transit to the poll
pub bound_for : (who : ℕ) (w : Where) → is_bound_to who w ≡ true → w ≡ bound who
bound_for who (at p) h = cc
bound_for who (bound p) h = ap bound (eqb-true p who h)

depart_none : (g : Ground) (s : Stage) (o : Option ℕ) → depart_by g s o ≡ Ok tt → o ≡ None
depart_none g s None h = refl
depart_none g s (Some p) h = cc

-- only the owner departs
pub departs_owned : (g : Ground) (s : Stage) (who doc i : ℕ) → depart_answer g s who doc ≡ Ok tt
    → place_of doc s.desks ≡ Some i → (desk_at s.desks i).holder ≡ at who
departs_owned g s who doc i h place =
    owned who (desk_at s.desks i).holder
    (depart_none g s (other_than who (desk_at s.desks i).holder)
    (subst (λ (p : Option ℕ). depart_at g s who p ≡ Ok tt) place h))

collect_none : (x : Desk) (o : Option ℕ) (n : ℕ) → collect_by x o ≡ Ok n → (o ≡ None)
    × (n ≡ min 64 (length x.mails))
collect_none x None n h = (refl, cc)
collect_none x (Some p) n h = cc

-- only the owner collects, the oldest mails, at most 64
pub collects_owned : (s : Stage) (who doc i n : ℕ) → collect_answer s who doc ≡ Ok n
    → place_of doc s.desks ≡ Some i → ((desk_at s.desks i).holder ≡ at who)
    × (n ≡ min 64 (length (desk_at s.desks i).mails))
collects_owned s who doc i n h place =
    let r = collect_none (desk_at s.desks i) (other_than who (desk_at s.desks i).holder) n
    (subst (λ (p : Option ℕ). collect_at s who p ≡ Ok n) place h) in
    (owned who (desk_at s.desks i).holder r.0, r.1)

nil_of : {A : Type 0} (xs : List A) → length xs ≡ 0 → xs ≡ []
nil_of [] h = refl
nil_of (x ∷ xs) h = absurd (omega (arith, h))

no_more : (n : ℕ) → ltb 0 n ≡ false → n ≡ 0
no_more n h = grind arith

no_mails : {A E : Type 0} (e : E) (xs : List A) (b : Bool) → ltb 0 (length xs) ≡ b
    → cond b (Err e) (Ok (tt {0})) ≡ Ok (tt {0}) → xs ≡ []
no_mails e xs true is h = cc
no_mails e xs false is h = nil_of xs (no_more (length xs) is)

close_none : (x : Desk) (o : Option ℕ) → close_by x o ≡ Ok tt → (o ≡ None) × (x.mails ≡ [])
close_none x (Some p) h = cc
close_none x None h =
    (refl, no_mails (Waiting (length x.mails)) x.mails (ltb 0 (length x.mails)) refl h)

-- only the owner closes, and no mail waits
pub closes_owned : (s : Stage) (who doc i : ℕ) → close_answer s who doc ≡ Ok tt
    → place_of doc s.desks ≡ Some i → ((desk_at s.desks i).holder ≡ at who)
    × ((desk_at s.desks i).mails ≡ [])
closes_owned s who doc i h place =
    let r = close_none (desk_at s.desks i) (other_than who (desk_at s.desks i).holder)
    (subst (λ (p : Option ℕ). close_at s who p ≡ Ok tt) place h) in
    (owned who (desk_at s.desks i).holder r.0, r.1)

-- one open document owes no more than all
pub weight_within : (desks : List Desk) (i : ℕ) → i < length desks
    → weight (desk_at desks i) ≤ owed desks
weight_within desks i lt = omega (arith, sum_by-remove weight desks i nobody lt)

-- the least of one poll more
pub still_least : (n b : ℕ) (desks : List Desk) → IsLeast n desks b
    → load_of b desks ≤ load_of n desks → IsLeast (n + 1) desks b
still_least n b desks h le = record {
  below = (let x = h.below in omega arith);
  least = below_more (λ q. load_of b desks ≤ load_of q desks) n h.least le;
  first = h.first;
}

pub now_least : (n b : ℕ) (desks : List Desk) → IsLeast n desks b
    → load_of n desks < load_of b desks → IsLeast (n + 1) desks n
now_least n b desks h lt = record {
  below = omega arith;
  least = below_more (λ q. load_of n desks ≤ load_of q desks) n
      (λ q l. omega (arith, h.least q l, lt)) (omega arith);
  first = λ q l. omega (arith, h.least q l, lt);
}

pub first_least : (desks : List Desk) → IsLeast 1 desks 0
first_least desks = record {
  below = omega arith;
  least = below_more (λ q. load_of 0 desks ≤ load_of q desks) 0 (λ q l. absurd (omega (arith, l)))
      (omega arith);
  first = λ q l. absurd (omega (arith, l));
}

-- what is found of a parcel in transit
pub arrives : (s : Stage) (who i doc : ℕ) → place_bound_to who s.desks ≡ Some i
    → doc ≡ (desk_at s.desks i).doc → (arrive_answer s who ≡ Some doc)
    × (is_bound_to who (desk_at s.desks i).holder ≡ true) × (1 ≤ owed s.desks)
arrives s who i doc first id =
    let p = position-Some (λ (x : Desk). is_bound_to who x.holder) s.desks i nobody first in
    let w = weight_within s.desks i p.0 in
    (ap (arrive_at s) first ∙ ap (λ d. Some d) (sym id), p.1, omega arith)
