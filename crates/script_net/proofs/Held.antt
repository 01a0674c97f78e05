-- Which links are held, and which were missed.
use Rattle.std.proofs.Common.{◌≡◌, ℕ, Bool, true, false, not, ◌==◌, ◌||◌, List, [], ◌∷◌, ◌++◌, refl}
use Rattle.std.proofs.Common.{arith, if◌then◌else◌, cond}
use Rattle.std.specs.List.{list_any, filter}
use Rattle.cool_base.specs.declared.ids.LinkId.{LinkId}
use Rattle.net_traits.specs.Nets.{with_link, without_link}
use Rattle.script_net.specs.Past.{is_one_of, missed_in, without}

-- A test that any passes, and one more that passes it where b is true.
or_last : (b : Bool) → (b || false) ≡ (if b then true else false)
or_last true = refl
or_last false = refl

or_more : (a b c : Bool) → (a || (if b then true else c)) ≡ (if b then true else (a || c))
or_more true true c = refl
or_more true false c = refl
or_more false true c = refl
or_more false false c = refl

-- One more link is held.
pub held_pushed : (links : List LinkId) (link : LinkId) (id : ℕ)
    → is_one_of (links ++ link ∷ []) id ≡ with_link link (is_one_of links) id
held_pushed [] link id = or_last (id == link.0)
held_pushed (l ∷ links) link id = rw (held_pushed links link id)
    (or_more (id == l.0) (id == link.0) (is_one_of links id))

-- One more link was missed.
pub missed_pushed : (misses : List (LinkId × LinkId)) (link other : LinkId) (id : ℕ)
    → missed_in (misses ++ (link, other) ∷ []) id ≡ with_link link (missed_in misses) id
missed_pushed [] link other id = or_last (id == link.0)
missed_pushed (m ∷ misses) link other id = rw (missed_pushed misses link other id)
    (or_more (id == m.0.0) (id == link.0) (missed_in misses id))

-- A test over a list that keeps its first element or not.
any_kept : {A : Type 0} (test : A → Bool) (keep : Bool) (a : A) (rest : List A)
    → list_any test (cond keep (a ∷ rest) rest)
    ≡ cond keep (test a || list_any test rest) (list_any test rest)
any_kept test true a rest = refl
any_kept test false a rest = refl

-- Taking out one of two, as x says whether they are the same, a and b which of them is meant.
one_out : (x a b c : Bool) → (x ≡ true → a ≡ b) → (x ≡ false → b ≡ true → a ≡ false)
    → cond (not x) (a || (if b then false else c)) (if b then false else c)
    ≡ (if b then false else (a || c))
one_out true true true c same other = refl
one_out true true false c same other = let h : true ≡ false = same refl in absurd (cc)
one_out true false true c same other = refl
one_out true false false c same other = refl
one_out false true true c same other = let h : true ≡ false = other refl refl in absurd (cc)
one_out false true false c same other = refl
one_out false false true c same other = refl
one_out false false false c same other = refl

same_name : (a b id : ℕ) → (a == b) ≡ true → (id == a) ≡ (id == b)
same_name a b id e = grind arith

other_name : (a b id : ℕ) → (a == b) ≡ false → (id == b) ≡ true → (id == a) ≡ false
other_name a b id e f = grind arith

-- One link is held no longer.
pub held_without : (links : List LinkId) (link : LinkId) (id : ℕ)
    → is_one_of (without link links) id ≡ without_link link (is_one_of links) id
held_without [] link id = grind arith
held_without (l ∷ links) link id =
    let ih : is_one_of (without link links) id
    ≡ without_link link (is_one_of links) id = held_without links link id in
    rw (any_kept (λ (k : LinkId). id == k.0) (not (l.0 == link.0)) l (without link links))
    (rw ih (one_out (l.0 == link.0) (id == l.0) (id == link.0) (is_one_of links id)
    (same_name l.0 link.0 id) (other_name l.0 link.0 id)))
