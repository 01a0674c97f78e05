-- The place of a view, and the machine's list of views with that one changed or gone.
use Rattle.std.proofs.Common.{◌≡◌, ℕ, zero, suc, ◌<◌, true, List, [], ◌∷◌, length, take, set, get_or, Option, None, Some, refl, sym, ap, ◌∙◌, subst, arith, nat_eq}
use Rattle.std.specs.Prelude.{remove, is_some, IfSome}
use Rattle.std.proofs.lemmas.List.{map-set}
use Rattle.document_machine.specs.State.{View, find_view, with_view, without_view}
use Rattle.broker_core.specs.Members.{view_of, views_of}
use Rattle.broker_core.specs.Places.{LacksView, IsPlace}
use Rattle.broker_core.specs.declared.members.Member.{Member}

-- none of the views has the id
pub find_none : (id : ℕ) (members : List Member) → LacksView id members → find_view (views_of members) id ≡ None
find_none id [] lacks = refl
find_none id (member ∷ members) lacks = rw (lacks.0) (find_none id members lacks.1)

-- the view at the place is the one with the id
pub find_at : (id : ℕ) (members : List Member) (i : ℕ) (member : Member) → i < length members → get_or members i member ≡ member → nat_eq member.id id ≡ true → LacksView id (take i members) → find_view (views_of members) id ≡ Some (view_of member)
find_at id [] i member lt is same lacks = absurd (omega arith)
find_at id (s ∷ members) zero member lt is same lacks =
    let e : s ≡ member = is in
    let t : nat_eq s.id id ≡ true = ap (λ (x : Member). nat_eq x.id id) e ∙ same in
    rw t (ap (λ x. Some (view_of x)) e)
find_at id (s ∷ members) (suc i) member lt is same lacks =
    rw (lacks.0) (find_at id members i member (omega arith) is same lacks.1)

-- the views with the one at the place changed
pub with_at : (id : ℕ) (members : List Member) (i : ℕ) (member : Member) (change : View → View) → i < length members → get_or members i member ≡ member → nat_eq member.id id ≡ true → LacksView id (take i members) → with_view (views_of members) id change ≡ set (views_of members) i (change (view_of member))
with_at id [] i member change lt is same lacks = absurd (omega arith)
with_at id (s ∷ members) zero member change lt is same lacks =
    let e : s ≡ member = is in
    let t : nat_eq s.id id ≡ true = ap (λ (x : Member). nat_eq x.id id) e ∙ same in
    rw t (ap (λ x. change (view_of x) ∷ views_of members) e)
with_at id (s ∷ members) (suc i) member change lt is same lacks =
    rw (lacks.0) (ap (λ vs. view_of s ∷ vs) (with_at id members i member change (omega arith) is same lacks.1))

-- the views without the one at the place
pub without_at : (id : ℕ) (members : List Member) (i : ℕ) (member : Member) → i < length members → get_or members i member ≡ member → nat_eq member.id id ≡ true → LacksView id (take i members) → without_view (views_of members) id ≡ views_of (remove members i)
without_at id [] i member lt is same lacks = absurd (omega arith)
without_at id (s ∷ members) zero member lt is same lacks =
    let e : s ≡ member = is in
    let t : nat_eq s.id id ≡ true = ap (λ (x : Member). nat_eq x.id id) e ∙ same in
    rw t refl
without_at id (s ∷ members) (suc i) member lt is same lacks =
    rw (lacks.0) (ap (λ vs. view_of s ∷ vs) (without_at id members i member (omega arith) is same lacks.1))

-- the same from a place
pub place_finds : (members : List Member) (id i : ℕ) (member : Member) → IsPlace members id i → get_or members i member ≡ member → find_view (views_of members) id ≡ Some (view_of member)
place_finds members id i member place is =
    let same : nat_eq member.id id ≡ true = subst (λ (x : Member). nat_eq x.id id ≡ true) is (place.here member) in
    find_at id members i member place.within is same place.before

-- the views with the one at the place changed, as members
pub place_changes : (members : List Member) (id i : ℕ) (member now : Member) (change : View → View) → IsPlace members id i → get_or members i member ≡ member → view_of now ≡ change (view_of member) → views_of (set members i now) ≡ with_view (views_of members) id change
place_changes members id i member now change place is now_is =
    let same : nat_eq member.id id ≡ true = subst (λ (x : Member). nat_eq x.id id ≡ true) is (place.here member) in
    map-set view_of members i now ∙ ap (λ v. set (views_of members) i v) now_is ∙ sym (with_at id members i member change place.within is same place.before)

pub place_leaves : (members : List Member) (id i : ℕ) (member : Member) → IsPlace members id i → get_or members i member ≡ member → views_of (remove members i) ≡ without_view (views_of members) id
place_leaves members id i member place is =
    let same : nat_eq member.id id ≡ true = subst (λ (x : Member). nat_eq x.id id ≡ true) is (place.here member) in
    sym (without_at id members i member place.within is same place.before)

-- where a view sits it is there
live_at : (id : ℕ) (members : List Member) (i : ℕ) → i < length members → ((d : Member) → nat_eq (get_or members i d).id id ≡ true) → LacksView id (take i members) → is_some (find_view (views_of members) id) ≡ true
live_at id [] i lt here lacks = absurd (omega arith)
live_at id (s ∷ members) zero lt here lacks =
    let t : nat_eq s.id id ≡ true = here s in
    rw t refl
live_at id (s ∷ members) (suc i) lt here lacks = rw (lacks.0) (live_at id members i (omega arith) here lacks.1)

-- a view is there where it has a place
pub live_by : (members : List Member) (id : ℕ) (place : Option ℕ) → IfSome place (IsPlace members id) → (place ≡ None → find_view (views_of members) id ≡ None) → is_some place ≡ is_some (find_view (views_of members) id)
live_by members id None sits none = ap is_some (sym (none refl))
live_by members id (Some i) sits none = sym (live_at id members i sits.within sits.here sits.before)
