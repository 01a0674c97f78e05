-- Where a view stands among the members.
use Rattle.std.specs.Prelude.{◌≡◌, ℕ, ◌<◌, true, false, List, length, take, nat_eq, slice_index_or}
use Rattle.std.specs.List.{AllByRecursion}
use Rattle.broker_core.specs.declared.members.Member.{Member}

-- none of these is the view with the id
abbrev pub LacksView : ℕ → List Member → Type 0
LacksView id members = AllByRecursion (λ member. nat_eq member.id id ≡ false) members

-- the first view with the id stands at the place
pub record IsPlace (members : List Member) (id i : ℕ) : Type 0 where
  pub within : i < length members
  pub here : (d : Member) → nat_eq (slice_index_or members i d).id id ≡ true
  pub before : LacksView id (take i members)
