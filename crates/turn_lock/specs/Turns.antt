-- The rule of the lock: what holds between any two atomic steps, and what each kind of step does.
-- Word 0 is the turn, word 1 the count, and the one slot holds the value.
use Rattle.std.specs.Prelude.{◌≡◌, ℕ, ◌+◌, ◌≤◌, true, false, ◌⊎◌, max, Option, None, Some, List, []}
use Rattle.std.specs.Prelude.{◌∷◌, ◌++◌, length}
use mathlib.Core.Option.{none, some}
use lib.ListN.{get_elem?}
use Rattle.atomic_table.specs.Table.{State, Me}
use Rattle.atomic_table.specs.Seated.{TableId}
use Rattle.turn_lock.specs.declared.view.View.{View}
use Rattle.turn_lock.specs.Lists.{IsPrefix, longer, total, times}
use Rattle.turn_lock.specs.Seats.{Known, own_after}

-- what a caller sees of a view
abbrev pub known : {E G : Type 0} → TableId → View E G → Known E G
known z v = record {
  lock = z;
  footing = v.footing;
  seen = v.seen;
  own = v.own;
  noted = v.noted;
  turns = v.turns;
}

-- a seat between two calls: it has no slot and not the turn, knows its ground, and has told nothing
-- that it hasn't taken in
pub record IsIdle {T E G : Type 0} (me : Me (Option T) (View E G)) : Type 0 where
  pub no_slot : me.1 ≡ []
  pub no_turn : me.0.holds ≡ false
  pub settled : me.0.told ≡ []
  pub grounded : (g : G) × (me.0.footing ≡ Some g)

-- the view of a lock's first seat
abbrev pub first_view : {E G : Type 0} → G → List E → View E G
first_view g log = record {
  holds = false;
  footing = Some g;
  seen = log;
  told = [];
  own = [];
  noted
      = 0;
  turns = 0;
}

-- the view of a seat that was joined to another
abbrev pub spent : {E G : Type 0} → View E G
spent {E} {G} = record {
  holds = false;
  footing = None;
  seen = [];
  told = [];
  own = [];
  noted = 0;
  turns = 0;
}

-- How each kind of step changes the view of the seat that steps

-- take: marked as holder, it takes over the list of the value at home, and it is one turn more
abbrev pub took : {E G : Type 0} → View E G → List E → View E G
took v log = record v { holds = true; seen = log; turns = v.turns + 1 }

-- publish: its list gains the entry that the turn added, where there is one
abbrev pub published : {E G : Type 0} → View E G → List E → View E G
published v log = record v { seen = log; own = own_after v.own (length v.seen) (length log) }

-- give back: no longer holder
abbrev pub given : {E G : Type 0} → View E G → View E G
given v = record v { holds = false }

-- look: notes the count
abbrev pub looked : {E G : Type 0} → View E G → ℕ → View E G
looked v n = record v { noted = n }

-- split: the new view is a copy without own entries and turns
abbrev pub copy_of : {E G : Type 0} → View E G → View E G
copy_of v = record v { own = []; turns = 0 }

-- join: both seats' own entries and turns and the greater count, and it is told of the other's list
abbrev pub merged : {E G : Type 0} → View E G → View E G → View E G
merged v w = record v {
  told = w.seen;
  own = v.own ++ w.own;
  noted = max v.noted w.noted;
  turns = v.turns + w.turns;
}

-- settle, the second step of a join: keeps the longer of the two lists
abbrev pub settled_view : {E G : Type 0} → View E G → View E G
settled_view v = record v { seen = longer v.seen v.told; told = [] }

module _ {T E G : Type 0} (footing_of : T → G) (book_of : T → List E) where
  -- The facts of the rule

  -- where the turn is 0 the value is at home, with this list and this ground; where it is 1 the
  -- value is out
  abbrev pub Homes : ℕ → List E → G → State (Option T) (View E G) → Type 0
  Homes turn log footing s =
      ((turn ≡ 0) × ((x : T) × (s.homes ≡ some (Some x) ∷ []) × (book_of x ≡ log)
      × (footing_of x ≡ footing)))
      ⊎ ((turn ≡ 1) × (s.homes ≡ none ∷ []))

  -- a view fits: its ground is that of the value, its lists are prefixes of the list, its count is
  -- not above the list's length, each own entry stands in a list at its place; and where it is
  -- marked as holder, the turn is 1, it is the keeper, and the list is its own
  pub record Seated (turn : ℕ) (log : List E) (footing : G) (keeper p : ℕ)
      (v : View E G) : Type 0 where
    pub ground_is : (v.footing ≡ None) ⊎ (v.footing ≡ Some footing)
    pub seen : IsPrefix v.seen log
    pub told : IsPrefix v.told log
    pub noted : v.noted ≤ length log
    pub places : (n : ℕ) → length v.seen ≤ n → length v.told ≤ n → times n v.own ≡ 0
    pub holder : v.holds ≡ true → (turn ≡ 1) × (p ≡ keeper) × (v.seen ≡ log)

  -- the rule: word 0 is the turn, word 1 the length of the one list; the value is where the turn
  -- says; each view fits; the turn is 1 exactly where the keeper is marked as holder; and no place
  -- is in two views
  pub record Kept (s : State (Option T) (View E G)) : Type 0 where
    pub turn : ℕ
    pub log : List E
    pub footing : G
    pub keeper : ℕ
    pub words : s.words ≡ turn ∷ length log ∷ []
    pub homes : Homes turn log footing s
    pub seated : (p : ℕ) (v : View E G) → get_elem? s.views p ≡ some v
        → Seated turn log footing keeper p v
    pub held : (turn ≡ 0)
        ⊎ ((v : View E G) × (get_elem? s.views keeper ≡ some v) × (v.holds ≡ true))
    pub once : (p : ℕ) → total (λ (v : View E G). times p v.own) s.views ≤ 1

  -- What each kind of step tells the seat that steps: m is the seat before, n the number found, w
  -- the seat after

  -- take and slot out: where the turn was 0 the seat is holder and has the value, whose list begins
  -- with all that it had seen; else nothing changed
  abbrev pub Takes : Me (Option T) (View E G) → ℕ → Me (Option T) (View E G) → Type 0
  Takes m n w = ((n ≡ 0)
      × ((x : T) × (w ≡ (took m.0 (book_of x), (0, Some x) ∷ []))
      × (m.0.footing ≡ Some (footing_of x)) × IsPrefix m.0.seen (book_of x)))
      ⊎ ((¬ (n ≡ 0)) × (w ≡ m))

  -- publish: word 1 becomes the length of the list of the value that the seat has
  abbrev pub Publishes : Me (Option T) (View E G) → ℕ → Me (Option T) (View E G) → Type 0
  Publishes m n w = (x : T) → m.1 ≡ (0, Some x) ∷ [] → w ≡ (published m.0 (book_of x), m.1)

  -- give back and slot home: the turn becomes 0, and the value is at home
  abbrev pub GivesBack : Me (Option T) (View E G) → ℕ → Me (Option T) (View E G) → Type 0
  GivesBack m n w = w ≡ (given m.0, [])

  -- look: the count that was found is not below what the seat had seen, nor below what it had noted
  abbrev pub Looks : Me (Option T) (View E G) → ℕ → Me (Option T) (View E G) → Type 0
  Looks m n w = (w ≡ (looked m.0 n, m.1)) × (length m.0.seen ≤ n) × (m.0.noted ≤ n)

  -- settle: the one list is a prefix of the other, and no place stands twice among the own entries
  abbrev pub Settles : Me (Option T) (View E G) → ℕ → Me (Option T) (View E G) → Type 0
  Settles m n w = (w ≡ (settled_view m.0, m.1)) × IsPrefix m.0.seen (longer m.0.seen m.0.told)
      × IsPrefix m.0.told (longer m.0.seen m.0.told) × ((p : ℕ) → times p m.0.own ≤ 1)
