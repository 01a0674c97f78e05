-- What a seat knows of its lock, and what each call does to that.
use Rattle.std.specs.Prelude.{◌≡◌, ℕ, ◌+◌, ◌⊎◌, max, Option, Some, List, [], ◌∷◌, ◌++◌, length}
use Rattle.std.specs.Prelude.{nat_lt, if◌then◌else◌}
use Rattle.atomic_table.specs.Seated.{TableId}
use Rattle.turn_lock.specs.Lists.{IsPrefix, longer}

-- which lock it is, the ground of the lock's value, the list that was seen, the places of the
-- seat's own entries in that list, the count that was last looked at, and how many turns the seat
-- made
pub record Known (E G : Type 0) : Type 0 where
  pub lock : TableId
  pub footing : Option G
  pub seen : List E
  pub own : List ℕ
  pub noted : ℕ
  pub turns : ℕ

-- where a turn made the list grow from n to m entries, the entry at n is the seat's own
abbrev pub own_after : List ℕ → ℕ → ℕ → List ℕ
own_after own n m = if nat_lt n m then own ++ n ∷ [] else own

-- a seat that was split off knows as much, no entry is its own, and it made no turn
abbrev pub copied : {E G : Type 0} → Known E G → Known E G
copied k = record k { own = []; turns = 0 }

-- one seat of two: the longer list, the own entries of both, the greater count, the turns of both
abbrev pub seat_of_two : {E G : Type 0} → Known E G → Known E G → Known E G
seat_of_two k other = record k {
  seen = longer k.seen other.seen;
  own = k.own ++ other.own;
  noted = max k.noted other.noted;
  turns = k.turns + other.turns;
}

-- a list stays, or has one entry more at its end
abbrev pub StaysOrAdds : {E : Type 0} → List E → List E → Type 0
StaysOrAdds {E} xs ys = (ys ≡ xs) ⊎ ((e : E) × (ys ≡ xs ++ e ∷ []))

module _ {T E G : Type 0} (footing_of : T → G) (book_of : T → List E) where
  -- a value under the lock has the seat's ground, and its list begins with all that the seat had
  -- seen
  abbrev pub Meets : Known E G → T → Type 0
  Meets k x = (k.footing ≡ Some (footing_of x)) × IsPrefix k.seen (book_of x)

  -- what a value may become in one turn: the ground stays, and the list stays or has one entry more
  abbrev pub MayBecome : T → T → Type 0
  MayBecome x y = (footing_of y ≡ footing_of x) × StaysOrAdds (book_of x) (book_of y)

  -- after a turn that found x and left y the seat has seen y's list, an entry that was added is its
  -- own, and it made one turn more
  abbrev pub after_turn : Known E G → T → T → Known E G
  after_turn k x y = record k {
    seen = book_of y;
    own = own_after k.own (length (book_of x))
        (length (book_of y));
    turns = k.turns + 1;
  }
