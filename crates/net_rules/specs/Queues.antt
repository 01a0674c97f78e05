-- The frames that wait for a link.
use Rattle.std.specs.Prelude.{ℕ, ◌≡◌, ◌+◌, ◌<◌, ◌≤◌, Bool, true, false, List, [], ◌∷◌, ◌++◌, length, sum_by, Option, Some, None}
use Rattle.net_rules.specs.declared.out_queue.Offered.{Offered}
use Rattle.net_rules.specs.declared.out_queue.Offered.TheVariants.{Now, Waits, Full}

-- Whether a frame is on its way, and those that wait behind it, in order.
pub record Queue : Type 0 where
  pub busy : Bool
  pub waiting : List (List ℕ)

-- What a frame that waits takes: its bytes, and 64 beside them.
abbrev pub cost_of : List ℕ → ℕ
cost_of frame = length frame + 64

-- What the frames take together.
abbrev pub taken_by : List (List ℕ) → ℕ
taken_by frames = sum_by cost_of frames

-- The frame waits behind the others.
abbrev pub with_frame : List ℕ → Queue → Queue
with_frame frame q = record q { waiting = q.waiting ++ frame ∷ [] }

-- What comes of a frame: it goes now where none is on its way, and then none waits. Else it waits where it has room beside
-- those that wait, which take 33,554,432 bytes at most.
abbrev pub Offers : Queue → List ℕ → Offered → Queue → Type 0
Offers old frame Now new =
    (old.busy ≡ false) × (old.waiting ≡ []) × (new ≡ record { busy = true; waiting = [] })
Offers old frame Waits new = (old.busy ≡ true) × (taken_by old.waiting + cost_of frame ≤ 33554432)
    × (new ≡ with_frame frame old)
Offers old frame Full new = (old.busy ≡ true) × (33554432 < taken_by old.waiting + cost_of frame)
    × (new ≡ old)

-- The frame waits before all others.
abbrev pub IsFirst : List ℕ → Queue → Type 0
IsFirst frame q = (rest : List (List ℕ)) × (q.waiting ≡ frame ∷ rest)

-- The first frame that waits goes, and the queue is busy with it; it is not busy where none waits.
abbrev pub Goes : Queue → Option (List ℕ) → Queue → Type 0
Goes old None new = (old.waiting ≡ []) × (new ≡ record { busy = false; waiting = [] })
Goes old (Some frame) new = (old.waiting ≡ frame ∷ new.waiting) × (new.busy ≡ true)
