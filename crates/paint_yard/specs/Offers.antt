-- What a yard's end has offered, and what a work's end has taken.
use Rattle.std.specs.Prelude.{ℕ, ⊤, ◌+◌, ◌-◌, ◌^◌, ◌++◌, min, List, [], ◌∷◌, Option, None, Some}
use Rattle.cool_base.specs.declared.ids.DocId.{DocId}
use Rattle.crossbeam_channel.specs.Fifo.{Held}
use Rattle.paint_yard.specs.declared.passes.Item.{Item}
use Rattle.paint_yard.specs.declared.passes.Item.TheVariants.{Work, Close}
use Rattle.paint_yard.specs.declared.passes.TheConstants.{MOST_WORKS}

-- what an end of polls put at the back, in order, and how many full moments it met
pub record Offered (W : Type 0) : Type 0 where
  pub put : List (Item W)
  pub full : ℕ

-- nothing was offered
abbrev pub none_offered : {W : Type 0} → Offered W
none_offered = record { put = []; full = 0 }

-- one more item was put at the back
abbrev pub with_put : {W : Type 0} → Offered W → Item W → Offered W
with_put old item = record old { put = old.put ++ item ∷ [] }

-- one more full moment was met, of which at most 2^64 - 1 are counted
abbrev pub with_full : {W : Type 0} → Offered W → Offered W
with_full old = record old { full = min (old.full + 1) (2 ^ 64 - 1) }

-- at one moment the queue held as many items as it may
abbrev pub WasFull : Type 0 → Type 0
WasFull W = Held MOST_WORKS (λ (items : List (Item W)). ⊤)

-- the works among the items, each with its document
abbrev pub works_of : {W : Type 0} → List (Item W) → List (DocId × W)
works_of [] = []
works_of (Work doc work ∷ items) = (doc, work) ∷ works_of items
works_of (Close ∷ items) = works_of items

-- the work of an item, where it is one
abbrev pub work_in : {W : Type 0} → Item W → Option W
work_in (Work doc work) = Some work
work_in Close = None
