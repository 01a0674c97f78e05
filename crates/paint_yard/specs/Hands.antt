-- What an end of the queue has done.
use Rattle.std.specs.Prelude.{List, []}
use Rattle.paint_yard.specs.declared.passes.Hand.{Hand}
use Rattle.paint_yard.specs.declared.passes.Item.{Item}

-- the items that were put and those that were taken
abbrev pub hand : {W : Type 0} → (put took : List (Item W)) → Hand W
hand put took = record { put = put; took = took }

-- nothing was put and nothing taken
abbrev pub no_hand : {W : Type 0} → Hand W
no_hand = hand [] []
