-- What the parts of every view keep.
use Rattle.std.specs.Prelude.{◌≡◌, ◌≢◌, ℕ, ◌<◌, ◌≤◌, false, List, length}
use Rattle.std.specs.List.{AllByRecursion}
use Rattle.tile_key.specs.Places.{Place, Scale, IsKey}
use Rattle.tile_key.specs.Visible.{is_too_large}
use Rattle.document_machine.specs.Keys.{Pairwise}
use Rattle.document_machine.specs.declared.limits.TheConstants.{MOST_ASKED}
use Rattle.send_window.specs.Tiles.{Sent}
use Rattle.view_session.specs.Slots.{seen_in, due_place, IsSlotted}
use Rattle.view_session.specs.declared.slots.Slot.{Slot}

-- its slots, of which it sees no more than it may; at most `MOST_ASKED` asked keys, each once; the tiles that are not
-- acknowledged, with numbers that rise and are below the next one
pub record IsHeld (zoom : Scale) (slots : List Slot) (asked : List Place) (window : List Sent) (next_wid : ℕ) : Type 0 where
  pub slotted : IsSlotted slots asked
  pub seen : is_too_large zoom (length (seen_in slots)) ≡ false
  pub seen_keys : AllByRecursion IsKey (seen_in slots)
  pub asked_keys : AllByRecursion IsKey asked
  pub asked_once : Pairwise (λ p q. p ≢ q) asked
  pub asked_few : length asked ≤ MOST_ASKED
  pub wids : Pairwise (λ a b. a.wid < b.wid) window
  pub wids_below : AllByRecursion (λ tile. tile.wid < next_wid) window

-- and beside these, how many slots come before the first that is due
pub record IsPlaced (zoom : Scale) (slots : List Slot) (asked : List Place) (window : List Sent) (next_wid first : ℕ) : Type 0 where
  pub held : IsHeld zoom slots asked window next_wid
  pub placed : first ≡ due_place slots
