-- What every view keeps.
use Rattle.std.specs.Prelude.{◌≡◌, ◌≢◌, ◌<◌, ◌≤◌, ◌^◌, true, false, length}
use Rattle.std.specs.List.{AllByRecursion}
use Rattle.tile_key.specs.Places.{IsKey, is_zoom}
use Rattle.tile_key.specs.Visible.{IsBefore, is_too_large}
use Rattle.document_machine.specs.Keys.{Pairwise}
use Rattle.document_machine.specs.declared.limits.TheConstants.{MOST_ASKED}
use Rattle.send_window.specs.declared.windows.TheConstants.{MOST_SENT}
use Rattle.view_session.specs.Viewing.{Viewing, wants}

-- a zoom that is one; keys that it sees in key order, no more than it may see; at most `MOST_ASKED` asked
-- keys, each once; on the screen keys that it sees or asks for alone, each once, in key order; at most
-- `MOST_SENT` tiles that are not acknowledged, with numbers that rise and are below the next one
pub record IsViewing (v : Viewing) : Type 0 where
  pub zoom : is_zoom v.zoom ≡ true
  pub visible : Pairwise IsBefore v.visible
  pub seen : is_too_large v.zoom (length v.visible) ≡ false
  pub keys : AllByRecursion IsKey v.visible
  pub asked : AllByRecursion IsKey v.asked
  pub asked_once : Pairwise (λ p q. p ≢ q) v.asked
  pub asked_few : length v.asked ≤ MOST_ASKED
  pub screen : Pairwise (λ p q. IsBefore p.key q.key) v.screen
  pub wanted : AllByRecursion (λ entry. wants v entry.key ≡ true) v.screen
  pub window_few : length v.window ≤ MOST_SENT
  pub wids : Pairwise (λ a b. a.wid < b.wid) v.window
  pub wids_below : AllByRecursion (λ tile. tile.wid < v.next_wid) v.window
  pub numbers : v.next_wid < 2 ^ 64
