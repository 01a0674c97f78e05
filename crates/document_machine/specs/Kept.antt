-- What holds of every document that the machine reaches, and of every document that a broker keeps with its
-- tiles. That the pixels of a kept tile are the picture of its version is the broker's own.
use Rattle.std.specs.Prelude.{◌≡◌, ◌≢◌, ⊤, ℕ, ◌<◌, ◌≤◌, true, false, List, [], length, filter, slice_get, Option, None, Some}
use Rattle.std.specs.List.{AllByRecursion}
use Rattle.kit_trait.specs.Rules.{Rules, doc}
use Rattle.save_core.specs.Runs.{IsBoundTo}
use Rattle.save_core.specs.Saving.{has_mark, is_of, last_stored}
use Rattle.save_core.specs.declared.values.Put.{Put}
use Rattle.save_core.specs.declared.values.TheConstants.{MOST_SAVES}
use Rattle.tile_key.specs.Places.{Place, IsGroup, IsKey, is_zoom, place_of_keys}
use Rattle.tile_key.specs.Visible.{IsBefore, is_too_large}
use Rattle.document_machine.specs.Due.{is_current, is_out, parts_of, sees_or_asks, visible}
use Rattle.document_machine.specs.Held.{Held, KeptTile}
use Rattle.document_machine.specs.Keys.{Pairwise, is_among}
use Rattle.document_machine.specs.Outputs.{named}
use Rattle.document_machine.specs.Saves.{text_at}
use Rattle.document_machine.specs.State.{Shown, View, Job, Document}
use Rattle.document_machine.specs.declared.limits.TheConstants.{MOST_ASKED, MOST_JOBS, MOST_KEPT, MOST_VIEWS}
use Rattle.send_window.specs.declared.windows.TheConstants.{MOST_SENT}

-- a view stands in one of the parts and sees no more than it may; it asks for keys of the document's parts,
-- not too many, each once; its screen has each key once, in key order, keys that it sees or asks for
-- alone, in versions that are applied; the tiles that are not acknowledged are not too many, with numbers
-- that rise and are below the next one
pub record IsViewKept {C B S : Type 0} (rules : Rules C B) (d : Document S) (view : View) : Type 0 where
  pub part : view.part < parts_of rules d.base
  pub zoom : is_zoom view.zoom ≡ true
  pub seen : is_too_large view.zoom (length (visible rules d view)) ≡ false
  pub asked : AllByRecursion (λ key. IsKey key × (key.part < parts_of rules d.base)) view.asked
  pub asked_once : Pairwise (λ p q. p ≢ q) view.asked
  pub asked_few : length view.asked ≤ MOST_ASKED
  pub screen : Pairwise (λ p q. IsBefore p.key q.key) view.screen
  pub versions : AllByRecursion (λ shown. shown.version ≤ d.applied) view.screen
  pub wanted : AllByRecursion (λ shown. sees_or_asks rules d view shown.key ≡ true) view.screen
  pub window_few : length view.window ≤ MOST_SENT
  pub wids : Pairwise (λ a b. a.wid < b.wid) view.window
  pub wids_below : AllByRecursion (λ tile. tile.wid < view.next_wid) view.window

-- a job out is of a group of keys, in one of the parts; its scene is that of the area that they fill, in
-- the document after as many inputs as its number says, which are applied
pub record IsJobKept {C B S : Type 0} (rules : Rules C B) (cut : C → Place → S) (d : Document S) (job : Job S) : Type 0 where
  pub number : job.number ≤ d.applied
  pub group : IsGroup job.keys
  pub area_is : job.area ≡ place_of_keys job.keys
  pub part : job.area.part < parts_of rules d.base
  pub scene_is : job.scene ≡ cut (doc rules d.base d.journal job.number) job.area

-- no key of the later job is one of the earlier one's
abbrev pub ShareNone : {S : Type 0} → Job S → Job S → Type 0
ShareNone earlier later = AllByRecursion (λ key. is_among earlier.keys key ≡ false) later.keys

-- no key is in two of the jobs
abbrev pub AreApart : {S : Type 0} → List (Job S) → Type 0
AreApart jobs = Pairwise ShareNone jobs

-- the put under way is of the document's file, after as many inputs as its number says, which are applied;
-- its ticket is below the next one
abbrev pub IsPutKept : {C B S : Type 0} → Rules C B → Document S → Option Put → Type 0
IsPutKept rules d None = ⊤
IsPutKept rules d (Some put) =
    (put.number ≤ d.applied) × (put.file ≡ d.file) × (put.content ≡ text_at rules d put.number)
    × (put.ticket.0 < d.saving.next_ticket)

-- the loaded file was stored first, and each stored content holds inputs that are applied; no mark is above
-- the number of accepted inputs; the put is of this document, and the saves that it is for are answered by
-- it; no view has too many saves that are not answered; where there are inputs the token of the last one is
-- kept; where the content stored last lacks inputs and no save will store them all, there is room for a
-- final save
pub record IsSavingKept {C B S : Type 0} (rules : Rules C B) (d : Document S) : Type 0 where
  pub loaded : slice_get d.saving.stored 0 ≡ Some 0
  pub stored : AllByRecursion (λ number. number ≤ d.applied) d.saving.stored
  pub marks : AllByRecursion (λ save. save.mark ≤ length d.journal) d.saving.saves
  pub put : IsPutKept rules d d.saving.put
  pub bound : AllByRecursion (IsBoundTo d.saving.put) d.saving.saves
  pub few : (view : ℕ) → length (filter (is_of (named view)) d.saving.saves) ≤ MOST_SAVES
  pub token : d.saving.last_token ≡ None → d.journal ≡ []
  pub room : last_stored d.saving ≢ length d.journal → has_mark (length d.journal) d.saving ≡ false → d.saving.has_room ≡ true

-- the file is one of the kit's; no more inputs are applied than accepted, and each names one of the parts;
-- the views are not too many, in the order of their ids, which are below the next one; the jobs out are
-- not too many, no key is in two of them, and their tickets rise and are below the next one; and what holds
-- of saves holds of its own
pub record IsKept {C B S : Type 0} (rules : Rules C B) (cut : C → Place → S) (d : Document S) : Type 0 where
  pub accepted : rules.accepts d.base ≡ true
  pub level : d.applied ≤ length d.journal
  pub inputs : AllByRecursion (λ input. input.part < parts_of rules d.base) d.journal
  pub few : length d.views ≤ MOST_VIEWS
  pub ids : Pairwise (λ v w. v.id < w.id) d.views
  pub ids_below : AllByRecursion (λ view. view.id < d.next_view) d.views
  pub each : AllByRecursion (IsViewKept rules d) d.views
  pub jobs : AllByRecursion (IsJobKept rules cut d) d.jobs
  pub apart : AreApart d.jobs
  pub jobs_few : length d.jobs ≤ MOST_JOBS
  pub tickets : Pairwise (λ a b. a.ticket < b.ticket) d.jobs
  pub tickets_below : AllByRecursion (λ job. job.ticket < d.next_ticket) d.jobs
  pub saving : IsSavingKept rules d

-- a kept tile is of one of the document's parts, in a version that is applied
pub record IsTileKept {C B S : Type 0} (rules : Rules C B) (d : Document S) (tile : KeptTile) : Type 0 where
  pub part : tile.key.part < parts_of rules d.base
  pub version : tile.version ≤ d.applied

-- of a key that has a present tile kept no job is out, and no screen has a later version
pub record IsPresentKept {S : Type 0} (d : Document S) (tile : KeptTile) : Type 0 where
  pub free : is_out d.jobs tile.key ≡ false
  pub not_ahead : AllByRecursion (λ view. AllByRecursion (λ shown. shown.key ≡ tile.key → shown.version ≤ tile.version) view.screen) d.views

-- no job out of the key on a screen has a lower number than the version there. A broker keeps this, and the
-- machine need not: it may send a present tile of a key while an older job of it is out
abbrev pub IsNotAhead : {S : Type 0} → List (Job S) → Shown → Type 0
IsNotAhead jobs shown =
    AllByRecursion (λ job. is_among job.keys shown.key ≡ true → shown.version ≤ job.number) jobs

-- the document is as every document is; the kept tiles are not too many, each key is kept once, and what
-- holds of a kept one, and of a present one, holds of each; no screen is ahead of a job out
pub record IsHeld {C B S : Type 0} (rules : Rules C B) (cut : C → Place → S) (held : Held S) : Type 0 where
  pub document : IsKept rules cut held.document
  pub kept_few : length held.kept ≤ MOST_KEPT
  pub kept_once : Pairwise (λ a b. a.key ≢ b.key) held.kept
  pub kept_each : AllByRecursion (IsTileKept rules held.document) held.kept
  pub kept_present :
      AllByRecursion (λ tile. is_current rules held.document tile.version tile.key ≡ true → IsPresentKept held.document tile) held.kept
  pub not_ahead : AllByRecursion (λ view. AllByRecursion (IsNotAhead held.document.jobs) view.screen) held.document.views
