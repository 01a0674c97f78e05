-- What a broker keeps, and the document with its kept tiles that it is.
use Rattle.std.specs.Prelude.{◌≡◌, ℕ, ◌≤◌, List, length, Option, None, Some}
use Rattle.std.specs.List.{AllByRecursion}
use Rattle.kit_trait.specs.Rules.{Rules, doc}
use Rattle.kit_trait.specs.declared.values.Input.{Input}
use Rattle.save_core.specs.Saving.{Saving}
use Rattle.tile_cache.specs.Cached.{Cached}
use Rattle.tile_key.specs.Places.{Place, IsArea}
use Rattle.document_machine.specs.Due.{parts_of, size_of, seen_keys, touched}
use Rattle.document_machine.specs.Held.{Held}
use Rattle.document_machine.specs.Kept.{IsHeld}
use Rattle.document_machine.specs.State.{Job, Document}
use Rattle.document_machine.specs.declared.limits.TheConstants.{MOST_VIEWS}
use Rattle.broker_core.specs.Caching.{kept_tiles, IsCacheOf}
use Rattle.broker_core.specs.Members.{view_of, views_of}
use Rattle.broker_core.specs.declared.members.Member.{Member}

-- the document that a broker's parts are
abbrev pub document_of : {S : Type 0} → (file base : List ℕ) → List Input → (applied : ℕ) → List Member → (next_view : ℕ) → List (Job S) → (next_ticket : ℕ) → Saving → Document S
document_of file base journal applied members next_view jobs next_ticket saving = record {
  file = file;
  base = base;
  journal = journal;
  applied = applied;
  views = views_of members;
  next_view = next_view;
  jobs = jobs;
  next_ticket = next_ticket;
  saving = saving;
}

-- the same with the tiles in its cache
abbrev pub held_of : {S : Type 0} → (file base : List ℕ) → List Input → (applied : ℕ) → List Member → (next_view : ℕ) → List (Job S) → Cached → Saving → Held S
held_of file base journal applied members next_view jobs cache saving = record {
  document = document_of file base journal applied members next_view jobs cache.next saving;
  kept = kept_tiles cache.tiles;
}

-- what is kept of a view beside the machine's: the keys that it sees are those of its part, zoom and area,
-- and an entry of its screen is stale exactly where an applied input above its version damaged its key
pub record IsTracked {C B : Type 0} (rules : Rules C B) (base : List ℕ) (journal : List Input) (applied : ℕ) (member : Member) : Type 0 where
  pub seen : member.view.visible ≡ seen_keys (size_of rules base) (view_of member)
  pub marks : AllByRecursion (λ entry. entry.stale ≡ touched rules base journal entry.version entry.key applied) member.view.screen

-- what the machine says of every document with its kept tiles, and beside it: the views are those of the
-- members, the kit holds the document after the applied inputs, parts and sizes are those of the loaded
-- file, the area of each job out has the form of one, and the cache is that of the document
pub record Holds {C B S : Type 0} (rules : Rules C B) (cut : C → Place → S) (IsSound : C → Type 0) (contents : C) (members : List Member) (cache : Cached) (held : Held S) : Type 0 where
  pub kept : IsHeld rules cut held
  pub views_are : held.document.views ≡ views_of members
  pub contents_are : contents ≡ doc rules held.document.base held.document.journal held.document.applied
  pub sound : IsSound contents
  pub parts_are : rules.parts (rules.body contents) ≡ parts_of rules held.document.base
  pub sizes_are : (part : ℕ) → rules.size (rules.body contents) part ≡ size_of rules held.document.base part
  pub some_part : 1 ≤ parts_of rules held.document.base
  pub tracked : AllByRecursion (IsTracked rules held.document.base held.document.journal held.document.applied) members
  pub forms : AllByRecursion (λ job. IsArea job.area) held.document.jobs
  pub ticket_is : held.document.next_ticket ≡ cache.next
  pub kept_are : held.kept ≡ kept_tiles cache.tiles
  pub cached : IsCacheOf rules held.document.base held.document.journal held.document.applied held.document.jobs cache

-- a broker that isn't spent has as many views as it may have
abbrev pub IsFull : {S : Type 0} → Option (Held S) → Type 0
IsFull None = ⊥
IsFull (Some held) = MOST_VIEWS ≤ length held.document.views
