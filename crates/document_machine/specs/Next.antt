-- Which work a turn does next.
use Rattle.std.specs.Prelude.{ℕ, zero, suc, Bool, not, ◌&&◌, ◌||◌, nat_lt, List, [], ◌∷◌, length, find, Option, None, Some, if◌then◌else◌}
use Rattle.std.specs.Option.{is_some}
use Rattle.kit_trait.specs.Rules.{Rules}
use Rattle.tile_key.specs.Places.{Place, next_place}
use Rattle.document_machine.specs.Due.{is_due, is_owed, has_room, is_out, keys}
use Rattle.document_machine.specs.Saves.{has_ready_save}
use Rattle.document_machine.specs.State.{View, Job, Document}
use Rattle.document_machine.specs.declared.limits.TheConstants.{MOST_JOBS}

-- no painted tile is kept
abbrev pub none_kept : Place → Option ℕ
none_kept key = None

-- a key is free: no present tile of it is kept, where `kept` tells the version in which one is, and no job
-- of it is out
abbrev pub is_free : {S : Type 0} → (kept : Place → Option ℕ) → List (Job S) → Place → Bool
is_free kept jobs key = not (is_some (kept key)) && not (is_out jobs key)

-- a key can be served: a present tile of it is kept, in the version that `kept` tells, or no job of it is
-- out and one more may be
abbrev pub can_serve : {S : Type 0} → (kept : Place → Option ℕ) → List (Job S) → Place → Bool
can_serve kept jobs key = is_some (kept key) || (nat_lt (length jobs) MOST_JOBS && not (is_out jobs key))

-- the first key, in key order, that a view with room is due and that can be served
abbrev pub next_key : {C B S : Type 0} → Rules C B → (kept : Place → Option ℕ) → Document S → View → Option Place
next_key rules kept d view =
    if has_room view then find (λ key. can_serve kept d.jobs key && is_due rules d view key) (keys rules d view) else None

-- this one's, or else a later one's
abbrev pub or_later : ℕ → Option Place → Option (ℕ × Place) → Option (ℕ × Place)
or_later id (Some key) later = Some (id, key)
or_later id None later = later

-- the first of these views that has such a key, with that key
abbrev pub next_among : {C B S : Type 0} → Rules C B → (kept : Place → Option ℕ) → Document S → List View → Option (ℕ × Place)
next_among rules kept d [] = None
next_among rules kept d (view ∷ views) = or_later view.id (next_key rules kept d view) (next_among rules kept d views)

-- the pair of a view and a key that is served next, in order of view ids and then of keys
abbrev pub next_pair : {C B S : Type 0} → Rules C B → (kept : Place → Option ℕ) → Document S → Option (ℕ × Place)
next_pair rules kept d = next_among rules kept d d.views

-- of the keys to the right of one, each beginning where the one before it ends, those before the first that
-- fails the test, and no more than so many
abbrev pub right_of : (most : ℕ) → (Place → Bool) → Place → List Place
right_of zero test key = []
right_of (suc most) test key =
    if test (next_place key) then next_place key ∷ right_of most test (next_place key) else []

-- a key joins the group of the key to its left: some view is owed it, and it is free
abbrev pub joins_group : {C B S : Type 0} → Rules C B → (kept : Place → Option ℕ) → Document S → Place → Bool
joins_group rules kept d key = is_owed rules d key && is_free kept d.jobs key

-- the keys that one job is cut for: this one, and to its right without a gap up to seven that join it
abbrev pub group_at : {C B S : Type 0} → Rules C B → (kept : Place → Option ℕ) → Document S → Place → List Place
group_at rules kept d key = key ∷ right_of 7 (joins_group rules kept d) key

-- the work of a turn: it serves the ready saves, it applies the next input, it sends a view the tile of a
-- key that is kept in this version, it cuts a job for these keys, the first of which a view is due, or there
-- is nothing to do
pub data Work : Type 0 where
  Serve : Work
  Apply : Work
  Send : (view : ℕ) (key : Place) (version : ℕ) → Work
  Cut : (view : ℕ) (keys : List Place) → Work
  Rest : Work

-- how a key is served: what is kept of it is sent, or else a job is cut for its group
abbrev pub serving : (view : ℕ) (key : Place) → (group : List Place) → (kept : Option ℕ) → Work
serving view key group (Some version) = Send view key version
serving view key group None = Cut view group

-- how the pair that is next is served
abbrev pub serving_next : {C B S : Type 0} → Rules C B → (kept : Place → Option ℕ) → Document S → Option (ℕ × Place) → Work
serving_next rules kept d None = Rest
serving_next rules kept d (Some (view, key)) = serving view key (group_at rules kept d key) (kept key)

-- the one work that a turn does next: ready saves go first, then an input that isn't applied, and then the
-- pair that is next
abbrev pub pick : {C B S : Type 0} → Rules C B → (kept : Place → Option ℕ) → Document S → Work
pick rules kept d =
    if has_ready_save d then Serve
    else (if nat_lt d.applied (length d.journal) then Apply else serving_next rules kept d (next_pair rules kept d))
