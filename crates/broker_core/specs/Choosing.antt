-- Which pair a turn serves, and for which keys it cuts a job, in the words of the views and of the cache.
use Rattle.std.specs.Prelude.{ℕ, Bool, not, ◌&&◌, ◌||◌, List, [], ◌∷◌, find, Option, None, Some, is_some, if◌then◌else◌}
use Rattle.std.specs.List.{list_any}
use Rattle.tile_cache.specs.Cached.{Cached, current_tile}
use Rattle.tile_cache.specs.Calls.{is_out}
use Rattle.tile_key.specs.Places.{Place, next_place}
use Rattle.document_machine.specs.Next.{or_later, right_of}
use Rattle.view_session.specs.Viewing.{Viewing, keys, is_due}
use Rattle.broker_core.specs.Serving.{has_room}
use Rattle.broker_core.specs.declared.members.Member.{Member}

-- a key can be served: a tile of it is current, or no job of it is out and one more may be
abbrev pub can_serve : Cached → (more : Bool) → Place → Bool
can_serve cache more key = is_some (current_tile cache key) || (more && not (is_out cache key))

-- the first key, in key order, that a view with room is due and that can be served
abbrev pub next_served : Cached → (more : Bool) → Viewing → Option Place
next_served cache more v = if has_room v then find (λ key. can_serve cache more key && is_due v key) (keys v) else None

-- the first member that has such a key, with that key
abbrev pub next_member : Cached → (more : Bool) → List Member → Option (ℕ × Place)
next_member cache more [] = None
next_member cache more (member ∷ members) =
    or_later member.id (next_served cache more member.view) (next_member cache more members)

-- some member is due the key
abbrev pub is_owed : List Member → Place → Bool
is_owed members key = list_any (λ member. is_due member.view key) members

-- the key, where the test passes
abbrev pub where_true : Bool → Place → Option Place
where_true test key = if test then Some key else None

-- a key joins the group of the key to its left: some member is due it, no tile of it is current, and no job
-- of it is out
abbrev pub joins_group : Cached → List Member → Place → Bool
joins_group cache members key = is_owed members key && (not (is_some (current_tile cache key)) && not (is_out cache key))

-- the keys that one job is cut for: this one, and to its right without a gap up to seven that join it
abbrev pub group_at : Cached → List Member → Place → List Place
group_at cache members key = key ∷ right_of 7 (joins_group cache members) key
