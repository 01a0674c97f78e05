-- What an applied input and a painted tile do to the members, in the words of their views, and to the cache.
use Rattle.std.specs.Prelude.{◌≡◌, ◌≢◌, ⊤, ℕ, Bool, true, not, ◌&&◌, nat_eq, nat_lt, List, [], ◌∷◌, length, Option, None, Some}
use Rattle.std.specs.List.{list_any}
use Rattle.kit_trait.specs.declared.values.Damage.{Damage}
use Rattle.tile_key.specs.Places.{Place}
use Rattle.document_machine.specs.Due.{is_newer}
use Rattle.document_machine.specs.Keys.{is_among}
use Rattle.document_machine.specs.State.{Job}
use Rattle.send_window.specs.declared.windows.TheConstants.{MOST_SENT}
use Rattle.tile_cache.specs.Cached.{Cached}
use Rattle.tile_cache.specs.Calls.{damaged as noted}
use Rattle.view_session.specs.Viewing.{Viewing, damaged, is_due, version_on}
use Rattle.broker_core.specs.declared.members.Member.{Member}

-- a view with each of these damages noted, in order
abbrev pub damaged_by : List Damage → Viewing → Viewing
damaged_by [] v = v
damaged_by (damage ∷ damages) v = damaged_by damages (damaged damage.part damage.rect v)

abbrev pub marked_by : List Damage → Member → Member
marked_by damages member = record member { view = damaged_by damages member.view }

-- a view has room for one more tile that it has not acknowledged
abbrev pub has_room : Viewing → Bool
has_room v = nat_lt (length v.window) MOST_SENT

-- whether a view takes a painted tile of the key in this version
abbrev pub takes : Place → (version : ℕ) → Viewing → Bool
takes key version v = is_newer (version_on v key) version (is_among v.asked key) && (is_due v key && has_room v)

-- a view's window is empty, no key that it sees is due, and it asks for nothing
abbrev pub is_still : Viewing → Bool
is_still v = nat_eq (length v.window) 0 && (not (list_any (is_due v) v.visible) && nat_eq (length v.asked) 0)

-- the job with a ticket is out and has this scene
abbrev pub Awaits : {S : Type 0} → S → Option (Job S) → Type 0
Awaits scene None = ⊥
Awaits scene (Some job) = scene ≡ job.scene

-- no job with the ticket is out, or it has another scene
abbrev pub Ignores : {S : Type 0} → S → Option (Job S) → Type 0
Ignores scene None = ⊤
Ignores scene (Some job) = scene ≢ job.scene

-- a cache with each of these damages of input number n noted, in order
abbrev pub cache_damaged : List Damage → (n : ℕ) → Cached → Cached
cache_damaged [] n cache = cache
cache_damaged (damage ∷ damages) n cache = cache_damaged damages n (noted damage.part damage.rect n cache)
