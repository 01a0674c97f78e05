-- Links with the events that wait for them, and which event is the next.
use Rattle.std.specs.Prelude.{ℕ, ◌≡◌, ◌≢◌, ◌+◌, Bool, true, false, not, ◌&&◌, ◌==◌, nat_le, List}
use Rattle.std.specs.Prelude.{[], ◌∷◌, ◌++◌, map, Option, Some, None, if◌then◌else◌, slice_index_or}
use Rattle.std.specs.Prelude.{slice_set, MatchOption}
use Rattle.std.specs.List.{position, list_any}
use Rattle.cool_base.specs.declared.ids.LinkId.{LinkId}
use Rattle.net_traits.specs.Nets.{LinkEvent, taken_of}
use Rattle.net_traits.specs.Nets.{Opens as OpensLink, Says as SaysLink, Leaves as LeavesLink}
use Rattle.net_traits.specs.declared.nets.Taken.{Taken}
use Rattle.net_traits.specs.declared.nets.Taken.TheVariants.{Opened, Said, Left, Nothing, Failed}
use Rattle.script_net.specs.Past.{is_one_of}
use Rattle.script_net.specs.declared.events.Event.{Event}
use Rattle.script_net.specs.declared.events.Event.TheVariants.{Opens, Says, Leaves}
use Rattle.script_net.specs.declared.events.Coming.{Coming}

-- A link: its name, whether it is live, whether its next give fails, and its events that wait.
pub record LinkSeen : Type 0 where
  pub link : LinkId
  pub live : Bool
  pub marked : Bool
  pub waiting : List Coming

-- The event at this link.
abbrev pub event_at : LinkId → Event → LinkEvent
event_at link Opens = OpensLink link
event_at link (Says bytes) = SaysLink link bytes
event_at link Leaves = LeavesLink link

-- The events that wait for a link.
abbrev pub events_of : LinkSeen → List LinkEvent
events_of l = map (λ (c : Coming). event_at l.link c.event) l.waiting

-- Whether the event opens its link.
abbrev pub opens : Event → Bool
opens Opens = true
opens (Says bytes) = false
opens Leaves = false

-- Whether the two are the same.
abbrev pub is_same : Bool → Bool → Bool
is_same true b = b
is_same false b = not b

-- A take of the first event, where it isn't amiss.
abbrev pub TakesIf : Bool → Coming → List Coming → LinkSeen → Option Taken → LinkSeen → Type 0
TakesIf true c cs old result new = (result ≡ None) × (new ≡ old)
TakesIf false c cs old result new = (result ≡ Some (taken_of (event_at old.link c.event)))
    × (new ≡ record old { waiting = cs })

-- A take at the link: it gives the first event that waits, which then waits no longer. A link that
-- is
-- held doesn't open, and one that isn't held does nothing else: there nothing is given.
abbrev pub TakesAt : List Coming → LinkSeen → Bool → Option Taken → LinkSeen → Type 0
TakesAt [] old held result new = (result ≡ None) × (new ≡ old)
TakesAt (c ∷ cs) old held result new = TakesIf (is_same (opens c.event) held) c cs old result new

-- The place of the first event that waits.
abbrev pub first_place : List Coming → Option ℕ
first_place [] = None
first_place (c ∷ cs) = Some c.place

-- The sooner of two, each an index with a place.
abbrev pub sooner : ℕ → Option ℕ → Option (ℕ × ℕ) → Option (ℕ × ℕ)
sooner i None rest = rest
sooner i (Some place) None = Some (i, place)
sooner i (Some place) (Some other) = if nat_le place other.1 then Some (i, place) else Some other

-- The link whose first event came first, as its index, counted from i, and the event's place.
abbrev pub next_from : ℕ → List LinkSeen → Option (ℕ × ℕ)
next_from i [] = None
next_from i (l ∷ ls) = sooner i (first_place l.waiting) (next_from (i + 1) ls)

-- The index of the link with this name.
abbrev pub index_of : LinkId → List LinkSeen → Option ℕ
index_of link links = position (λ (l : LinkSeen). l.link.0 == link.0) links

-- Whether the link with this name is there and live.
abbrev pub is_live_in : LinkId → List LinkSeen → Bool
is_live_in link links = list_any (λ (l : LinkSeen). (l.link.0 == link.0) && l.live) links

-- An event was added where the link is live, and the link is live or not from then on; else nothing
-- was
-- done, and the answer says so.
abbrev pub AddedIf : Bool → ℕ → LinkSeen → Coming → Bool → List LinkSeen → Bool → List LinkSeen
    → Type 0
AddedIf true i l coming live old added new =
    (added ≡ true) × (new
    ≡ slice_set old i (record l { live = live; waiting = l.waiting ++ coming ∷ [] }))
AddedIf false i l coming live old added new = (added ≡ false) × (new ≡ old)

-- The same at the link with this index.
abbrev pub AddedAt : ℕ → Coming → Bool → List LinkSeen → Bool → List LinkSeen → Type 0
AddedAt i coming live old added new =
    (d : LinkSeen) → AddedIf (slice_index_or old i d).live i
    (slice_index_or old i d) coming live old added new

-- The same at the link with this name, where it is there.
abbrev pub Added : LinkId → Coming → Bool → List LinkSeen → Bool → List LinkSeen → Type 0
Added link coming live old added new =
    MatchOption (index_of link old) ((added ≡ false) × (new ≡ old))
    (λ (i : ℕ). AddedAt i coming live old added new)

-- The link at this index was marked: its next give fails.
abbrev pub MarkedAt : ℕ → List LinkSeen → List LinkSeen → Type 0
MarkedAt i old new = (d : LinkSeen)
    → new ≡ slice_set old i (record (slice_index_or old i d) { marked = true })

-- The answer of a take that gave an event.
abbrev pub given_by : Taken → Option Taken
given_by (Opened link) = Some (Opened link)
given_by (Said link bytes) = Some (Said link bytes)
given_by (Left link) = Some (Left link)
given_by Nothing = None
given_by Failed = None

-- A take at the link with this index.
abbrev pub TakesOf : ℕ → LinkSeen → List LinkId → List LinkSeen → Taken → List LinkSeen → Type 0
TakesOf i l held old taken new =
    (after : LinkSeen) × TakesAt l.waiting l (is_one_of held l.link.0) (given_by taken) after
    × (new ≡ slice_set old i after)

-- A take over all links: it gives the event that came first, and Nothing exactly where none waits.
abbrev pub TakesFrom : Option (ℕ × ℕ) → List LinkId → List LinkSeen → Taken → List LinkSeen → Type 0
TakesFrom None held old taken new = (taken ≡ Nothing) × (new ≡ old)
TakesFrom (Some n) held old taken new = (taken ≢ Nothing)
    × ((d : LinkSeen) → TakesOf n.0 (slice_index_or old n.0 d) held old taken new)
