-- What gives and releases do to links.
use Rattle.std.specs.Prelude.{ℕ, ◌≡◌, Bool, true, false, List, [], ◌∷◌, ◌++◌, Option, Some, None}
use Rattle.std.specs.Prelude.{slice_index_or, slice_set, ⊤}
use Rattle.std.specs.List.{remove}
use Rattle.cool_base.specs.declared.ids.LinkId.{LinkId}
use Rattle.net_traits.specs.declared.nets.Given.{Given}
use Rattle.net_traits.specs.declared.nets.Given.TheVariants.{Sent, Failed}
use Rattle.script_net.specs.declared.gifts.Frame.{Frame}
use Rattle.script_net.specs.Queues.{LinkSeen}

-- A give at a link, as it is marked or not.
abbrev pub GivesIf : Bool → ℕ → LinkSeen → List LinkSeen → Given → List LinkSeen → Type 0
GivesIf true i l old given new = (given ≡ Failed)
    × (new ≡ slice_set old i (record l { live = false; marked = false }))
GivesIf false i l old given new = (given ≡ Sent) × (new ≡ old)

-- A give at the link with this index. One to no link is sent.
abbrev pub GivesAt : Option ℕ → List LinkSeen → Given → List LinkSeen → Type 0
GivesAt None old given new = (given ≡ Sent) × (new ≡ old)
GivesAt (Some i) old given new = (d : LinkSeen)
    → GivesIf (slice_index_or old i d).marked i (slice_index_or old i d) old given new

-- The frames that were sent, with this one where it was.
abbrev pub with_sent : Given → Frame → List Frame → List Frame
with_sent Sent frame frames = frames ++ frame ∷ []
with_sent Failed frame frames = frames

-- A release of the link with this index: it is there no longer, and what is given is that link. One
-- that
-- isn't there has no events.
abbrev pub Gives : LinkSeen → Option LinkSeen → Type 0
Gives l None = ⊤
Gives l (Some given) = given ≡ l

abbrev pub ReleasesFrom : Option ℕ → LinkId → List LinkSeen → Option LinkSeen → List LinkSeen
    → Type 0
ReleasesFrom None link old given new = (new ≡ old)
    × Gives (record { link = link; live = true; marked = false; waiting = [] }) given
ReleasesFrom (Some i) link old given new = (new ≡ remove old i)
    × ((d : LinkSeen) → Gives (slice_index_or old i d) given)
