-- What a world does from its line on, over its poll.
use Rattle.std.proofs.Common.{◌≡◌, ◌∙◌, ℕ, List, [], ap, sym, subst, refl, Option}
use Rattle.document_machine.specs.Held.{Held}
use Rattle.kit_trait.specs.Rules.{Rules}
use Rattle.tile_key.specs.Places.{Place}
use Rattle.outside.specs.Streams.{Adds}
use Rattle.script_lines.specs.declared.output.Stop.{Stop}
use Rattle.script_run.specs.Play.{Stopped}
use Rattle.script_world.specs.House.{House, document_of}
use Rattle.script_world.specs.Moved.{Came, MadeFrom, TurnedTo}
use Rattle.script_world.specs.Seats.{Seats}
use Rattle.script_world.specs.World.{Seen, Moves, Turned, Settled, Begun, IsAtRest}
use Rattle.script_world.specs.declared.event.Waiting.{Waiting}
use Rattle.script_world.proofs.Chains.{came_joined, stopped_later}
use Rattle.script_world.proofs.Steps.{begun_of}

-- the world whose document was taken out of it
same_world : {S : Type 0} (waiting : List Waiting) (seats : Seats) (taken inside : Option (Option (Held S))) (self : Seen S)
    → taken ≡ inside → record { waiting = waiting; house = record { seats = seats; document = document_of inside } } ≡ self → record { waiting = waiting; house = record { seats = seats; document = document_of taken } } ≡ self
same_world {S} waiting seats taken inside self same is = ap (λ (b : Option (Option (Held S))). record { waiting = waiting; house = record { seats = seats; document = document_of b } }) same ∙ is

-- all events, and then up to rest, settles the world
pub settles : {C B S : Type 0} (rules : Rules C B) (cut : C → Place → S) (waiting left : List Waiting) (seats : Seats) (taken inside : Option (Option (Held S))) (self : Seen S) (mid new : House S) (a b c : Option (List ℕ))
    → taken ≡ inside → record { waiting = waiting; house = record { seats = seats; document = document_of inside } } ≡ self → left ≡ []
    → Came (Moves rules cut) (record { waiting = waiting; house = record { seats = seats; document = document_of taken } }) (record { waiting = []; house = mid }) a b
    → Came (Moves rules cut) (record { waiting = []; house = mid }) (record { waiting = []; house = new }) b c
    → IsAtRest rules new.document
    → (out : List ℕ) × Settled rules cut self out (record { waiting = left; house = new }) × Adds a out c
settles {C} {B} {S} rules cut waiting left seats taken inside self mid new a b c same is none first later rests =
    let s : Seen S = record { waiting = waiting; house = record { seats = seats; document = document_of taken } } in
    let t : Seen S = record { waiting = []; house = new } in
    let t_is : t ≡ record { waiting = left; house = new } = ap (λ (w : List Waiting). record { waiting = w; house = new }) (sym none) in
    let all : Came (Moves rules cut) s t a c = came_joined (Moves rules cut) s (record { waiting = []; house = mid }) t a b c first later in
    let done : Settled rules cut s all.out t = record { moves = all.moves; follows = all.chain; none_waits = refl; rests = rests } in
    (all.out, subst (λ (x : Seen S). Settled rules cut self all.out x) t_is (subst (λ (x : Seen S). Settled rules cut x all.out t) (same_world waiting seats taken inside self same is) done), all.added)

-- stopped at the events
pub begin_stopped : {C B S : Type 0} (rules : Rules C B) (cut : C → Place → S) (waiting : List Waiting) (seats : Seats) (taken inside : Option (Option (Held S))) (self : Seen S) (a b : Option (List ℕ)) (stop : Stop)
    → taken ≡ inside → record { waiting = waiting; house = record { seats = seats; document = document_of inside } } ≡ self
    → Stopped stop (MadeFrom (Moves rules cut) (record { waiting = waiting; house = record { seats = seats; document = document_of taken } })) a b
    → Stopped stop (Begun rules cut self) a b
begin_stopped {C} {B} {S} rules cut waiting seats taken inside self a b stop same is stopped =
    let s : Seen S = record { waiting = waiting; house = record { seats = seats; document = document_of taken } } in
    subst (λ (x : Seen S). Stopped stop (Begun rules cut x) a b) (same_world waiting seats taken inside self same is) (begun_of rules cut s a b stop stopped)

-- stopped behind the events
pub settle_stopped : {C B S : Type 0} (rules : Rules C B) (cut : C → Place → S) (waiting : List Waiting) (seats : Seats) (taken inside : Option (Option (Held S))) (self : Seen S) (mid : House S) (a b c : Option (List ℕ)) (stop : Stop)
    → taken ≡ inside → record { waiting = waiting; house = record { seats = seats; document = document_of inside } } ≡ self
    → Came (Moves rules cut) (record { waiting = waiting; house = record { seats = seats; document = document_of taken } }) (record { waiting = []; house = mid }) a b
    → Stopped stop (MadeFrom (Moves rules cut) (record { waiting = []; house = mid })) b c
    → Stopped stop (Begun rules cut self) a c
settle_stopped {C} {B} {S} rules cut waiting seats taken inside self mid a b c stop same is first later =
    let s : Seen S = record { waiting = waiting; house = record { seats = seats; document = document_of taken } } in
    begin_stopped rules cut waiting seats taken inside self a c stop same is (stopped_later (Moves rules cut) s (record { waiting = []; house = mid }) a b c stop first later)

-- so many turns of the world
pub turned_by : {C B S : Type 0} (rules : Rules C B) (cut : C → Place → S) (count : ℕ) (waiting : List Waiting) (seats : Seats) (taken inside : Option (Option (Held S))) (self t : Seen S) (a c : Option (List ℕ))
    → taken ≡ inside → record { waiting = waiting; house = record { seats = seats; document = document_of inside } } ≡ self
    → TurnedTo rules cut count (record { waiting = waiting; house = record { seats = seats; document = document_of taken } }) t a c
    → (out : List ℕ) × Turned rules cut count self out t × Adds a out c
turned_by {C} {B} {S} rules cut count waiting seats taken inside self t a c same is turned =
    (turned.out, subst (λ (x : Seen S). Turned rules cut count x turned.out t) (same_world waiting seats taken inside self same is) turned.done, turned.added)
