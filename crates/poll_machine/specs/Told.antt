-- What the outside is told by a run: the histories of net, port, store, clock and yard as functions
-- of the events.
use Rattle.std.specs.Prelude.{◌≡◌, ℕ, Bool, true, false, List, [], ◌∷◌, ◌++◌, Option, None, Some}
use Rattle.std.specs.Prelude.{Result, Ok, Err, MatchResult, MatchOption, if◌then◌else◌, ⊤}
use Rattle.std.specs.List.{flat_map}
use Rattle.std.specs.Option.{option_map}
use Rattle.cool_base.specs.declared.ids.DocId.{DocId}
use Rattle.cool_base.specs.declared.ids.LinkId.{LinkId}
use Rattle.hall_machine.specs.declared.words.Label.{Label}
use Rattle.hall_machine.specs.States.{EntersOne, Posts as PostsOne, Collects as CollectsOne}
use Rattle.hall_machine.specs.States.{Departs as DepartsOne, Arrives as ArrivesOne}
use Rattle.hall_machine.specs.States.{Closes as ClosesOne, with_value}
use Rattle.net_traits.specs.Clocks.{Ticks as TicksTo}
use Rattle.net_traits.specs.Nets.{NetTold, LinkEvent, Takes as NetTakes, Gives as NetGives}
use Rattle.net_traits.specs.Nets.{Releases as NetReleases, Adopts as NetAdopts, Tells}
use Rattle.net_traits.specs.declared.nets.Given.{Given}
use Rattle.net_traits.specs.declared.nets.Taken.{Taken}
use Rattle.outside.specs.Stores.{StoreCall, Admits as StoreAdmits, Fetches as StoreFetches}
use Rattle.outside.specs.Stores.{Puts as StorePuts, Refreshes as StoreRefreshes}
use Rattle.outside.specs.Stores.{Unlocks as StoreUnlocks, Tells as StoreTells}
use Rattle.poll_hall.specs.Ports.{PortView, Finds, Stays}
use Rattle.poll_hall.specs.Says.{EnterSays, PostSays, CollectSays, DepartSays, ArriveSays}
use Rattle.poll_hall.specs.Says.{CloseSays, AdviseSays, SpareSays, PollsSays}
use Rattle.poll_machine.specs.Words.{Work, Answer, PaintDone, PutDone, Ways}
use Rattle.poll_machine.specs.Agenda.{Here, Gives, Frees as FreesHere, Asks, Offers, Puts}
use Rattle.poll_machine.specs.Agenda.{Refreshes, Unlocks, Releases, Adopts}
use Rattle.poll_machine.specs.House.{Parcel, Mail, Join, Answered, Move, PortCall, Enters, Posts}
use Rattle.poll_machine.specs.House.{Collects, Departs, Arrives, Closes, Advises, Spares, Counts}
use Rattle.poll_machine.specs.House.{SlotAct, At, Opens, Keeps, Gets, ComesIn, GoesTo, Ends}
use Rattle.poll_machine.specs.House.{Happens, Ticks, Takes, Calls, Reads, OfDoc, Shows, Frees}
use Rattle.poll_machine.specs.House.{Posted, Adopted}
use Rattle.poll_machine.specs.Runs.{Run}

-- a call on the net with its answer
pub data NetEntry (L : Type 0) : Type 0 where
  Took : (taken : Taken) → NetEntry L
  Gave : (link : ℕ) (frame : List ℕ) (given : Given) → NetEntry L
  Released : (link : ℕ) (gave : Option L) → NetEntry L
  Named : (carried : L) (link : ℕ) → NetEntry L

-- the net calls of what happens to a held document, and of any event
abbrev pub net_here : {J P L : Type 0} → Here J P L → List (NetEntry L)
net_here (Gives view link frame given) = Gave link frame given ∷ []
net_here (FreesHere link gave) = Released link gave ∷ []
net_here (Releases view link gave) = Released link gave ∷ []
net_here (Adopts view carried link) = Named carried link ∷ []
net_here _ = []

abbrev pub net_act : {D J P L : Type 0} → SlotAct D J P L → List (NetEntry L)
net_act (At here) = net_here here
net_act _ = []

abbrev pub net_part : {D J P L : Type 0} → Happens D J P L → List (NetEntry L)
net_part (Takes taken) = Took taken ∷ []
net_part (OfDoc id moment act) = net_act act
net_part (Shows link frame given) = Gave link frame given ∷ []
net_part (Frees link gave) = Released link gave ∷ []
net_part (Posted link gave) = Released link gave ∷ []
net_part (Adopted carried link) = Named carried link ∷ []
net_part _ = []

-- its port calls
abbrev pub port_here : {D J P L : Type 0} → Here J P L → List (PortCall D P L)
port_here (Asks spare) = Spares spare ∷ []
port_here _ = []

abbrev pub port_act : {D J P L : Type 0} → ℕ → SlotAct D J P L → List (PortCall D P L)
port_act id (At here) = port_here here
port_act id (Opens file bytes lock) = []
port_act id (Keeps file refusal why) = Closes id (Err why) ∷ []
port_act id (Gets answer bag) = Collects id answer bag ∷ []
port_act id (ComesIn parcel) = Arrives (Some (record { 0 = id }, parcel)) ∷ []
port_act id (GoesTo to parcel answer) = Departs id to parcel answer ∷ []
port_act id (Ends answer) = Closes id answer ∷ []

abbrev pub port_part : {D J P L : Type 0} → Happens D J P L → List (PortCall D P L)
port_part (Calls call) = call ∷ []
port_part (OfDoc id moment act) = port_act id act
port_part _ = []

-- its store calls
abbrev pub store_here : {J P L : Type 0} → Here J P L → List StoreCall
store_here (Puts errand answer) = StorePuts errand answer ∷ []
store_here (Refreshes file token answer) = StoreRefreshes file token answer ∷ []
store_here (Unlocks file token answer) = StoreUnlocks file token answer ∷ []
store_here _ = []

abbrev pub store_act : {D J P L : Type 0} → SlotAct D J P L → List StoreCall
store_act (At here) = store_here here
store_act _ = []

abbrev pub store_part : {D J P L : Type 0} → Happens D J P L → List StoreCall
store_part (Reads call) = call ∷ []
store_part (OfDoc id moment act) = store_act act
store_part _ = []

-- its moments
abbrev pub clock_part : {D J P L : Type 0} → Happens D J P L → List ℕ
clock_part (Ticks moment) = moment ∷ []
clock_part _ = []

-- its offers to the yard: the document, the work, and whether it was kept
abbrev pub yard_here : {J P L : Type 0} → ℕ → Here J P L → List (ℕ × Work J × Bool)
yard_here id (Offers work kept) = (id, work, kept) ∷ []
yard_here id _ = []

abbrev pub yard_act : {D J P L : Type 0} → ℕ → SlotAct D J P L → List (ℕ × Work J × Bool)
yard_act id (At here) = yard_here id here
yard_act id _ = []

abbrev pub yard_part : {D J P L : Type 0} → Happens D J P L → List (ℕ × Work J × Bool)
yard_part (OfDoc id moment act) = yard_act id act
yard_part _ = []

-- a link by its number
abbrev pub link_named : ℕ → LinkId
link_named link = record { 0 = link }

-- whether a release gave the link
abbrev pub was_given : {L : Type 0} → Option L → Bool
was_given (Some carried) = true
was_given None = false

-- one call on a net, where it tells
abbrev pub NetStep : {L : Type 0} → (L → List LinkEvent) → Option NetTold → NetEntry L
    → Option NetTold → Type 0
NetStep carries old (Took taken) new = Tells (λ (a b : NetTold). NetTakes a taken b) old new
NetStep carries old (Gave link frame given) new = Tells
    (λ (a b : NetTold). NetGives a (link_named link) frame given b) old new
NetStep carries old (Released link gave) new = Tells
    (λ (a b : NetTold). NetReleases a (link_named link) (was_given gave) b) old new
NetStep carries old (Named carried link) new = Tells
    (λ (a b : NetTold). NetAdopts a (link_named link) (carries carried) b) old new

-- the label of a mail
abbrev pub label_of : {D J P L : Type 0} → Ways D J P → Mail P L → Label
label_of w (Join link carried rights) = record { kind = 0; number = link }
label_of w (Answered (PaintDone result)) = record { kind = 1; number = w.ticket_of result }
label_of w (Answered (PutDone ticket answer)) = record { kind = 2; number = ticket }
label_of w (Move to) = record { kind = 3; number = to }

-- one call on a port: it answers what the hall answers in the state that it finds; others may have
-- made calls in between
abbrev pub PortStep : {D J P L : Type 0} → Ways D J P → PortView (Parcel D L) (Mail P L)
    → PortCall D P L → PortView (Parcel D L) (Mail P L) → Type 0
PortStep {D} {J} {P} {L} w old (Enters file answer) new =
    Finds old (EnterSays old.who file)
    (λ a b. MatchResult answer (λ e. EntersOne old.who file e a b) (λ _. Stays a b)) answer new
PortStep {D} {J} {P} {L} w old (Posts id mail urgent answer) new =
    Finds old (PostSays (λ (m : Mail P L). label_of w m) old.who id mail urgent)
    (λ a b. MatchResult answer (λ _. PostsOne id mail a b) (λ _. Stays a b))
    (with_value mail answer) new
PortStep {D} {J} {P} {L} w old (Collects id answer bag) new =
    Finds old (CollectSays (λ (m : Mail P L). label_of w m) old.who id)
    (λ a b. MatchResult answer (λ _. CollectsOne id bag a b) (λ _. Stays a b)) (answer, bag) new
PortStep {D} {J} {P} {L} w old (Departs id to parcel answer) new =
    Finds old (DepartSays old.who id to parcel)
    (λ a b. MatchResult answer (λ _. DepartsOne id to parcel a b) (λ _. Stays a b))
    (with_value parcel answer) new
PortStep {D} {J} {P} {L} w old (Arrives answer) new =
    Finds old (ArriveSays old.who)
    (λ a b. MatchOption answer (Stays a b) (λ r. ArrivesOne old.who r.0.0 r.1 a b)) answer new
PortStep {D} {J} {P} {L} w old (Closes id answer) new =
    Finds old (CloseSays old.who id)
    (λ a b. MatchResult answer (λ _. ClosesOne id a b) (λ _. Stays a b)) answer new
PortStep {D} {J} {P} {L} w old (Advises poll) new = Finds old AdviseSays Stays poll new
PortStep {D} {J} {P} {L} w old (Spares spare) new = Finds old SpareSays Stays spare new
PortStep {D} {J} {P} {L} w old (Counts polls) new = Finds old PollsSays Stays polls new

-- one call on a store: it is told with its answer, or memory was refused and it isn't
abbrev pub StoreStep : Option (List StoreCall) → StoreCall → Option (List StoreCall) → Type 0
StoreStep old (StoreAdmits file token answer) new = StoreTells old
    (StoreAdmits file token answer) answer new
StoreStep old (StoreFetches file token write answer) new = StoreTells old
    (StoreFetches file token write answer) answer new
StoreStep old (StorePuts errand answer) new = StoreTells old (StorePuts errand answer) answer new
StoreStep old (StoreRefreshes file token answer) new = StoreTells old
    (StoreRefreshes file token answer) answer new
StoreStep old (StoreUnlocks file token answer) new = StoreTells old
    (StoreUnlocks file token answer) answer new

-- the works that a yard took, with their documents, where it tells them: a work that it kept is put
-- behind the others
abbrev pub YardStep : {J : Type 0} → Option (List (ℕ × Work J)) → ℕ × Work J × Bool
    → Option (List (ℕ × Work J)) → Type 0
YardStep old (id, work, true) new = new ≡ option_map (λ works. works ++ (id, work) ∷ []) old
YardStep old (id, work, false) new = new ≡ old

-- what the outside tells
pub record Heard (D J P L : Type 0) : Type 0 where
  pub net : Option NetTold
  pub port : PortView (Parcel D L) (Mail P L)
  pub store : Option (List StoreCall)
  pub clock : Option (List ℕ)
  pub yard : Option (List (ℕ × Work J))

-- the outside was called for exactly these events, in order
pub record Hears {D J P L : Type 0} (w : Ways D J P) (carries : L → List LinkEvent)
    (before : Heard D J P L) (events : List (Happens D J P L))
    (after : Heard D J P L) : Type 0 where
  pub net : Run (NetStep carries) before.net (flat_map net_part events) after.net
  pub port : Run (PortStep w) before.port (flat_map port_part events) after.port
  pub store : Run StoreStep before.store (flat_map store_part events) after.store
  pub clock : Run TicksTo before.clock (flat_map clock_part events) after.clock
  pub yard : Run YardStep before.yard (flat_map yard_part events) after.yard
