-- Poll turns as moves, with what they wrote, and what they leave to do.
use Rattle.std.proofs.Common.{◌≡◌, ◌∙◌, ℕ, zero, suc, ◌+◌, ◌<◌, ◌≤◌, Bool, true, false, cond, ◌||◌, List, [], ◌∷◌, ◌++◌, length, length-append, length-drop, drop, nat_eq, nat_lt, inl, inr, refl, ap, sym, subst, arith, Option, None, Some}
use Rattle.std.specs.Prelude.{Result, Ok, Err, IfOk, IfErr}
use Rattle.std.specs.Result.{IsErrAnd}
use Rattle.std.proofs.lemmas.Result.{err_from_is_err_and}
use Rattle.cool_message.specs.Reading.{reading}
use Rattle.cool_message.specs.declared.message.ClientMessage.TheVariants.{TileProcessed}
use Rattle.document_laws.proofs.Acknowledged.{said_acknowledges, acknowledging_adds_nothing}
use Rattle.document_laws.specs.AtOnce.{acknowledges}
use Rattle.document_machine.specs.Held.{Held}
use Rattle.document_machine.specs.State.{Document}
use Rattle.document_machine.specs.Rank.{left_to_do}
use Rattle.kit_trait.specs.Rules.{Rules}
use Rattle.tile_key.specs.Places.{Place}
use Rattle.script_lines.specs.Records.{AddsPart}
use Rattle.script_lines.specs.declared.output.Stop.{Stop}
use Rattle.script_lines.specs.declared.output.Stop.TheVariants.{Sink}
use Rattle.script_run.specs.Play.{Stopped}
use Rattle.script_run.proofs.Moves.{adds_more, adds_nothing}
use Rattle.script_world.specs.House.{House, SaysAs, TakesOne, seated, TurnsDocument, PollTurn, IsHousedBy, IsHoused}
use Rattle.script_world.specs.Moved.{Came, MadeFrom, TurnWritten, IsAcknowledgement, AllAcknowledge, MadeTurns, TurnedTo, left_of}
use Rattle.script_world.specs.Seats.{Seats}
use Rattle.script_world.specs.World.{Seen, Move, Turn, Moves, Chain, RestsNow, turns, Begun}
use Rattle.script_world.specs.declared.event.Waiting.{Waiting}
use Rattle.script_world.specs.declared.event.Waiting.TheVariants.{Opened, Loads, Says, Gone}
use Rattle.script_world.proofs.Chains.{came_one, came_joined, chain_one, chain_joined, stopped_later, stopped_writing}
use Rattle.script_world.proofs.Housed.{Keeps, first_housed, found_document, works_answered}

some_wait : (event : Waiting) (rest : List Waiting) → nat_lt 0 (length (event ∷ rest)) ≡ true
some_wait event rest = grind arith

-- an event and a turn behind it, as a poll turn
pub event_turn_by : {C B S : Type 0} (rules : Rules C B) (cut : C → Place → S) (event : Waiting) (old mid new : House S) (here later out : List ℕ) (turned worked : Bool)
    → TakesOne rules cut event old here mid → TurnsDocument rules cut mid.seats mid.document later turned new.document → new.seats ≡ mid.seats → out ≡ here ++ later → worked ≡ true
    → (rest : List Waiting) → PollTurn rules cut (event ∷ rest) old out worked rest new
event_turn_by rules cut event old mid new here later out turned worked takes goes stays is works = λ rest. record {
  mid = mid;
  here = here;
  later = later;
  turned = turned;
  takes = (refl, takes);
  turns = goes;
  stays = stays;
  worked_is = works ∙ ap (λ (b : Bool). b || turned) (sym (some_wait event rest));
  is = is;
}

-- a turn where no event waits
pub bare_turn_by : {C B S : Type 0} (rules : Rules C B) (cut : C → Place → S) (waiting rest : List Waiting) (old new : House S) (out : List ℕ) (worked : Bool)
    → waiting ≡ [] → rest ≡ [] → new.seats ≡ old.seats → TurnsDocument rules cut old.seats old.document out worked new.document
    → PollTurn rules cut waiting old out worked rest new
bare_turn_by {C} {B} {S} rules cut waiting rest old new out worked none still stays goes =
    subst (λ (w : List Waiting). PollTurn rules cut w old out worked rest new) (sym none) (record {
      mid = old;
      here = [];
      later = out;
      turned = worked;
      takes = (still, refl, refl);
      turns = goes;
      stays = stays;
      worked_is = refl;
      is = refl;
    })

-- a queue that gave nothing is empty
pub none_left : {X : Type 0} (xs : List X) → (0 < length xs → ⊥) → xs ≡ []
none_left [] lacks = refl
none_left (x ∷ xs) lacks = absurd (lacks (omega arith))

-- what leaves no more, with a step left, is below while there is one
pub falls_busy : (busy : Bool) (n m : ℕ) → busy ≡ true → n ≤ m → n < m + cond busy 1 0
falls_busy true n m is le = omega (arith, le)
falls_busy false n m is le = absurd (cc)

-- what a test for nothing tells
none_is : (n : ℕ) → nat_eq n 0 ≡ true → n ≡ 0
none_is n is = grind arith

some_is : (n : ℕ) → nat_eq n 0 ≡ false → 0 < n
some_is zero is = absurd (cc)
some_is (suc n) is = omega arith

pub is_none : (n : ℕ) (b : Bool) → b ≡ nat_eq n 0 → b ≡ true → n ≡ 0
is_none n b is told = none_is n (sym is ∙ told)

pub not_none : (n : ℕ) (b : Bool) → b ≡ nat_eq n 0 → b ≡ false → 0 < n
not_none n b is told = some_is n (sym is ∙ told)

-- a list that is its own tail is empty
pub own_tail : {X : Type 0} (xs ys : List X) → xs ≡ ys → ys ≡ drop 1 xs → xs ≡ []
own_tail xs ys same tail =
    let size : length xs ≡ length (drop 1 xs) = ap length (same ∙ tail) in
    none_left xs (λ some. omega (arith, size, length-drop 1 xs, some))

-- from an answer to what follows from it
pub on_ok : {T E : Type 0} (r : Result T E) (P Q : T → Type 0) → ((x : T) → P x → Q x) → IfOk r P → IfOk r Q
on_ok (Ok x) P Q leads holds = leads x holds
on_ok (Err e) P Q leads holds = tt

pub on_err : {T E : Type 0} (r : Result T E) (P Q : E → Type 0) → ((x : E) → P x → Q x) → IfErr r P → IfErr r Q
on_err (Ok x) P Q leads holds = tt
on_err (Err e) P Q leads holds = leads e holds

-- what a call answers that hands on another's fault
pub handed_on : {T : Type 0} (result : Result T Stop) (stop : Stop) (P : Stop → Type 0) → IsErrAnd result (λ e. e ≡ stop) → P stop → IfErr result P
handed_on result stop P is holds =
    let p = err_from_is_err_and result is in
    subst (λ r. IfErr r P) (sym p.1) (subst P (sym p.2) holds)

-- nothing can't be cut
nothing_cut : (a b : Option (List ℕ)) → AddsPart a [] b → ⊥
nothing_cut a b part =
    let size : length {A = ℕ} [] ≡ length (part.part ++ part.behind) = ap length part.is in
    omega (arith, size, part.more, length-append part.part part.behind)

no_turn_made : {C B S : Type 0} (rules : Rules C B) (cut : C → Place → S) (seats : Seats) (document : Option (Held S)) (out : List ℕ) (turned : Bool) (new : Option (Held S)) → TurnsDocument rules cut seats document out turned new → turned ≡ false → out ≡ []
no_turn_made rules cut seats None out turned new goes lacks = goes.0
no_turn_made rules cut seats (Some d) out true new goes lacks = absurd (cc)
no_turn_made rules cut seats (Some d) out false new goes lacks = goes.0

idle_out : {C B S : Type 0} (rules : Rules C B) (cut : C → Place → S) (waiting : List Waiting) (old : House S) (out : List ℕ) (rest : List Waiting) (new : House S) → PollTurn rules cut waiting old out false rest new → out ≡ []
idle_out rules cut [] old out rest new turn =
    let lacks : turn.turned ≡ false = sym turn.worked_is in
    turn.is ∙ ap (λ (o : List ℕ). o ++ turn.later) turn.takes.1 ∙ no_turn_made rules cut turn.mid.seats turn.mid.document turn.later turn.turned new.document turn.turns lacks
idle_out rules cut (event ∷ events) old out rest new turn =
    let odd : false ≡ true = turn.worked_is ∙ ap (λ (b : Bool). b || turn.turned) (some_wait event events) in absurd (cc)

-- the sink failed while a turn's records were written
pub turn_cut : {C B S : Type 0} (rules : Rules C B) (cut : C → Place → S) (waiting : List Waiting) (old : House S) (out : List ℕ) (worked : Bool) (rest : List Waiting) (new : House S) (shown : List ℕ) (a b : Option (List ℕ)) (stop : Stop)
    → PollTurn rules cut waiting old out worked rest new → shown ≡ out → stop ≡ Sink → AddsPart a shown b
    → Stopped stop (MadeFrom (Moves rules cut) (record { waiting = waiting; house = old })) a b
turn_cut rules cut waiting old out true rest new shown a b stop turn same is part =
    stopped_writing (Moves rules cut) Turn (record { waiting = waiting; house = old }) out (record { waiting = rest; house = new }) a b stop
    turn is (subst (λ (o : List ℕ). AddsPart a o b) same part)
turn_cut rules cut waiting old out false rest new shown a b stop turn same is part =
    absurd (nothing_cut a b (subst (λ (o : List ℕ). AddsPart a o b) (same ∙ idle_out rules cut waiting old out rest new turn) part))

-- a turn that worked is one move; where it did nothing, all is as it was
first_same : {C B S : Type 0} (rules : Rules C B) (cut : C → Place → S) (seats : Seats) (document : Option (Held S)) (out : List ℕ) (new : Option (Held S)) (turned : Bool) → TurnsDocument rules cut seats document out turned new → turned ≡ false → new ≡ document
first_same rules cut seats None out new turned goes lacks = goes.2
first_same rules cut seats (Some d) out new true goes lacks = absurd (cc)
first_same rules cut seats (Some d) out new false goes lacks = goes.2

same_house : {S : Type 0} (a b : House S) → a.seats ≡ b.seats → a.document ≡ b.document → a ≡ b
same_house {S} a b seats document =
    ap (λ (s : Seats). record { seats = s; document = a.document }) seats ∙ ap (λ (d : Option (Held S)). record { seats = b.seats; document = d }) document

idle_same : {C B S : Type 0} (rules : Rules C B) (cut : C → Place → S) (waiting : List Waiting) (old : House S) (out : List ℕ) (rest : List Waiting) (new : House S) → PollTurn rules cut waiting old out false rest new → (rest ≡ waiting) × (waiting ≡ []) × (new ≡ old)
idle_same {C} {B} {S} rules cut [] old out rest new turn =
    let lacks : turn.turned ≡ false = sym turn.worked_is in
    let document : new.document ≡ turn.mid.document = first_same rules cut turn.mid.seats turn.mid.document turn.later new.document turn.turned turn.turns lacks in
    let same : new ≡ turn.mid = same_house new turn.mid turn.stays document in
    (turn.takes.0, refl, same ∙ turn.takes.2)
idle_same rules cut (event ∷ events) old out rest new turn =
    let odd : false ≡ true = turn.worked_is ∙ ap (λ (b : Bool). b || turn.turned) (some_wait event events) in absurd (cc)

rests_by : {C B S : Type 0} (rules : Rules C B) (cut : C → Place → S) (seats : Seats) (document : Option (Held S)) (out : List ℕ) (new : Option (Held S)) (turned : Bool) → TurnsDocument rules cut seats document out turned new → turned ≡ false → RestsNow rules new
rests_by rules cut seats None out new turned goes lacks = subst (RestsNow rules) (sym goes.2) tt
rests_by rules cut seats (Some d) out new true goes lacks = absurd (cc)
rests_by rules cut seats (Some d) out new false goes lacks = subst (RestsNow rules) (sym goes.2) goes.1

-- where a poll turn did nothing, the next would do nothing either
pub idle_rests : {C B S : Type 0} (rules : Rules C B) (cut : C → Place → S) (waiting : List Waiting) (old : House S) (worked : Bool) (rest : List Waiting) (new : House S) (b c : Option (List ℕ))
    → TurnWritten rules cut waiting old worked rest new b c → worked ≡ false → (rest ≡ []) × RestsNow rules new.document
idle_rests rules cut waiting old true rest new b c written lacks = absurd (cc)
idle_rests rules cut [] old false rest new b c written lacks =
    let turn = written.done in
    (turn.takes.0, rests_by rules cut turn.mid.seats turn.mid.document turn.later new.document turn.turned turn.turns (sym turn.worked_is))
idle_rests rules cut (event ∷ events) old false rest new b c written lacks =
    let turn = written.done in
    let odd : false ≡ true = turn.worked_is ∙ ap (λ (b : Bool). b || turn.turned) (some_wait event events) in absurd (cc)

pub turn_came : {C B S : Type 0} (rules : Rules C B) (cut : C → Place → S) (waiting : List Waiting) (old : House S) (worked : Bool) (rest : List Waiting) (new : House S) (b c : Option (List ℕ))
    → TurnWritten rules cut waiting old worked rest new b c → Came (Moves rules cut) (record { waiting = waiting; house = old }) (record { waiting = rest; house = new }) b c
turn_came rules cut waiting old true rest new b c written =
    came_one (Moves rules cut) Turn (record { waiting = waiting; house = old }) written.out (record { waiting = rest; house = new }) b c written.done written.added
turn_came {C} {B} {S} rules cut waiting old false rest new b c written =
    let same = idle_same rules cut waiting old written.out rest new written.done in
    let none : written.out ≡ [] = idle_out rules cut waiting old written.out rest new written.done in
    record {
      moves = [];
      out = written.out;
      chain = (none, ap (λ (w : List Waiting). record { waiting = w; house = new }) same.0 ∙ ap (λ (h : House S). record { waiting = waiting; house = h }) same.2);
      added = written.added;
    }

-- one turn more
pub turn_more : {C B S : Type 0} (rules : Rules C B) (cut : C → Place → S) (start : Seen S) (waiting : List Waiting) (old : House S) (worked : Bool) (rest : List Waiting) (new : House S) (a b c : Option (List ℕ))
    → Came (Moves rules cut) start (record { waiting = waiting; house = old }) a b → TurnWritten rules cut waiting old worked rest new b c
    → Came (Moves rules cut) start (record { waiting = rest; house = new }) a c
turn_more rules cut start waiting old worked rest new a b c first written =
    came_joined (Moves rules cut) start (record { waiting = waiting; house = old }) (record { waiting = rest; house = new }) a b c first (turn_came rules cut waiting old worked rest new b c written)

-- fewer events wait
pub turn_fewer : {C B S : Type 0} (rules : Rules C B) (cut : C → Place → S) (waiting : List Waiting) (old : House S) (worked : Bool) (rest : List Waiting) (new : House S) (b c : Option (List ℕ))
    → TurnWritten rules cut waiting old worked rest new b c → 0 < length waiting → length rest < length waiting
turn_fewer rules cut [] old worked rest new b c written some = absurd (omega (arith, some))
turn_fewer rules cut (event ∷ events) old worked rest new b c written some = let same : length rest ≡ length events = ap length written.done.takes.0 in omega (arith, same)

-- what a turn of the document leaves to do
pub document_left : {C B S : Type 0} (rules : Rules C B) (cut : C → Place → S) (seats : Seats) (old : Option (Held S)) (out : List ℕ) (worked : Bool) (new : Option (Held S))
    → IsHousedBy rules cut seats old → TurnsDocument rules cut seats old out worked new → left_of rules new + cond worked 1 0 ≤ left_of rules old
document_left rules cut seats None out worked new housed goes =
    let same : left_of rules new ≡ 0 = ap (left_of rules) goes.2 in
    let none : ◌≡◌ {A = ℕ} (cond worked 1 0) 0 = ap (λ (b : Bool). cond {A = ℕ} b 1 0) goes.1 in
    omega (arith, same, none)
document_left rules cut seats (Some old) out true new housed goes =
    let less : left_to_do rules goes.0.document < left_to_do rules old.document = (works_answered rules cut old goes.0 goes.1 goes.2 housed.kept).less in
    let same : left_of rules new ≡ left_to_do rules goes.0.document = ap (left_of rules) goes.4 in
    omega (arith, less, same)
document_left rules cut seats (Some old) out false new housed goes = let same : left_of rules new ≡ left_to_do rules old.document = ap (left_of rules) goes.2 in omega (arith, same)

-- where no event waits, a poll turn that works leaves less to do
pub bare_left : {C B S : Type 0} (rules : Rules C B) (cut : C → Place → S) (waiting : List Waiting) (old : House S) (worked : Bool) (rest : List Waiting) (new : House S) (b c : Option (List ℕ))
    → waiting ≡ [] → IsHoused rules cut old → TurnWritten rules cut waiting old worked rest new b c → (rest ≡ []) × (left_of rules new.document + cond worked 1 0 ≤ left_of rules old.document)
bare_left {C} {B} {S} rules cut [] old worked rest new b c none housed written =
    let turn = written.done in
    let mid : IsHoused rules cut turn.mid = subst (IsHoused rules cut) (sym turn.takes.2) housed in
    let less : left_of rules new.document + cond turn.turned 1 0 ≤ left_of rules turn.mid.document = document_left rules cut turn.mid.seats turn.mid.document turn.later turn.turned new.document mid turn.turns in
    let was : left_of rules turn.mid.document ≡ left_of rules old.document = ap (λ (h : House S). left_of rules h.document) turn.takes.2 in
    let same : ◌≡◌ {A = ℕ} (cond worked 1 0) (cond turn.turned 1 0) = ap (λ (b : Bool). cond {A = ℕ} b 1 0) turn.worked_is in
    (turn.takes.0, omega (arith, less, was, same))
bare_left rules cut (event ∷ events) old worked rest new b c none housed written = absurd (cc)

-- an acknowledgement never leaves more to do
said_left : {C B S : Type 0} (rules : Rules C B) (cut : C → Place → S) (old : House S) (link : ℕ) (text : List ℕ) (found : Option (Held S × ℕ)) (out : List ℕ) (new : House S) (wids : List ℕ)
    → seated old link ≡ found → reading text ≡ Ok (TileProcessed wids) → SaysAs rules cut old link text found out new → left_of rules new.document ≤ left_of rules old.document
said_left {C} {B} {S} rules cut old link text None out new wids is read says =
    let same : left_of rules new.document ≡ left_of rules old.document = ap (λ (h : House S). left_of rules h.document) says.1 in omega (arith, same)
said_left {C} {B} {S} rules cut old link text (Some seat) out new wids is read says =
    let d : Document S = seat.0.document in
    let acknowledged = said_acknowledges rules d seat.1 wids text says.1 says.0.document read says.2.0 in
    let less : left_to_do rules (acknowledges d seat.1 wids) ≤ left_to_do rules d = acknowledging_adds_nothing rules d seat.1 wids in
    let now : left_to_do rules says.0.document ≡ left_to_do rules (acknowledges d seat.1 wids) = ap (left_to_do rules) acknowledged.1 in
    let new_is : left_of rules new.document ≡ left_to_do rules says.0.document = ap (λ (h : House S). left_of rules h.document) says.3 in
    let was : left_of rules old.document ≡ left_to_do rules d = ap (left_of rules) (found_document old.document _ seat is).0 in
    omega (arith, less, now, new_is, was)

event_left : {C B S : Type 0} (rules : Rules C B) (cut : C → Place → S) (event : Waiting) (old : House S) (out : List ℕ) (new : House S)
    → IsAcknowledgement event → TakesOne rules cut event old out new → left_of rules new.document ≤ left_of rules old.document
event_left rules cut (Opened link) old out new acks takes = absurd acks
event_left rules cut (Loads link file writes) old out new acks takes = absurd acks
event_left rules cut (Gone link) old out new acks takes = absurd acks
event_left rules cut (Says link text) old out new acks takes = said_left rules cut old link text (seated old link) out new acks.0 refl acks.1 takes

pub acks_left : {C B S : Type 0} (rules : Rules C B) (cut : C → Place → S) (keeps : Keeps rules cut) (waiting : List Waiting) (old : House S) (worked : Bool) (rest : List Waiting) (new : House S) (b c : Option (List ℕ))
    → IsHoused rules cut old → AllAcknowledge waiting → TurnWritten rules cut waiting old worked rest new b c → AllAcknowledge rest × (left_of rules new.document ≤ left_of rules old.document)
acks_left rules cut keeps [] old worked rest new b c housed acks written =
    let less = bare_left rules cut [] old worked rest new b c refl housed written in
    (subst AllAcknowledge (sym less.0) tt, omega (arith, less.1))
acks_left rules cut keeps (event ∷ events) old worked rest new b c housed acks written =
    let turn = written.done in
    let mid : IsHoused rules cut turn.mid = first_housed rules cut keeps (event ∷ events) old turn.here rest turn.mid housed turn.takes in
    let first : left_of rules turn.mid.document ≤ left_of rules old.document = event_left rules cut event old turn.here turn.mid acks.0 turn.takes.1 in
    let later = document_left rules cut turn.mid.seats turn.mid.document turn.later turn.turned new.document mid turn.turns in
    (subst AllAcknowledge (sym turn.takes.0) acks.1, omega (arith, first, later))

append-nil-moves : (ms : List Move) → ms ++ [] ≡ ms
append-nil-moves [] = refl
append-nil-moves (m ∷ ms) = ap (λ (xs : List Move). m ∷ xs) (append-nil-moves ms)

-- the same where no event waits
pub bare_more : {C B S : Type 0} (rules : Rules C B) (cut : C → Place → S) (start : Seen S) (waiting : List Waiting) (old : House S) (worked : Bool) (rest : List Waiting) (new : House S) (a b c : Option (List ℕ))
    → waiting ≡ [] → rest ≡ [] → Came (Moves rules cut) start (record { waiting = []; house = old }) a b → TurnWritten rules cut waiting old worked rest new b c
    → Came (Moves rules cut) start (record { waiting = []; house = new }) a c
bare_more {C} {B} {S} rules cut start waiting old worked rest new a b c none still first written =
    subst (λ (w : List Waiting). Came (Moves rules cut) start (record { waiting = w; house = new }) a c) still
    (turn_more rules cut start waiting old worked rest new a b c (subst (λ (w : List Waiting). Came (Moves rules cut) start (record { waiting = w; house = old }) a b) (sym none) first) written)

pub bare_stopped : {C B S : Type 0} (rules : Rules C B) (cut : C → Place → S) (start : Seen S) (waiting : List Waiting) (old : House S) (a b c : Option (List ℕ)) (stop : Stop)
    → waiting ≡ [] → Came (Moves rules cut) start (record { waiting = []; house = old }) a b → Stopped stop (MadeFrom (Moves rules cut) (record { waiting = waiting; house = old })) b c
    → Stopped stop (MadeFrom (Moves rules cut) start) a c
bare_stopped {C} {B} {S} rules cut start waiting old a b c stop none first later =
    stopped_later (Moves rules cut) start (record { waiting = waiting; house = old }) a b c stop
    (subst (λ (w : List Waiting). Came (Moves rules cut) start (record { waiting = w; house = old }) a b) (sym none) first) later

-- so many turns and one more
turns_more : (n : ℕ) → turns (suc n) ≡ turns n ++ Turn ∷ []
turns_more zero = refl
turns_more (suc n) = ap (λ (ms : List Move). Turn ∷ ms) (turns_more n)

pub made_none : {C B S : Type 0} (rules : Rules C B) (cut : C → Place → S) (s : Seen S) (a : Option (List ℕ)) → MadeTurns rules cut 0 s s a a
made_none rules cut s a = record { out = []; chain = (refl, refl); added = adds_nothing a }

pub made_more : {C B S : Type 0} (rules : Rules C B) (cut : C → Place → S) (made : ℕ) (start : Seen S) (waiting : List Waiting) (old : House S) (worked : Bool) (rest : List Waiting) (new : House S) (a b c : Option (List ℕ))
    → worked ≡ true → MadeTurns rules cut made start (record { waiting = waiting; house = old }) a b → TurnWritten rules cut waiting old worked rest new b c
    → MadeTurns rules cut (suc made) start (record { waiting = rest; house = new }) a c
made_more rules cut made start waiting old false rest new a b c works first written = absurd (cc)
made_more {C} {B} {S} rules cut made start waiting old true rest new a b c works first written =
    let t : Seen S = record { waiting = rest; house = new } in
    let s : Seen S = record { waiting = waiting; house = old } in
    record {
      out = first.out ++ written.out;
      chain = subst (λ (ms : List Move). Chain (Moves rules cut) ms start (first.out ++ written.out) t) (sym (turns_more made))
          (chain_joined (Moves rules cut) start (turns made) first.out s (Turn ∷ []) written.out t first.chain (chain_one (Moves rules cut) Turn s written.out t written.done));
      added = adds_more a b c first.out written.out first.added written.added;
    }

-- all turns are made
pub made_all : {C B S : Type 0} (rules : Rules C B) (cut : C → Place → S) (made count : ℕ) (s t : Seen S) (a b : Option (List ℕ)) → made ≡ count → MadeTurns rules cut made s t a b → TurnedTo rules cut count s t a b
made_all rules cut made count s t a b is turned = record { out = turned.out; done = record { made = made; follows = turned.chain; all = inl is }; added = turned.added }

-- a turn did nothing
pub made_some : {C B S : Type 0} (rules : Rules C B) (cut : C → Place → S) (made count : ℕ) (start : Seen S) (waiting : List Waiting) (old : House S) (worked : Bool) (rest : List Waiting) (new : House S) (a b c : Option (List ℕ))
    → made < count → worked ≡ false → MadeTurns rules cut made start (record { waiting = waiting; house = old }) a b → TurnWritten rules cut waiting old worked rest new b c
    → TurnedTo rules cut count start (record { waiting = rest; house = new }) a c
made_some rules cut made count start waiting old true rest new a b c below idle first written = absurd (cc)
made_some {C} {B} {S} rules cut made count start waiting old false rest new a b c below idle first written =
    let same = idle_same rules cut waiting old written.out rest new written.done in
    let none : written.out ≡ [] = idle_out rules cut waiting old written.out rest new written.done in
    let t : Seen S = record { waiting = rest; house = new } in
    let s : Seen S = record { waiting = waiting; house = old } in
    let t_is : t ≡ s = ap (λ (w : List Waiting). record { waiting = w; house = new }) same.0 ∙ ap (λ (h : House S). record { waiting = waiting; house = h }) same.2 in
    record {
      out = first.out ++ written.out;
      done = record {
        made = made;
        follows = subst (λ (ms : List Move). Chain (Moves rules cut) ms start (first.out ++ written.out) t) (append-nil-moves (turns made))
            (chain_joined (Moves rules cut) start (turns made) first.out s [] written.out t first.chain (none, t_is));
        all = inr (below, idle_rests rules cut waiting old false rest new b c written refl);
      };
      added = adds_more a b c first.out written.out first.added written.added;
    }

pub made_stopped : {C B S : Type 0} (rules : Rules C B) (cut : C → Place → S) (made : ℕ) (start s : Seen S) (a b c : Option (List ℕ)) (stop : Stop)
    → MadeTurns rules cut made start s a b → Stopped stop (MadeFrom (Moves rules cut) s) b c → Stopped stop (MadeFrom (Moves rules cut) start) a c
made_stopped rules cut made start s a b c stop turned later =
    stopped_later (Moves rules cut) start s a b c stop (record { moves = turns made; out = turned.out; chain = turned.chain; added = turned.added }) later

pub made_further : {C B S : Type 0} (rules : Rules C B) (cut : C → Place → S) (made : ℕ) (start : Seen S) (waiting : List Waiting) (old : House S) (worked : Bool) (rest : List Waiting) (new : House S) (a b c : Option (List ℕ))
    → worked ≡ true → MadeTurns rules cut made start (record { waiting = waiting; house = old }) a b → TurnWritten rules cut waiting old worked rest new b c
    → MadeTurns rules cut (made + 1) start (record { waiting = rest; house = new }) a c
made_further {C} {B} {S} rules cut made start waiting old worked rest new a b c works first written =
    let one : suc made ≡ made + 1 = omega arith in
    subst (λ (n : ℕ). MadeTurns rules cut n start (record { waiting = rest; house = new }) a c) one (made_more rules cut made start waiting old worked rest new a b c works first written)

-- one turn more of acknowledgements
pub acks_more : {C B S : Type 0} (rules : Rules C B) (cut : C → Place → S) (keeps : Keeps rules cut) (all waiting : List Waiting) (start : ℕ) (old : House S) (worked : Bool) (rest : List Waiting) (new : House S) (b c : Option (List ℕ))
    → IsHoused rules cut old → (AllAcknowledge all → AllAcknowledge waiting × (left_of rules old.document ≤ start)) → TurnWritten rules cut waiting old worked rest new b c
    → AllAcknowledge all → AllAcknowledge rest × (left_of rules new.document ≤ start)
acks_more rules cut keeps all waiting start old worked rest new b c housed so_far written acks =
    let was = so_far acks in
    let now = acks_left rules cut keeps waiting old worked rest new b c housed was.0 written in
    (now.0, omega (arith, was.1, now.1))

-- some moves, as what was begun
pub begun_of : {C B S : Type 0} (rules : Rules C B) (cut : C → Place → S) (s : Seen S) (a b : Option (List ℕ)) (stop : Stop)
    → Stopped stop (MadeFrom (Moves rules cut) s) a b → Stopped stop (Begun rules cut s) a b
begun_of rules cut s a b stop x = record {
  made = x.made;
  part = x.part;
  is_made = record { moves = x.is_made.0; mid = x.is_made.1; follows = x.is_made.2 };
  cut = x.cut;
  added = x.added;
}
