-- What a poll does for the links of its lobby: answers, and loads.
use Rattle.std.specs.Prelude.{ℕ, Bool, true, false, ◌&&◌, not, ◌==◌, List, [], ◌∷◌, map, Option}
use Rattle.std.specs.Prelude.{None, Some, Result, Ok, Err, codes, if◌then◌else◌}
use Rattle.cool_frame.specs.Frames.{frame_bytes}
use Rattle.cool_frame.specs.declared.frame.Frame.TheVariants.{Server, Error}
use Rattle.cool_frame.specs.declared.kind.ErrorKind.TheVariants.{BadMessage, NotLoaded, BadUrl}
use Rattle.cool_frame.specs.declared.kind.ErrorKind.TheVariants.{LoadFailed, DocsFull, BookFull}
use Rattle.cool_frame.specs.declared.kind.ErrorKind.TheVariants.{MailFull, DocGone, BadFile}
use Rattle.cool_frame.specs.declared.kind.ErrorKind.TheVariants.{ViewsFull}
use Rattle.cool_message.specs.Command.{command_name}
use Rattle.cool_message.specs.Reading.{reading}
use Rattle.cool_message.specs.declared.fault.MessageFault.{MessageFault}
use Rattle.cool_message.specs.declared.message.ClientMessage.{ClientMessage}
use Rattle.cool_message.specs.declared.message.ClientMessage.TheVariants.{CoolClient, Load}
use Rattle.document_machine.specs.declared.rights.Rights.{Rights}
use Rattle.hall_machine.specs.declared.words.CloseFault.{CloseFault}
use Rattle.hall_machine.specs.declared.words.Entered.{Entered}
use Rattle.hall_machine.specs.declared.words.Entered.TheVariants.{There, Fresh}
use Rattle.hall_machine.specs.declared.words.HallFault.{HallFault}
use Rattle.hall_machine.specs.declared.words.HallFault.TheVariants as fault
use Rattle.net_traits.specs.declared.nets.Given.{Given}
use Rattle.net_traits.specs.declared.nets.Given.TheVariants.{Sent, Failed}
use Rattle.outside.specs.Stores.{Admits, Fetches, Unlocks, code_of}
use Rattle.outside.specs.declared.errands.Admission.{Admission}
use Rattle.outside.specs.declared.faults.StoreFault.{StoreFault}
use Rattle.outside.specs.declared.faults.StoreFault.TheVariants.{Memory as NoMemory}
use Rattle.poll_machine.specs.Words.{Event, Outs, Ways}
use Rattle.poll_machine.specs.Agenda.{ViewLink, Lock, HeldDocument, Here, Joins as JoinsHere, Did}
use Rattle.poll_machine.specs.Agenda.{Releases, Adopts as AdoptsHere}
use Rattle.poll_machine.specs.House.{Refusal, Slot, Live, Refused, Mail, Join, PortCall, Enters}
use Rattle.poll_machine.specs.House.{Posts, Closes, Advises, SlotAct, At, Opens, Keeps, GoesTo}
use Rattle.poll_machine.specs.House.{parcel_of, Happens, Calls, Reads, OfDoc, Shows, Frees, Posted}
use Rattle.poll_machine.specs.House.{Adopted, House, slot_of, is_free}
use Rattle.poll_machine.specs.Plans.{Plan, Rests, Never, Makes, Then, Learns, Looks, Until, each}
use Rattle.poll_machine.specs.Plans.{choose}

-- the bytes of a refusal
abbrev pub refusal_bytes : Refusal → List ℕ
refusal_bytes r = frame_bytes (Error (codes "load") r.kind r.code)

-- a link of the lobby is given a frame; where that fails, it is released
abbrev pub freed_where : {D J P L : Type 0} → ℕ → Given → Plan (House D J P L) (Happens D J P L)
freed_where link Sent = Rests
freed_where {D} {J} {P} {L} link Failed = Learns (λ (gave : Option L). Makes (Frees link gave))

abbrev pub shows : {D J P L : Type 0} → ℕ → List ℕ → Plan (House D J P L) (Happens D J P L)
shows link frame = Learns
    (λ (given : Given). Then (Makes (Shows link frame given)) (freed_where link given))

abbrev pub refuses : {D J P L : Type 0} → ℕ → Refusal → Plan (House D J P L) (Happens D J P L)
refuses link refusal = shows link (refusal_bytes refusal)

-- whether an event is something that is done to this document while it is held
abbrev pub is_at : {D J P L : Type 0} → ℕ → Happens D J P L → Bool
is_at id (OfDoc x moment (At here)) = x == id
is_at id _ = false

-- all that is owed to a document is done
abbrev pub settles : {D J P L : Type 0} → ℕ → Plan (House D J P L) (Happens D J P L)
settles id = Until (is_at id) (λ h. is_free (slot_of id h.docs))

-- this happens to a held document now, and then all that is owed for it
abbrev pub here_now : {D J P L : Type 0} → ℕ → Here J P L → Plan (House D J P L) (Happens D J P L)
here_now id here = Looks (λ h. Makes (OfDoc id h.moment (At here)))

abbrev pub happens_to : {D J P L : Type 0} → ℕ → (Outs J → Here J P L)
    → Plan (House D J P L) (Happens D J P L)
happens_to {D} {J} {P} {L} id what = Learns
    (λ (outs : Outs J). Then (here_now id (what outs)) (settles id))

-- a link of the lobby joins a held document; where the document has all the views that it may have,
-- it is refused
abbrev pub joins : {D J P L : Type 0} → Ways D J P → ℕ → ℕ → Rights → HeldDocument D J P L
    → Plan (House D J P L) (Happens D J P L)
joins w id link rights h =
    choose (w.is_full h.doc) (refuses link (record { kind = ViewsFull; code = None }))
    (happens_to id (λ outs. JoinsHere link rights outs))

-- every packed link of a document is adopted, in order
abbrev pub adopts : {D J P L : Type 0} → ℕ → HeldDocument D J P L
    → Plan (House D J P L) (Happens D J P L)
adopts id h = each (λ p. Learns (λ (link : ℕ). here_now id (AdoptsHere p.0 p.1 link))) h.packed

-- where a document is held under this id, this is done for it, else nothing
abbrev pub live : {D J P L : Type 0}
    → (HeldDocument D J P L → Plan (House D J P L) (Happens D J P L)) → Option (Slot D J P L)
    → Plan (House D J P L) (Happens D J P L)
live plan (Some (Live h)) = plan h
live plan (Some (Refused file refusal)) = Rests
live plan None = Rests

abbrev pub for_live : {D J P L : Type 0} → ℕ
    → (HeldDocument D J P L → Plan (House D J P L) (Happens D J P L))
    → Plan (House D J P L) (Happens D J P L)
for_live id plan = Looks (λ h. live plan (slot_of id h.docs))

-- a document departs to a poll: the link of each of its views is released, in order, and a view
-- whose link the net had no longer leaves; the parcel is given to the hall; where the hall refuses,
-- all packed links are adopted again
abbrev pub adopted_where : {D J P L : Type 0} → ℕ → Result (Unit {0}) HallFault
    → Plan (House D J P L) (Happens D J P L)
adopted_where id (Ok u) = Rests
adopted_where id (Err why) = for_live id (adopts id)

abbrev pub goes : {D J P L : Type 0} → ℕ → ℕ → HeldDocument D J P L
    → Plan (House D J P L) (Happens D J P L)
goes id to h =
    Learns (λ (answer : Result (Unit {0}) HallFault).
    Then (Looks (λ now. Makes (OfDoc id now.moment (GoesTo to (parcel_of h) answer))))
    (adopted_where id answer))

abbrev pub departs : {D J P L : Type 0} → ℕ → ℕ → HeldDocument D J P L
    → Plan (House D J P L) (Happens D J P L)
departs {D} {J} {P} {L} id to h =
    Then (each (λ s. Learns
    (λ (gave : Option L). Then (here_now id (Releases s.view s.link gave))
    (settles id))) h.views)
    (for_live id (goes id to))

-- a fresh document of a poll that spreads departs to the poll that the hall names, where that is
-- another
abbrev pub spreads : {D J P L : Type 0} → ℕ → Plan (House D J P L) (Happens D J P L)
spreads id =
    Looks (λ h. choose h.spread
    (Learns (λ (poll : ℕ). Then (Makes (Calls (Advises poll)))
    (choose (poll == h.me) Rests (for_live id (departs id poll)))))
    Rests)

-- a fresh document whose load is refused is closed in the hall; where the hall refuses that, it is
-- held as refused. The link gets the answer
abbrev pub closed_where : {D J P L : Type 0} → ℕ → List ℕ → Refusal → Result (Unit {0}) CloseFault
    → Plan (House D J P L) (Happens D J P L)
closed_where id file refusal (Ok u) = Makes (Calls (Closes id (Ok tt)))
closed_where id file refusal (Err why) = Looks
    (λ h. Makes (OfDoc id h.moment (Keeps file refusal why)))

abbrev pub gives_up : {D J P L : Type 0} → ℕ → ℕ → List ℕ → Refusal
    → Plan (House D J P L) (Happens D J P L)
gives_up link id file refusal =
    Then (Learns (λ (answer : Result (Unit {0}) CloseFault). closed_where id file refusal answer))
    (refuses link refusal)

-- after a file that the kit refuses its lock is released, where it was locked, whatever the answer
abbrev pub unlocks_where : {D J P L : Type 0} → Bool → List ℕ → List ℕ
    → Plan (House D J P L) (Happens D J P L)
unlocks_where true file token = Learns
    (λ (answer : Result (Unit {0}) StoreFault). Makes (Reads (Unlocks file token answer)))
unlocks_where false file token = Rests

-- the lock of a file that was locked when it was fetched
abbrev pub lock_where : Bool → List ℕ → ℕ → Option Lock
lock_where true token moment = Some (record { token = token; moment = moment })
lock_where false token moment = None

-- the file was read: it is opened, the view joins, and the document may be spread; or the kit
-- refuses it
abbrev pub opens : {D J P L : Type 0} → Ways D J P → ℕ → ℕ → List ℕ → List ℕ → Rights → Option D
    → Plan (House D J P L) (Happens D J P L)
opens w link id file bytes rights None =
    Then (unlocks_where rights.can_write file rights.token)
    (gives_up link id file (record { kind = BadFile; code = None }))
opens w link id file bytes rights (Some doc) =
    Then (Looks (λ h. Makes
    (OfDoc id h.moment (Opens file bytes (lock_where rights.can_write rights.token h.moment)))))
    (Then (for_live id (joins w id link rights)) (spreads id))

-- a fault of the store refuses the load with its code; out of memory, the whole call ends, so that
-- answer goes on in no way
abbrev pub failed : {D J P L : Type 0} → (Refusal → Plan (House D J P L) (Happens D J P L))
    → StoreFault → Plan (House D J P L) (Happens D J P L)
failed plan NoMemory = Never
failed plan why = plan (record { kind = LoadFailed; code = Some (code_of why) })

abbrev pub fetched : {D J P L : Type 0} → Ways D J P → ℕ → ℕ → List ℕ → Rights
    → Result (List ℕ) StoreFault → Plan (House D J P L) (Happens D J P L)
fetched w link id file rights (Err why) = failed (gives_up link id file) why
fetched w link id file rights (Ok bytes) = opens w link id file bytes rights
    (w.opening file bytes)

-- a document that another poll holds: the link is released and posted; where it can't be, it is
-- adopted again and refused
abbrev pub post_refusal : HallFault → Option Refusal
post_refusal fault.MailFull = Some (record { kind = MailFull; code = None })
post_refusal fault.BookFull = Some (record { kind = BookFull; code = None })
post_refusal fault.Gone = Some (record { kind = DocGone; code = None })
post_refusal _ = None

abbrev pub refuses_where : {D J P L : Type 0} → ℕ → Option Refusal
    → Plan (House D J P L) (Happens D J P L)
refuses_where link (Some refusal) = refuses link refusal
refuses_where link None = Never

abbrev pub comes_back : {D J P L : Type 0} → L → Result (Unit {0}) HallFault
    → Plan (House D J P L) (Happens D J P L)
comes_back carried (Ok u) = Rests
comes_back carried (Err why) =
    Learns (λ (link : ℕ). Then (Makes (Adopted carried link))
    (refuses_where link (post_refusal why)))

abbrev pub posts : {D J P L : Type 0} → ℕ → ℕ → Rights → Option L
    → Plan (House D J P L) (Happens D J P L)
posts link id rights None = Rests
posts link id rights (Some carried) =
    Learns (λ (answer : Result (Unit {0}) HallFault).
    Then (Makes (Calls (Posts id (Join link carried rights) false answer)))
    (comes_back carried answer))

-- a document that is open: the view joins where it is held here, the answer of a refused one is
-- given again, and where another poll holds it the link is posted there
abbrev pub there : {D J P L : Type 0} → Ways D J P → ℕ → ℕ → Rights → Option (Slot D J P L)
    → Plan (House D J P L) (Happens D J P L)
there w link id rights (Some (Live h)) = joins w id link rights h
there w link id rights (Some (Refused file refusal)) = refuses link refusal
there {D} {J} {P} {L} w link id rights None =
    Learns (λ (gave : Option L). Then (Makes (Posted link gave)) (posts link id rights gave))

-- what the hall answers to the file
abbrev pub entered : {D J P L : Type 0} → Ways D J P → ℕ → List ℕ → Rights
    → Result Entered HallFault → Plan (House D J P L) (Happens D J P L)
entered w link file rights (Ok (There d)) = Looks
    (λ h. there w link d.0 rights (slot_of d.0 h.docs))
entered w link file rights (Ok (Fresh d)) =
    Learns (λ (answer : Result (List ℕ) StoreFault).
    Then (Makes (Reads (Fetches file rights.token rights.can_write answer)))
    (fetched w link d.0 file rights answer))
entered w link file rights (Err fault.HallFull) = refuses link
    (record { kind = DocsFull; code = None })
entered w link file rights (Err fault.BookFull) = refuses link
    (record { kind = BookFull; code = None })
entered w link file rights (Err _) = Never

abbrev pub admitted : {D J P L : Type 0} → Ways D J P → ℕ → List ℕ → List ℕ
    → Result Admission StoreFault → Plan (House D J P L) (Happens D J P L)
admitted w link file token (Err why) = failed (refuses link) why
admitted w link file token (Ok admission) =
    Learns (λ (answer : Result Entered HallFault).
    Then (Makes (Calls (Enters file answer)))
    (entered w link file (record { can_write = admission.can_write; token = token }) answer))

-- a load: the address is read, the store is asked, then the hall, then the store for the file
abbrev pub loads : {D J P L : Type 0} → Ways D J P → ℕ → Option (List ℕ × List ℕ)
    → Plan (House D J P L) (Happens D J P L)
loads w link None = refuses link (record { kind = BadUrl; code = None })
loads w link (Some p) =
    Learns (λ (answer : Result Admission StoreFault).
    Then (Makes (Reads (Admits p.0 p.1 answer))) (admitted w link p.0 p.1 answer))

-- a message of a link of the lobby: the greeting is answered, a load is begun, and anything else is
-- refused
abbrev pub hears : {D J P L : Type 0} → Ways D J P → ℕ → List ℕ → Result ClientMessage MessageFault
    → Plan (House D J P L) (Happens D J P L)
hears w link text (Err why) = shows link (frame_bytes (Error (command_name text) BadMessage None))
hears w link text (Ok CoolClient) = shows link (frame_bytes Server)
hears w link text (Ok (Load url)) = loads w link (w.address url)
hears w link text (Ok _) = shows link (frame_bytes (Error (command_name text) NotLoaded None))
