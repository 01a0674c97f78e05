-- A work is offered, or done at once, and its answer is taken.
use Rattle.std.proofs.Common.{◌≡◌, ℕ, Bool, true, false, List, [], ◌∷◌, ◌++◌, map, Option, None}
use Rattle.std.proofs.Common.{Some, Result, Ok, Err, inl, inr, option_and_then, refl, ap, sym}
use Rattle.std.proofs.Common.{subst, ◌∙◌, ◌+◌}
use Rattle.std.proofs.Common.{add_assoc, zero-add, IsErr, IfOk, MatchResult}
use Rattle.std.specs.Option.{MatchOption, option_map}
use Rattle.std.proofs.lemmas.List.{map-append, append-nil}
use Rattle.cool_base.specs.declared.ids.DocId.{DocId}
use Rattle.cool_base.specs.declared.ids.Ticket.{Ticket}
use Rattle.cool_base.specs.declared.want.Memory.{Memory}
use Rattle.cool_base.specs.declared.ids.ViewId.{ViewId}
use Rattle.cool_frame.specs.Frames.{frame_bytes}
use Rattle.cool_frame.specs.declared.frame.Frame.{Frame}
use Rattle.broker_core.specs.Stored.{lock_token}
use Rattle.document_machine.specs.Event.{Painted, PutAnswered}
use Rattle.document_machine.specs.Goes.{Goes}
use Rattle.document_machine.specs.Held.{Held}
use Rattle.document_machine.specs.Outputs.{frames_only}
use Rattle.document_machine.specs.Saves.{ending_frames, receipt_of}
use Rattle.document_machine.specs.State.{Document, Job, find_job}
use Rattle.document_machine.specs.Step.{Paints as DocPaints, tiles_for}
use Rattle.document_machine.specs.declared.outs.Outs.{Outs as Given}
use Rattle.kit_trait.specs.Rules.{Rules}
use Rattle.kit_trait.specs.declared.jobs.PaintJob.{PaintJob}
use Rattle.net_traits.specs.Nets.{NetTold, LinkEvent}
use Rattle.outside.specs.Stores.{StoreCall, Puts as StorePuts, Tells as StoreTells}
use Rattle.outside.specs.declared.errands.Errand.{Errand}
use Rattle.outside.specs.declared.errands.Receipt.{Receipt}
use Rattle.outside.specs.declared.faults.StoreFault.{StoreFault}
use Rattle.poll_hall.specs.Ports.{PortView, Finds, Stays}
use Rattle.poll_hall.specs.Says.{SpareSays}
use Rattle.load_address.specs.declared.served.Served.{Served}
use Rattle.poll_instance.specs.Instance.{Painting, broker_lock, given_out, ways}
use Rattle.poll_machine.specs.Words.{Ways, Outs, Answer, PaintDone, PutDone, event_of, Paint, Put}
use Rattle.poll_machine.specs.Words.{Work as PollWork}
use Rattle.poll_machine.specs.Agenda.{HeldDocument, Todo, Give, Offer, Hand, Do, Take, Asks}
use Rattle.poll_machine.specs.Agenda.{Offers, Paints, Puts, Takes, lock_after, todo_of}
use Rattle.poll_machine.specs.House.{Parcel, Mail}
use Rattle.poll_machine.specs.Told.{Heard}
use Rattle.save_core.specs.Saving.{answers}
use Rattle.tile_key.specs.Places.{Place}
use Rattle.yard_traits.specs.Yards.{TookOne}
use Rattle.yard_traits.specs.declared.works.Work.{Work}
use Rattle.poll_documents.specs.Outside.{outside, with_store, work_in, works_told, to_do}
use Rattle.poll_documents.specs.Settling.{Passes, Stops, Settles, owing, give_of}
use Rattle.poll_documents.proofs.Settling.{passes_more, stops_more, stops_part, passes_framed}

-- the works that a yard took, with one more
took_more : {S : Type 0} (took : Option (List (DocId × Work S))) (doc : DocId) (work : Work S)
    → works_told (option_map (λ works. works ++ (doc, work) ∷ []) took)
    ≡ option_map (λ works. works ++ (doc.0, work_in work) ∷ []) (works_told took)
took_more None doc work = refl
took_more (Some works) doc work =
    ap (λ all. Some all) (map-append (λ p. (p.0.0, work_in p.1)) works ((doc, work) ∷ []))

-- there is no room to spare
pub no_room : {D S L : Type 0} (w : Ways D (PaintJob S) (Painting S)) (carries : L → List LinkEvent)
    (id moment : ℕ) (owned : HeldDocument D (PaintJob S) (Painting S) L) (work : Work S)
    (net : Option NetTold) (was now : PortView (Parcel D L) (Mail (Painting S) L))
    (store : Option (List StoreCall)) (clock : Option (List ℕ))
    (took : Option (List (DocId × Work S))) (spare : Bool)
    → spare ≡ false → Finds was SpareSays Stays spare now
    → Passes w carries id moment owned (Offer (work_in work) ∷ [])
    (outside net was store clock took) 0 owned (to_do (Some work))
    (outside net now store clock took)
no_room w carries id moment owned work net was now store clock took true is asked = cc
no_room w carries id moment owned work net was now store clock took false is asked = record {
  heres = Asks false ∷ [];
  run = λ rest. (
    owing owned (Do (work_in work) ∷ rest),
    (rest, work_in work, refl, refl),
    refl,
  );
  heard = record { net = refl; port = (now, asked, refl); store = refl; clock = refl; yard = refl };
  lobby = λ links. ((refl, refl), tt);
  idle = refl;
  counted = refl;
}

-- the yard takes the work, or gives it back
pub room_found : {D S L : Type 0} (w : Ways D (PaintJob S) (Painting S))
    (carries : L → List LinkEvent) (doc : DocId) (moment : ℕ)
    (owned : HeldDocument D (PaintJob S) (Painting S) L) (work : Work S)
    (net : Option NetTold) (was now : PortView (Parcel D L) (Mail (Painting S) L))
    (store : Option (List StoreCall)) (clock : Option (List ℕ))
    (took taken : Option (List (DocId × Work S))) (spare : Bool) (back : Option (Work S))
    → spare ≡ true → Finds was SpareSays Stays spare now
    → MatchOption back (TookOne took doc work taken)
    (λ given. (given ≡ work) × (taken ≡ took))
    → Passes w carries doc.0 moment owned (Offer (work_in work) ∷ [])
    (outside net was store clock took) 0 owned (to_do back) (outside net now store clock taken)
room_found w carries doc moment owned work net was now store clock took taken false back is asked
    gave = cc
room_found w carries doc moment owned work net was now store clock took taken true None is asked
    gave = record {
      heres = Asks true ∷ Offers (work_in work) true ∷ [];
      run = λ rest. (
        owing owned (Hand (work_in work) ∷ rest),
        (rest, work_in work, refl, refl),
        (owing owned rest, (rest, refl, refl), refl),
      );
      heard = record {
        net = refl;
        port = (now, asked, refl);
        store = refl;
        clock = refl;
        yard = (
          works_told taken,
          ap (λ works. works_told works) gave ∙ took_more took doc work,
          refl,
        );
      };
      lobby = λ links. ((refl, refl), ((refl, refl), tt));
      idle = refl;
      counted = refl;
    }
room_found {D} {S} {L} w carries doc moment owned work net was now store clock took taken true
    (Some given) is asked (same, stays) =
    subst
    (λ (back : Work S). Passes w carries doc.0 moment owned (Offer (work_in work) ∷ [])
    (outside net was store clock took) 0 owned (to_do (Some back))
    (outside net now store clock taken))
    (sym same)
    (record {
      heres = Asks true ∷ Offers (work_in work) false ∷ [];
      run = λ rest. (
        owing owned (Hand (work_in work) ∷ rest),
        (rest, work_in work, refl, refl),
        (owing owned (Do (work_in work) ∷ rest), (rest, refl, refl), refl),
      );
      heard = record {
        net = refl;
        port = (now, asked, refl);
        store = refl;
        clock = refl;
        yard = (works_told taken, ap (λ works. works_told works) stays, refl);
      };
      lobby = λ links. ((refl, refl), ((refl, refl), tt));
      idle = refl;
      counted = refl;
    })

-- a job is painted
pub passes_painted : {D J P L : Type 0} (w : Ways D J P) (carries : L → List LinkEvent)
    (id moment : ℕ) (owned : HeldDocument D J P L) (job : J) (result : P) (s : Heard D J P L)
    → result ≡ w.paints job
    → Passes w carries id moment owned (Do (Paint job) ∷ []) s 0 owned
    (Take (PaintDone result) ∷ []) s
passes_painted {D} {J} {P} {L} w carries id moment owned job result s is =
    subst
    (λ (done : P). Passes w carries id moment owned (Do (Paint job) ∷ []) s 0 owned
    (Take (PaintDone done) ∷ []) s)
    (sym is)
    (record {
      heres = Paints job ∷ [];
      run = λ rest. (
        owing owned (Take (PaintDone (w.paints job)) ∷ rest),
        (rest, refl, refl),
        refl,
      );
      heard = record { net = refl; port = refl; store = refl; clock = refl; yard = refl };
      lobby = λ links. ((refl, refl), tt);
      idle = refl;
      counted = refl;
    })

-- a content is stored
pub passes_put : {D J P L : Type 0} (w : Ways D J P) (carries : L → List LinkEvent)
    (id moment : ℕ) (owned : HeldDocument D J P L) (errand : Errand)
    (answer : Result Receipt StoreFault) (s : Heard D J P L) (was now : Option (List StoreCall))
    → StoreTells was (StorePuts errand answer) answer now
    → Passes w carries id moment owned (Do (Put errand) ∷ []) (with_store s was) 0 owned
    (Take (PutDone errand.ticket.0 answer) ∷ []) (with_store s now)
passes_put w carries id moment owned errand answer s was now told = record {
  heres = Puts errand answer ∷ [];
  run = λ rest. (
    owing owned (Take (PutDone errand.ticket.0 answer) ∷ rest),
    (rest, refl, refl),
    refl,
  );
  heard = record { net = refl; port = refl; store = (now, told, refl); clock = refl; yard = refl };
  lobby = λ links. ((refl, refl), tt);
  idle = refl;
  counted = refl;
}

-- the answer is taken
pub passes_taken : {D J P L : Type 0} (w : Ways D J P) (carries : L → List LinkEvent)
    (id moment : ℕ) (old new : HeldDocument D J P L) (answer : Answer P) (outs : Outs J)
    (s : Heard D J P L)
    → w.Steps old.doc (event_of answer) outs new.doc
    → new ≡ record old {
      doc = new.doc;
      lock = lock_after w moment old.doc (event_of answer) old.lock;
    }
    → Passes w carries id moment old (Take answer ∷ []) s 0 new (todo_of outs) s
passes_taken {D} {J} {P} {L} w carries id moment old new answer outs s step is = record {
  heres = Takes answer outs ∷ [];
  run = λ rest. (
    owing new (todo_of outs ++ rest),
    (
      rest,
      new.doc,
      refl,
      step,
      ap (λ (h : HeldDocument D J P L). owing h (todo_of outs ++ rest)) is,
    ),
    refl,
  );
  heard = record { net = refl; port = refl; store = refl; clock = refl; yard = refl };
  lobby = λ links. ((refl, refl), tt);
  idle = refl;
  counted = refl;
}

-- the frames of a broker's event, as they are owed
gives_of : {J P : Type 0} (frames : List (ViewId × Frame))
    → map (give_of {J = J} {P = P}) frames
    ≡ map (λ (p : ℕ × List ℕ). Give p.0 p.1)
    (map (λ (p : ViewId × Frame). (p.0.0, frame_bytes p.1)) frames)
gives_of [] = refl
gives_of (frame ∷ frames) = ap (λ rest. give_of frame ∷ rest) (gives_of frames)

-- a thing whose work is to be offered
abbrev pub offer_of : {A J P : Type 0} → (A → PollWork J) → A → Todo J P
offer_of work thing = Offer (work thing)

-- the works of a broker's event, as they are owed
offers_of : {A J P : Type 0} (work : A → PollWork J) (things : List A)
    → map (offer_of {J = J} {P = P} work) things
    ≡ map (λ given. Offer given) (map work things)
offers_of work [] = refl
offers_of work (thing ∷ things) =
    ap (λ rest. Offer (work thing) ∷ rest) (offers_of work things)

-- all that is owed for a broker's event: its frames, its jobs and its errands
pub owed_in_parts : {S P : Type 0} (given : Given S)
    → todo_of {P = P} (given_out given)
    ≡ map give_of given.frames ++ (map (λ job. Offer (Paint job)) given.jobs
    ++ map (λ errand. Offer (Put errand)) given.errands)
owed_in_parts {S} {P} given =
    sym
    (ap (λ (front : List (Todo (PaintJob S) P)). front
    ++ (map (λ job. Offer (Paint job)) given.jobs
    ++ map (λ errand. Offer (Put errand)) given.errands)) (gives_of given.frames)
    ∙ ap (λ (back : List (Todo (PaintJob S) P)). map (λ (p : ℕ × List ℕ). Give p.0 p.1)
    (map (λ (p : ViewId × Frame). (p.0.0, frame_bytes p.1)) given.frames) ++ back)
    (ap (λ (front : List (Todo (PaintJob S) P)). front
    ++ map (λ errand. Offer (Put errand)) given.errands)
    (offers_of (λ job. Paint job) given.jobs)
    ∙ ap (λ (back : List (Todo (PaintJob S) P)). map (λ work. Offer work)
    (map (λ job. Paint job) given.jobs) ++ back) (offers_of (λ errand. Put errand) given.errands)
    ∙ sym
    (map-append (λ work. Offer work) (map (λ job. Paint job) given.jobs)
    (map (λ errand. Put errand) given.errands))))

-- where it gave out frames alone
pub owed_frames : {S P : Type 0} (given : Given S)
    → given ≡ frames_only given.frames
    → todo_of {P = P} (given_out given) ≡ map give_of given.frames
owed_frames {S} {P} given alone =
    ap (λ (outs : Given S). todo_of {P = P} (given_out outs)) alone
    ∙ owed_in_parts (frames_only given.frames) ∙ append-nil (map give_of given.frames)

-- a painted result and a store's answer give out frames alone
only_frames : {S : Type 0} (outs : Given S) (frames : List (ViewId × Frame))
    → outs ≡ frames_only frames → outs ≡ frames_only outs.frames
only_frames {S} outs frames is =
    subst (λ (given : Given S). given ≡ frames_only given.frames) (sym is) refl

of_job : {C B S : Type 0} (rules : Rules C B) (old : Document S) (ticket : ℕ) (scene : S)
    (outs : Given S) (new : Document S) (job : Option (Job S))
    → DocPaints rules old ticket scene outs new job → outs ≡ frames_only outs.frames
of_job rules old ticket scene outs new None (is, stays) = only_frames outs [] is
of_job rules old ticket scene outs new (Some job) (inl (other, is, stays)) = only_frames outs [] is
of_job rules old ticket scene outs new (Some job) (inr (same, is, stays)) =
    only_frames outs (tiles_for rules old job.number job.keys old.views) is

pub painted_frames : {C B S : Type 0} (rules : Rules C B) (cut : C → Place → S)
    (old : Option (Held S)) (ticket : ℕ) (scene : S) (outs : Given S) (new : Option (Held S))
    → Goes rules cut old (Painted ticket scene) outs new → outs ≡ frames_only outs.frames
painted_frames rules cut None ticket scene outs new step = absurd step
painted_frames rules cut (Some old) ticket scene outs None step = absurd step
painted_frames rules cut (Some old) ticket scene outs (Some new) (step, kept) =
    of_job rules old.document ticket scene outs new.document
    (find_job old.document.jobs ticket) step

pub put_frames : {C B S : Type 0} (rules : Rules C B) (cut : C → Place → S)
    (old : Option (Held S)) (ticket : ℕ) (answer : Result Receipt StoreFault) (outs : Given S)
    (new : Option (Held S))
    → Goes rules cut old (PutAnswered ticket answer) outs new → outs ≡ frames_only outs.frames
put_frames rules cut None ticket answer outs new step = absurd step
put_frames rules cut (Some old) ticket answer outs None step = absurd step
put_frames rules cut (Some old) ticket answer outs (Some new) ((is, saved), kept) =
    only_frames outs
    (ending_frames old.document.views answer
    (answers ticket (receipt_of answer) old.document.saving)) is

-- the token of the lock that a broker tells is the one that a poll takes
pub same_lock : {S : Type 0} (broker : Option (Held S)) (ticket : ℕ)
    (answer : Result Receipt StoreFault)
    → option_and_then (λ held. lock_token ticket answer held.document.saving) broker
    ≡ broker_lock broker ticket answer
same_lock None ticket answer = refl
same_lock (Some held) ticket (Ok receipt) = refl
same_lock (Some held) ticket (Err fault) = refl

-- a painted job, as the kind of document says it
pub painted_ways : {C B S L : Type 0} (rules : Rules C B) (cut : C → Place → S) (served : Served)
    (carries : L → List LinkEvent) (id moment : ℕ)
    (owned : HeldDocument (Option (Held S)) (PaintJob S) (Painting S) L) (job : PaintJob S)
    (ticket : Ticket) (scene : S) (s : Heard (Option (Held S)) (PaintJob S) (Painting S) L)
    → ticket ≡ job.ticket → scene ≡ job.scene
    → Passes (ways rules cut served) carries id moment owned (Do (Paint job) ∷ []) s 0 owned
    (Take (PaintDone (record { ticket = ticket.0; scene = scene })) ∷ []) s
painted_ways {C} {B} {S} {L} rules cut served carries id moment owned job ticket scene s same equal
    =
    passes_painted (ways rules cut served) carries id moment owned job
    (record { ticket = ticket.0; scene = scene }) s
    (ap (λ (t : Ticket). record { ticket = t.0; scene = scene }) same
    ∙ ap (λ (x : S). record { ticket = job.ticket.0; scene = x }) equal)

-- a call that did all of it and then was out of memory
pub stops_done : {D J P L : Type 0} (w : Ways D J P) (carries : L → List LinkEvent)
    (id moment : ℕ) (old : HeldDocument D J P L) (owed : List (Todo J P)) (before : Heard D J P L)
    (n : ℕ) (new : HeldDocument D J P L) (left : List (Todo J P)) (after : Heard D J P L)
    → Passes w carries id moment old owed before n new left after
    → Stops w carries id moment old owed before after
stops_done w carries id moment old owed before n new left after p = (new, left, n, p)

-- what was owed was turned into an answer to take, and that was taken
pub passes_on : {D J P L : Type 0} (w : Ways D J P) (carries : L → List LinkEvent)
    (id moment : ℕ) (old : HeldDocument D J P L) (owed : Todo J P) (before : Heard D J P L)
    (mid : HeldDocument D J P L) (left : List (Todo J P)) (between : Heard D J P L)
    (result : Result ℕ Memory) (new : HeldDocument D J P L) (after : Heard D J P L)
    → Passes w carries id moment old (owed ∷ []) before 0 mid left between
    → Settles w carries id moment mid left between result new after
    → Settles w carries id moment old (owed ∷ []) before result new after
passes_on {D} {J} {P} {L} w carries id moment old owed before mid left between
    (Ok n) new after a b =
    subst (λ (k : ℕ). Passes w carries id moment old (owed ∷ []) before k new [] after)
    (zero-add n)
    (passes_more w carries id moment old (owed ∷ []) [] before 0 mid left between n new [] after a
    (subst (λ (todo : List (Todo J P)). Passes w carries id moment mid todo between n new [] after)
    (sym (append-nil left)) b))
passes_on {D} {J} {P} {L} w carries id moment old owed before mid left between
    (Err memory) new after
    a b =
    stops_more w carries id moment old (owed ∷ []) [] before 0 mid left between after a
    (subst (λ (todo : List (Todo J P)). Stops w carries id moment mid todo between after)
    (sym (append-nil left)) b)

-- frames, jobs and errands, as they are owed for an event that gave them out
owed_is : {S P : Type 0} (given : Given S) (frames : List (ViewId × Frame))
    (jobs : List (PaintJob S)) (errands : List Errand)
    → frames ≡ given.frames → jobs ≡ given.jobs → errands ≡ given.errands
    → map (give_of {J = PaintJob S} {P = P}) frames ++ (map (λ job. Offer (Paint job)) jobs
    ++ map (λ errand. Offer (Put errand)) errands) ≡ todo_of (given_out given)
owed_is given frames jobs errands one two three =
    rw (one, two, three) (sym (owed_in_parts given))

-- frames, jobs and errands were done, one after another
pub settles_parts : {D S P L : Type 0} (w : Ways D (PaintJob S) P) (carries : L → List LinkEvent)
    (id moment : ℕ) (old : HeldDocument D (PaintJob S) P L) (given : Given S)
    (frames : List (ViewId × Frame)) (jobs : List (PaintJob S)) (errands : List Errand)
    (before : Heard D (PaintJob S) P L) (n : ℕ) (shown : HeldDocument D (PaintJob S) P L)
    (s : Heard D (PaintJob S) P L) (m : ℕ) (painted : HeldDocument D (PaintJob S) P L)
    (t : Heard D (PaintJob S) P L) (k : ℕ) (new : HeldDocument D (PaintJob S) P L)
    (after : Heard D (PaintJob S) P L)
    → frames ≡ given.frames → jobs ≡ given.jobs → errands ≡ given.errands
    → Passes w carries id moment old (map give_of frames) before n shown [] s
    → Passes w carries id moment shown (map (λ job. Offer (Paint job)) jobs) s m painted [] t
    → Passes w carries id moment painted (map (λ errand. Offer
    (Put errand)) errands) t k new [] after
    → Passes w carries id moment old (todo_of (given_out given)) before (n + m + k) new [] after
settles_parts {D} {S} {P} {L} w carries id moment old given frames jobs errands before n shown s m
    painted t k new after one two three a b c =
    subst
    (λ (todo : List (Todo (PaintJob S) P)). Passes w carries id moment old todo before (n + m + k)
    new [] after)
    (owed_is given frames jobs errands one two three)
    (subst
    (λ (sum : ℕ). Passes w carries id moment old (map give_of frames
    ++ (map (λ job. Offer (Paint job)) jobs ++ map (λ errand. Offer (Put errand)) errands)) before
    sum new [] after)
    (sym (add_assoc n m k))
    (passes_more w carries id moment old (map give_of frames)
    (map (λ job. Offer (Paint job)) jobs ++ map (λ errand. Offer (Put errand)) errands) before n
    shown [] s (m + k) new [] after a
    (passes_more w carries id moment shown (map (λ job. Offer (Paint job)) jobs)
    (map (λ errand. Offer (Put errand)) errands) s m painted [] t k new [] after b c)))

-- only some of the frames were done
pub stops_frames : {D S P L : Type 0} (w : Ways D (PaintJob S) P) (carries : L → List LinkEvent)
    (id moment : ℕ) (old : HeldDocument D (PaintJob S) P L) (given : Given S)
    (frames : List (ViewId × Frame)) (before after : Heard D (PaintJob S) P L)
    → frames ≡ given.frames
    → Stops w carries id moment old (map give_of frames) before after
    → Stops w carries id moment old (todo_of (given_out given)) before after
stops_frames {D} {S} {P} {L} w carries id moment old given frames before after one a =
    subst
    (λ (todo : List (Todo (PaintJob S) P)). Stops w carries id moment old todo before after)
    (owed_is given frames given.jobs given.errands one refl refl)
    (stops_part w carries id moment old (map give_of frames)
    (map (λ job. Offer (Paint job)) given.jobs ++ map (λ errand. Offer (Put errand)) given.errands)
    before after a)

-- the frames, and some of the jobs
pub stops_jobs : {D S P L : Type 0} (w : Ways D (PaintJob S) P) (carries : L → List LinkEvent)
    (id moment : ℕ) (old : HeldDocument D (PaintJob S) P L) (given : Given S)
    (frames : List (ViewId × Frame)) (jobs : List (PaintJob S)) (before : Heard D (PaintJob S) P L)
    (n : ℕ) (shown : HeldDocument D (PaintJob S) P L) (s after : Heard D (PaintJob S) P L)
    → frames ≡ given.frames → jobs ≡ given.jobs
    → Passes w carries id moment old (map give_of frames) before n shown [] s
    → Stops w carries id moment shown (map (λ job. Offer (Paint job)) jobs) s after
    → Stops w carries id moment old (todo_of (given_out given)) before after
stops_jobs {D} {S} {P} {L} w carries id moment old given frames jobs before n shown s after one two
    a
    b =
    subst
    (λ (todo : List (Todo (PaintJob S) P)). Stops w carries id moment old todo before after)
    (owed_is given frames jobs given.errands one two refl)
    (stops_more w carries id moment old (map give_of frames)
    (map (λ job. Offer (Paint job)) jobs ++ map (λ errand. Offer (Put errand)) given.errands) before
    n shown [] s after a
    (stops_part w carries id moment shown (map (λ job. Offer (Paint job)) jobs)
    (map (λ errand. Offer (Put errand)) given.errands) s after b))

-- the frames, the jobs, and some of the errands
pub stops_errands : {D S P L : Type 0} (w : Ways D (PaintJob S) P) (carries : L → List LinkEvent)
    (id moment : ℕ) (old : HeldDocument D (PaintJob S) P L) (given : Given S)
    (frames : List (ViewId × Frame)) (jobs : List (PaintJob S)) (errands : List Errand)
    (before : Heard D (PaintJob S) P L) (n : ℕ) (shown : HeldDocument D (PaintJob S) P L)
    (s : Heard D (PaintJob S) P L) (m : ℕ) (painted : HeldDocument D (PaintJob S) P L)
    (t after : Heard D (PaintJob S) P L)
    → frames ≡ given.frames → jobs ≡ given.jobs → errands ≡ given.errands
    → Passes w carries id moment old (map give_of frames) before n shown [] s
    → Passes w carries id moment shown (map (λ job. Offer (Paint job)) jobs) s m painted [] t
    → Stops w carries id moment painted (map (λ errand. Offer (Put errand)) errands) t after
    → Stops w carries id moment old (todo_of (given_out given)) before after
stops_errands {D} {S} {P} {L} w carries id moment old given frames jobs errands before n shown s m
    painted t after one two three a b c =
    subst
    (λ (todo : List (Todo (PaintJob S) P)). Stops w carries id moment old todo before after)
    (owed_is given frames jobs errands one two three)
    (stops_more w carries id moment old (map give_of frames)
    (map (λ job. Offer (Paint job)) jobs ++ map (λ errand. Offer (Put errand)) errands) before n
    shown [] s after a
    (stops_more w carries id moment shown (map (λ job. Offer (Paint job)) jobs)
    (map (λ errand. Offer (Put errand)) errands) s m painted [] t after b c))

-- a call that has no answer
pub unanswered : {A E : Type 0} (result : Result A E) (P : A → Type 0) (Q : Type 0)
    → IsErr result → Q → MatchResult result P (λ _. Q)
unanswered (Ok a) P Q none q = cc
unanswered (Err e) P Q none q = q

-- all of it was done, and a sum of counts is what the call answers
pub settles_sum : {D J P L : Type 0} (w : Ways D J P) (carries : L → List LinkEvent)
    (id moment : ℕ) (old : HeldDocument D J P L) (owed : List (Todo J P)) (before : Heard D J P L)
    (n : ℕ) (result : Result ℕ Memory) (new : HeldDocument D J P L) (after : Heard D J P L)
    → IfOk result (λ sum. sum ≡ n)
    → Passes w carries id moment old owed before n new [] after
    → Settles w carries id moment old owed before result new after
settles_sum {D} {J} {P} {L} w carries id moment old owed before n (Ok sum) new after is p =
    subst (λ (k : ℕ). Passes w carries id moment old owed before k new [] after) (sym is) p
settles_sum w carries id moment old owed before n (Err memory) new after is p =
    stops_done w carries id moment old owed before n new [] after p

-- what is still owed is done further
pub passes_chain : {D J P L : Type 0} (w : Ways D J P) (carries : L → List LinkEvent)
    (id moment : ℕ) (old : HeldDocument D J P L) (owed : List (Todo J P)) (before : Heard D J P L)
    (n : ℕ) (mid : HeldDocument D J P L) (left : List (Todo J P)) (between : Heard D J P L) (m : ℕ)
    (new : HeldDocument D J P L) (more : List (Todo J P)) (after : Heard D J P L)
    → Passes w carries id moment old owed before n mid left between
    → Passes w carries id moment mid left between m new more after
    → Passes w carries id moment old owed before (n + m) new more after
passes_chain {D} {J} {P} {L} w carries id moment old owed before n mid left between m new more
    after a
    b =
    subst
    (λ (todo : List (Todo J P)). Passes w carries id moment old todo before (n + m) new more after)
    (append-nil owed)
    (passes_more w carries id moment old owed [] before n mid left between m new more after a
    (subst
    (λ (todo : List (Todo J P)). Passes w carries id moment mid todo between m new more after)
    (sym (append-nil left)) b))

-- the same, where that was cut off
pub stops_chain : {D J P L : Type 0} (w : Ways D J P) (carries : L → List LinkEvent)
    (id moment : ℕ) (old : HeldDocument D J P L) (owed : List (Todo J P)) (before : Heard D J P L)
    (n : ℕ) (mid : HeldDocument D J P L) (left : List (Todo J P)) (between after : Heard D J P L)
    → Passes w carries id moment old owed before n mid left between
    → Stops w carries id moment mid left between after
    → Stops w carries id moment old owed before after
stops_chain w carries id moment old owed before n mid left between after a (last, more, m, b) = (
  last,
  more,
  n + m,
  passes_chain w carries id moment old owed before n mid left between m last more after a b,
)

-- one work of those that are still owed is done
pub passes_first : {D J P L A : Type 0} (w : Ways D J P) (carries : L → List LinkEvent)
    (id moment : ℕ) (owed : A → Todo J P) (old : HeldDocument D J P L) (all : List (Todo J P))
    (before : Heard D J P L) (n : ℕ) (mid : HeldDocument D J P L) (things : List A) (thing : A)
    (rest : List A) (between : Heard D J P L) (m : ℕ) (new : HeldDocument D J P L)
    (after : Heard D J P L)
    → things ≡ thing ∷ rest
    → Passes w carries id moment old all before n mid (map owed things) between
    → Passes w carries id moment mid (owed thing ∷ []) between m new [] after
    → Passes w carries id moment old all before (n + m) new (map owed rest) after
passes_first {D} {J} {P} {L} {A} w carries id moment owed old all before n mid things thing rest
    between m new after is so_far one =
    passes_chain w carries id moment old all before n mid (map owed (thing ∷ rest)) between m new
    (map owed rest) after
    (subst
    (λ (xs : List A). Passes w carries id moment old all before n mid (map owed xs) between) is
    so_far)
    (passes_framed w carries id moment mid (owed thing ∷ []) (map owed rest) between m new [] after
    one)

-- the same, where that was cut off
pub stops_first : {D J P L A : Type 0} (w : Ways D J P) (carries : L → List LinkEvent)
    (id moment : ℕ) (owed : A → Todo J P) (old : HeldDocument D J P L) (all : List (Todo J P))
    (before : Heard D J P L) (n : ℕ) (mid : HeldDocument D J P L) (things : List A) (thing : A)
    (rest : List A) (between after : Heard D J P L)
    → things ≡ thing ∷ rest
    → Passes w carries id moment old all before n mid (map owed things) between
    → Stops w carries id moment mid (owed thing ∷ []) between after
    → Stops w carries id moment old all before after
stops_first {D} {J} {P} {L} {A} w carries id moment owed old all before n mid things thing rest
    between after is so_far one =
    stops_chain w carries id moment old all before n mid (map owed (thing ∷ rest)) between after
    (subst
    (λ (xs : List A). Passes w carries id moment old all before n mid (map owed xs) between) is
    so_far)
    (stops_part w carries id moment mid (owed thing ∷ []) (map owed rest) between after one)

-- none is still owed
pub passes_empty : {D J P L A : Type 0} (w : Ways D J P) (carries : L → List LinkEvent)
    (id moment : ℕ) (owed : A → Todo J P) (old : HeldDocument D J P L) (all : List (Todo J P))
    (before : Heard D J P L) (n : ℕ) (new : HeldDocument D J P L) (things : List A)
    (after : Heard D J P L)
    → things ≡ [] → Passes w carries id moment old all before n new (map owed things) after
    → Passes w carries id moment old all before n new [] after
passes_empty {D} {J} {P} {L} {A} w carries id moment owed old all before n new things after none a =
    subst (λ (xs : List A). Passes w carries id moment old all before n new
    (map owed xs) after) none
    a

-- the answer is taken, and the frames that come of it are given
pub settles_taken : {D S P L : Type 0} (w : Ways D (PaintJob S) P) (carries : L → List LinkEvent)
    (id moment : ℕ) (old mid : HeldDocument D (PaintJob S) P L) (answer : Answer P)
    (given : Given S) (frames : List (ViewId × Frame)) (before : Heard D (PaintJob S) P L)
    (result : Result ℕ Memory) (new : HeldDocument D (PaintJob S) P L)
    (after : Heard D (PaintJob S) P L)
    → w.Steps old.doc (event_of answer) (given_out given) mid.doc
    → mid ≡ record old {
      doc = mid.doc;
      lock = lock_after w moment old.doc (event_of answer) old.lock;
    }
    → given ≡ frames_only given.frames → frames ≡ given.frames
    → Settles w carries id moment mid (map give_of frames) before result new after
    → Settles w carries id moment old (Take answer ∷ []) before result new after
settles_taken {D} {S} {P} {L} w carries id moment old mid answer given frames before result new
    after
    step is alone same settled =
    passes_on w carries id moment old (Take answer) before mid (todo_of (given_out given)) before
    result new after
    (passes_taken w carries id moment old mid answer (given_out given) before step is)
    (subst
    (λ (todo : List (Todo (PaintJob S) P)). Settles w carries id moment mid todo before result new
    after)
    (ap (λ (xs : List (ViewId × Frame)). map give_of xs) same ∙ sym (owed_frames given alone))
    settled)
