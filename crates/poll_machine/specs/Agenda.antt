-- What a poll owes one document, and the steps of a document that a poll holds.
use Rattle.std.specs.Prelude.{◌≡◌, ℕ, Bool, true, false, not, ◌==◌, List, [], ◌∷◌, ◌++◌, map}
use Rattle.std.specs.Prelude.{filter, Option, None, Some, Result, if◌then◌else◌}
use Rattle.document_machine.specs.declared.rights.Rights.{Rights}
use Rattle.net_traits.specs.declared.nets.Given.{Given}
use Rattle.net_traits.specs.declared.nets.Given.TheVariants.{Sent, Failed}
use Rattle.outside.specs.declared.errands.Errand.{Errand}
use Rattle.outside.specs.declared.errands.Receipt.{Receipt}
use Rattle.outside.specs.declared.faults.StoreFault.{StoreFault}
use Rattle.poll_machine.specs.Words.{Event, Joined, Left, Said, Turned, Painted, PutAnswered, Work}
use Rattle.poll_machine.specs.Words.{Paint, Put, Outs, nothing, Answer, PaintDone, PutDone}
use Rattle.poll_machine.specs.Words.{event_of, Ways}

-- a view and its link
pub record ViewLink : Type 0 where
  pub view : ℕ
  pub link : ℕ

-- the lock of a document's file: its token, and when it was taken or refreshed
pub record Lock : Type 0 where
  pub token : List ℕ
  pub moment : ℕ

-- what a poll owes a document before anything else happens to it: a frame to a view's link, a view
-- to drop and its link to release after a failed give, a work to offer where there is room to
-- spare, one to hand to the yard, one that the poll does itself, and an answer to take
pub data Todo (J P : Type 0) : Type 0 where
  Give : (view : ℕ) (frame : List ℕ) → Todo J P
  Leave : (view : ℕ) → Todo J P
  LetGo : (link : ℕ) → Todo J P
  Offer : (work : Work J) → Todo J P
  Hand : (work : Work J) → Todo J P
  Do : (work : Work J) → Todo J P
  Take : (answer : Answer P) → Todo J P

-- a document that a poll holds: its file, its state, its views with their links, the views whose
-- links are on their way (each with its link), its lock, and what is owed to it
pub record HeldDocument (D J P L : Type 0) : Type 0 where
  pub file : List ℕ
  pub doc : D
  pub views : List ViewLink
  pub packed : List (ℕ × L)
  pub lock : Option Lock
  pub todo : List (Todo J P)

-- what is owed for what an event gave out: its frames in order, and then its works
abbrev pub todo_of : {J P : Type 0} → Outs J → List (Todo J P)
todo_of outs = map (λ p. Give p.0 p.1) outs.frames ++ map (λ work. Offer work) outs.works

-- the link of a view
abbrev pub link_of : List ViewLink → ℕ → Option ℕ
link_of [] view = None
link_of (s ∷ views) view = if s.view == view then Some s.link else link_of views view

-- the view of a link
abbrev pub view_of : List ViewLink → ℕ → Option ℕ
view_of [] link = None
view_of (s ∷ views) link = if s.link == link then Some s.view else view_of views link

-- the views but this one
abbrev pub without_view : List ViewLink → ℕ → List ViewLink
without_view views view = filter (λ s. not (s.view == view)) views

-- the views after an event: one that left is among them no longer
abbrev pub views_after : {P : Type 0} → Event P → List ViewLink → List ViewLink
views_after (Left view) views = without_view views view
views_after _ views = views

-- only a join adds a view
abbrev pub is_join : {P : Type 0} → Event P → Bool
is_join (Joined rights) = true
is_join _ = false

-- a receipt that is taken gives a lock of this moment; anything else leaves the lock
abbrev pub lock_given : ℕ → Option (List ℕ) → Option Lock → Option Lock
lock_given now (Some token) lock = Some (record { token = token; moment = now })
lock_given now None lock = lock

abbrev pub lock_after : {D J P : Type 0} → Ways D J P → ℕ → D → Event P → Option Lock → Option Lock
lock_after w now doc (PutAnswered ticket answer) lock = lock_given now
    (w.lock_of doc ticket answer) lock
lock_after w now doc _ lock = lock

-- what is owed after a give: a view whose give failed leaves before anything else, and its link is
-- released
abbrev pub after_give : {J P : Type 0} → Given → ℕ → ℕ → List (Todo J P) → List (Todo J P)
after_give Sent view link rest = rest
after_give Failed view link rest = Leave view ∷ LetGo link ∷ rest

-- what happens to a document that a poll holds. First what comes to it: a view joins from a link;
-- another event. Then what is owed: a frame is given, with the net's answer; it is skipped, where
-- its view has no link any more; a view leaves, which gives nothing out; its link is released; the
-- port is asked whether there is room to spare; a work is offered to the yard, which keeps it or
-- not; a job is painted; a content is stored, with the store's answer; the answer is taken. And
-- what is done for it: its lock is refreshed, or released; a view's link is released for a
-- departure, or adopted
pub data Here (J P L : Type 0) : Type 0 where
  Joins : (link : ℕ) (rights : Rights) (outs : Outs J) → Here J P L
  Did : (event : Event P) (outs : Outs J) → Here J P L
  Gives : (view link : ℕ) (frame : List ℕ) (given : Given) → Here J P L
  Skips : (view : ℕ) (frame : List ℕ) → Here J P L
  Leaves : (view : ℕ) → Here J P L
  Frees : (link : ℕ) (gave : Option L) → Here J P L
  Asks : (spare : Bool) → Here J P L
  Offers : (work : Work J) (kept : Bool) → Here J P L
  Paints : (job : J) → Here J P L
  Puts : (errand : Errand) (answer : Result Receipt StoreFault) → Here J P L
  Takes : (answer : Answer P) (outs : Outs J) → Here J P L
  Refreshes : (file token : List ℕ) (answer : Result (Unit {0}) StoreFault) → Here J P L
  Unlocks : (file token : List ℕ) (answer : Result (Unit {0}) StoreFault) → Here J P L
  Releases : (view link : ℕ) (gave : Option L) → Here J P L
  Adopts : (view : ℕ) (carried : L) (link : ℕ) → Here J P L

-- the document once a view's link was released for a departure: the link is packed, or, where the
-- net had it no longer, the view is to leave
abbrev pub released : {D J P L : Type 0} → HeldDocument D J P L → ℕ → Option L
    → HeldDocument D J P L
released h view (Some carried) = record h {
  views = without_view h.views view;
  packed = h.packed ++ (view, carried) ∷ [];
}
released h view None = record h { todo = Leave view ∷ [] }

-- one step of a held document. What comes to it, and what is done for it, wants that nothing is
-- owed; what is owed is done from the front
abbrev pub HeldStep : {D J P L : Type 0} → Ways D J P → ℕ → HeldDocument D J P L → Here J P L
    → HeldDocument D J P L → Type 0
HeldStep {D} {J} {P} {L} w now old (Joins link rights outs) new =
    (doc : D) × (old.todo ≡ []) × (w.is_full old.doc ≡ false)
    × w.Steps old.doc (Joined rights) outs doc
    × (new ≡ record old {
      doc = doc;
      views = old.views
          ++ record { view = w.next_view old.doc; link = link } ∷ [];
      todo = todo_of outs;
    })
HeldStep {D} {J} {P} {L} w now old (Did event outs) new =
    (doc : D) × (old.todo ≡ []) × (is_join event ≡ false) × w.Steps old.doc event outs doc
    × (new ≡ record old {
      doc = doc;
      views = views_after event old.views;
      lock = lock_after w now
          old.doc event old.lock;
      todo = todo_of outs;
    })
HeldStep {D} {J} {P} {L} w now old (Gives view link frame given) new =
    (rest : List (Todo J P)) × (old.todo ≡ Give view frame ∷ rest)
    × (link_of old.views view ≡ Some link)
    × (new ≡ record old { todo = after_give given view link rest })
HeldStep {D} {J} {P} {L} w now old (Skips view frame) new =
    (rest : List (Todo J P)) × (old.todo ≡ Give view frame ∷ rest)
    × (link_of old.views view ≡ None) × (new ≡ record old { todo = rest })
HeldStep {D} {J} {P} {L} w now old (Leaves view) new =
    (rest : List (Todo J P)) × (doc : D) × (old.todo ≡ Leave view ∷ rest)
    × w.Steps old.doc (Left view) nothing doc
    × (new ≡ record old { doc = doc; views = without_view old.views view; todo = rest })
HeldStep {D} {J} {P} {L} w now old (Frees link gave) new =
    (rest : List (Todo J P)) × (old.todo ≡ LetGo link ∷ rest) × (new ≡ record old { todo = rest })
HeldStep {D} {J} {P} {L} w now old (Asks spare) new =
    (rest : List (Todo J P)) × (work : Work J) × (old.todo ≡ Offer work ∷ rest)
    × (new ≡ record old { todo = (if spare then Hand work else Do work) ∷ rest })
HeldStep {D} {J} {P} {L} w now old (Offers work kept) new =
    (rest : List (Todo J P)) × (old.todo ≡ Hand work ∷ rest)
    × (new ≡ record old { todo = if kept then rest else Do work ∷ rest })
HeldStep {D} {J} {P} {L} w now old (Paints job) new =
    (rest : List (Todo J P)) × (old.todo ≡ Do (Paint job) ∷ rest)
    × (new ≡ record old { todo = Take (PaintDone (w.paints job)) ∷ rest })
HeldStep {D} {J} {P} {L} w now old (Puts errand answer) new =
    (rest : List (Todo J P)) × (old.todo ≡ Do (Put errand) ∷ rest)
    × (new ≡ record old { todo = Take (PutDone errand.ticket.0 answer) ∷ rest })
HeldStep {D} {J} {P} {L} w now old (Takes answer outs) new =
    (rest : List (Todo J P)) × (doc : D) × (old.todo ≡ Take answer ∷ rest)
    × w.Steps old.doc (event_of answer) outs doc
    × (new ≡ record old {
      doc = doc;
      lock = lock_after w now old.doc
          (event_of answer) old.lock;
      todo = todo_of outs ++ rest;
    })
HeldStep {D} {J} {P} {L} w now old (Refreshes file token answer) new =
    (moment : ℕ) × (old.todo ≡ []) × (file ≡ old.file)
    × (old.lock ≡ Some (record { token = token; moment = moment }))
    × (new ≡ record old { lock = Some (record { token = token; moment = now }) })
HeldStep {D} {J} {P} {L} w now old (Unlocks file token answer) new =
    (moment : ℕ) × (old.todo ≡ []) × (file ≡ old.file)
    × (old.lock ≡ Some (record { token = token; moment = moment }))
    × (new ≡ record old { lock = None })
HeldStep {D} {J} {P} {L} w now old (Releases view link gave) new =
    (old.todo ≡ []) × (link_of old.views view ≡ Some link) × (new ≡ released old view gave)
HeldStep {D} {J} {P} {L} w now old (Adopts view carried link) new =
    (rest : List (ℕ × L)) × (old.todo ≡ []) × (old.packed ≡ (view, carried) ∷ rest)
    × (new ≡ record old {
      packed = rest;
      views = old.views
          ++ record { view = view; link = link } ∷ [];
    })
