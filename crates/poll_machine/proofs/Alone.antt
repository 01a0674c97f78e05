-- What is done to one document, taken alone, is a run of that document.
use Rattle.std.proofs.Common.{◌≡◌, ◌≢◌, ℕ, Bool, true, false, List, [], ◌∷◌, ◌++◌, Option, None}
use Rattle.std.proofs.Common.{Some, refl, ap, subst, ◌∙◌, arith, nat_eq}
use Rattle.net_traits.specs.declared.nets.Given.{Given}
use Rattle.net_traits.specs.declared.nets.Given.TheVariants.{Sent, Failed}
use Rattle.net_traits.specs.declared.nets.Taken.{Taken}
use Rattle.net_traits.specs.declared.nets.Taken.TheVariants as taken
use Rattle.poll_machine.specs.Words.{Ways}
use Rattle.poll_machine.specs.House.{Slot, SlotAct, Happens, Ticks, Takes, Calls, Reads, OfDoc}
use Rattle.poll_machine.specs.House.{Shows, Frees, Posted, Adopted, House, HouseStep, DocStep}
use Rattle.poll_machine.specs.House.{SlotStep, slot_of, after_take, after_show, after_post}
use Rattle.poll_machine.specs.Project.{act_of, acts_of}
use Rattle.poll_machine.specs.Runs.{Run}
use Rattle.poll_machine.proofs.Runs.{runs}

-- what the net answers changes nothing that is held
take_keeps : {D J P L : Type 0} (taken : Taken) (h : House D J P L)
    → (after_take taken h).docs ≡ h.docs
take_keeps (taken.Opened link) h = refl
take_keeps (taken.Said link bytes) h = refl
take_keeps (taken.Left link) h = refl
take_keeps taken.Nothing h = refl
take_keeps taken.Failed h = refl

-- nor does a give to a link of the lobby
show_keeps : {D J P L : Type 0} (link : ℕ) (given : Given) (h : House D J P L)
    → (after_show link given h).docs ≡ h.docs
show_keeps link Sent h = refl
show_keeps link Failed h = refl

-- nor does the release of such a link
post_keeps : {D J P L : Type 0} (link : ℕ) (gave : Option L) (h : House D J P L)
    → (after_post link gave h).docs ≡ h.docs
post_keeps link None h = refl
post_keeps link (Some carried) h = refl

-- what is done to a document is its own step, and leaves any other as it is
of_doc : {D J P L : Type 0} (w : Ways D J P) (id : ℕ) (old : House D J P L) (x moment : ℕ)
    (act : SlotAct D J P L) (new : House D J P L) (here : Bool)
    → nat_eq x id ≡ here → DocStep w old x moment act new
    → Run (SlotStep w) (slot_of id old.docs) (act_of id (OfDoc x moment act)) (slot_of id new.docs)
of_doc w id old x moment act new true e step =
    let same : x ≡ id = grind (arith, e) in
    rw e (
      slot_of id new.docs,
      subst
          (λ y. SlotStep w (slot_of y old.docs) (moment, act)
          (slot_of y new.docs)) same step.one,
      refl,
    )
of_doc w id old x moment act new false e step =
    let other : id ≢ x = λ is. grind (arith, e, is) in
    rw e (step.others id other)

-- any event of a house, seen from one document
event_alone : {D J P L : Type 0} (w : Ways D J P) (id : ℕ) (old : House D J P L)
    (event : Happens D J P L) (new : House D J P L)
    → HouseStep w old event new
    → Run (SlotStep w) (slot_of id old.docs) (act_of id event) (slot_of id new.docs)
event_alone w id old (Ticks moment) new is = ap (λ h. slot_of id h.docs) is
event_alone w id old (Takes taken) new is = ap (λ h. slot_of id h.docs) is
    ∙ ap (λ docs. slot_of id docs) (take_keeps taken old)
event_alone w id old (Calls call) new is = ap (λ h. slot_of id h.docs) is
event_alone w id old (Reads call) new is = ap (λ h. slot_of id h.docs) is
event_alone w id old (OfDoc x moment act) new step = of_doc w id old x moment act new
    (nat_eq x id) refl step
event_alone w id old (Shows link frame given) new (there, is) = ap (λ h. slot_of id h.docs) is
    ∙ ap (λ docs. slot_of id docs) (show_keeps link given old)
event_alone w id old (Frees link gave) new is = ap (λ h. slot_of id h.docs) is
event_alone w id old (Posted link gave) new (there, is) = ap (λ h. slot_of id h.docs) is
    ∙ ap (λ docs. slot_of id docs) (post_keeps link gave old)
event_alone w id old (Adopted carried link) new is = ap (λ h. slot_of id h.docs) is

-- so is a whole run
pub alone : {D J P L : Type 0} (w : Ways D J P) (id : ℕ) (old : House D J P L)
    (events : List (Happens D J P L)) (new : House D J P L)
    → Run (HouseStep w) old events new
    → Run (SlotStep w) (slot_of id old.docs) (acts_of id events) (slot_of id new.docs)
alone w id old [] new is = ap (λ h. slot_of id h.docs) is
alone w id old (event ∷ events) new (mid, step, rest) =
    runs (SlotStep w) (slot_of id old.docs) (act_of id event) (acts_of id events)
    (slot_of id mid.docs) (slot_of id new.docs)
    (event_alone w id old event mid step) (alone w id mid events new rest)
