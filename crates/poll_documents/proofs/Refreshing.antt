-- A due lock of a document of a house is refreshed as the plan says.
use Rattle.std.proofs.Common.{◌≡◌, ℕ, Bool, true, false, List, [], ◌∷◌, ◌++◌}
use Rattle.std.proofs.Common.{Option, None, Some, Result, Ok, Err, IsOk, refl, subst, sym}
use Rattle.std.proofs.Common.{add-zero, true≢false}
use Rattle.cool_base.specs.declared.want.Memory.{Memory}
use Rattle.net_traits.specs.Nets.{LinkEvent}
use Rattle.outside.specs.Stores.{StoreCall}
use Rattle.outside.specs.declared.faults.StoreFault.{StoreFault}
use Rattle.poll_machine.specs.Words.{Ways}
use Rattle.poll_machine.specs.Agenda.{HeldDocument, Lock, Refreshes}
use Rattle.poll_machine.specs.House.{Slot, Live, Happens, House, Rises}
use Rattle.poll_machine.specs.Lobby.{here_now}
use Rattle.poll_machine.specs.Plans.{Plan, Rests, Learns, Looks, choose}
use Rattle.poll_machine.specs.Told.{Heard}
use Rattle.poll_machine.specs.Turn.{refreshes, refreshes_lock}
use Rattle.poll_machine.proofs.Lifted.{found}
use Rattle.poll_documents.specs.Doing.{Does, in_house, found_in}
use Rattle.poll_documents.specs.Locking.{is_due, Refreshed, RefreshesDue}
use Rattle.poll_documents.specs.Outside.{with_store}
use Rattle.poll_documents.proofs.Doing.{does_rests, does_learns, does_looks, does_cut, does_live}
use Rattle.poll_documents.proofs.Happening.{here_done}

-- a lock that isn't due stays
not_due : {D J P L : Type 0} (w : Ways D J P) (carries : L → List LinkEvent) (moment id : ℕ)
    (file : List ℕ) (lock : Option Lock) (house : House D J P L) (s : Heard D J P L) (fine : Type 0)
    → is_due moment lock ≡ false
    → Does w carries (refreshes_lock moment id file lock) house s fine false house s
not_due w carries moment id file None house s fine due = does_rests w carries house s fine
not_due {D} {J} {P} {L} w carries moment id file (Some lock) house s fine due =
    subst
    (λ (now : Bool). Does w carries
    (choose now
    (Learns (λ (answer : Result (Unit {0}) StoreFault). here_now id
    (Refreshes file lock.token answer))) Rests) house s fine false house s)
    (sym due) (does_rests w carries house s fine)

-- one that is due is refreshed
was_due : {D J P L : Type 0} (w : Ways D J P) (carries : L → List LinkEvent)
    (house : House D J P L) (front back : List (ℕ × Slot D J P L)) (id : ℕ)
    (old new : HeldDocument D J P L) (s : Heard D J P L) (before after : Option (List StoreCall))
    (fine : Type 0) (lacked : Bool)
    → Rises (front ++ (id, Live old) ∷ back) → old.todo ≡ []
    → Refreshed lacked house.moment old before new after
    → Does w carries (refreshes_lock house.moment id old.file old.lock)
    (in_house house front (id, Live old) back house.ended) (with_store s before) fine true
    (in_house house front (id, Live new) back house.ended) (with_store s after)
was_due {D} {J} {P} {L} w carries house front back id old new s before after fine lacked rises free
    r =
    let start : House D J P L = in_house house front (id, Live old) back house.ended in
    let end : House D J P L = in_house house front (id, Live new) back house.ended in
    let next : Result (Unit {0}) StoreFault → Plan (House D J P L) (Happens D J P L) =
    λ answer. here_now id (Refreshes old.file r.lock.token answer) in
    let done : Does w carries (next r.answer) start (with_store s before) fine true end
    (with_store s after) =
    subst
    (λ (k : ℕ). Does w carries (next r.answer) start (with_store s before) fine true
    (in_house house front (id, Live new) back k) (with_store s after))
    (add-zero house.ended)
    (here_done w carries house front id old new back (Refreshes old.file r.lock.token r.answer)
    (with_store s before) (with_store s after) fine rises
    (r.lock.moment, free, refl, r.locked, r.is) refl
    (record { net = refl; port = refl; store = (after, r.told, refl); clock = refl; yard = refl }))
    in
    subst
    (λ (lock : Option Lock). Does w carries (refreshes_lock house.moment id old.file lock) start
    (with_store s before) fine true end (with_store s after))
    (sym r.locked)
    (subst
    (λ (now : Bool). Does w carries (choose now (Learns next) Rests) start
    (with_store s before) fine
    true end (with_store s after))
    (sym r.due)
    (does_learns w carries next r.answer start (with_store s before) fine true end
    (with_store s after) done))

-- the plan for the document of which this is known
pub refreshes_there : {D J P L : Type 0} (w : Ways D J P) (carries : L → List LinkEvent)
    (house : House D J P L) (front back : List (ℕ × Slot D J P L)) (id : ℕ)
    (old new : HeldDocument D J P L) (s : Heard D J P L) (before : Option (List StoreCall))
    (result : Result Bool Memory) (after : Option (List StoreCall))
    → Rises (front ++ (id, Live old) ∷ back) → old.todo ≡ []
    → RefreshesDue house.moment old before result new after
    → Does w carries (refreshes id) (in_house house front (id, Live old) back house.ended)
    (with_store s before) (IsOk result) (found_in result)
    (in_house house front (id, Live new) back house.ended) (with_store s after)
refreshes_there {D} {J} {P} {L} w carries house front back id old new s before result after rises
    free
    r =
    let start : House D J P L = in_house house front (id, Live old) back house.ended in
    let end : House D J P L = in_house house front (id, Live new) back house.ended in
    does_live w carries id (λ held. Looks (λ h. refreshes_lock h.moment id held.file held.lock)) old
    start (with_store s before) (IsOk result) (found_in result) end (with_store s after)
    (found front id (Live old) back rises)
    (does_looks w carries (λ h. refreshes_lock h.moment id old.file old.lock) start
    (with_store s before) (IsOk result) (found_in result) end (with_store s after)
    (by_answer result r))
  where
    by_answer : (given : Result Bool Memory) → RefreshesDue house.moment old before given new after
        → Does w carries (refreshes_lock house.moment id old.file old.lock)
        (in_house house front (id, Live old) back house.ended) (with_store s before) (IsOk given)
        (found_in given) (in_house house front (id, Live new) back house.ended) (with_store s after)
    by_answer (Ok false) (due, stays, same) =
        rw (stays, same)
        (not_due w carries house.moment id old.file old.lock
        (in_house house front (id, Live old) back house.ended) (with_store s before)
        _ due)
    by_answer (Ok true) here =
        was_due w carries house front back id old new s before after _ false
        rises free here
    by_answer (Err memory) here =
        does_cut w carries (refreshes_lock house.moment id old.file old.lock)
        (refreshes_lock house.moment id old.file old.lock)
        (in_house house front (id, Live old) back house.ended) (with_store s before) (Unit {0})
        _ true false
        (in_house house front (id, Live new) back house.ended)
        (in_house house front (id, Live new) back house.ended) (with_store s after)
        (λ f. true≢false (sym f))
        (was_due w carries house front back id old new s before after (Unit {0}) true rises free
        here)

-- the same of what is kept, at the moment of its house
pub refreshes_kept : {D J P L : Type 0} (w : Ways D J P) (carries : L → List LinkEvent)
    (house : House D J P L) (front back : List (ℕ × Slot D J P L)) (id moment : ℕ)
    (slot : Slot D J P L) (old new : HeldDocument D J P L) (s : Heard D J P L)
    (before : Option (List StoreCall)) (result : Result Bool Memory)
    (after : Option (List StoreCall))
    → house.moment ≡ moment → slot ≡ Live old → Rises (front ++ (id, slot) ∷ back)
    → old.todo ≡ [] → RefreshesDue moment old before result new after
    → Does w carries (refreshes id) (in_house house front (id, slot) back house.ended)
    (with_store s before) (IsOk result) (found_in result)
    (in_house house front (id, Live new) back house.ended) (with_store s after)
refreshes_kept {D} {J} {P} {L} w carries house front back id moment slot old new s before result
    after
    same is rises free due =
    subst
    (λ (x : Slot D J P L). Rises (front ++ (id, x) ∷ back)
    → Does w carries (refreshes id) (in_house house front (id, x) back house.ended)
    (with_store s before) (IsOk result) (found_in result)
    (in_house house front (id, Live new) back house.ended) (with_store s after))
    (sym is)
    (λ (there : Rises (front ++ (id, Live old) ∷ back)).
    refreshes_there w carries house front back id old new s before result after there free
    (subst (λ (m : ℕ). RefreshesDue m old before result new after) (sym same) due))
    rises
