-- What befalls a document of a house carries out the house's plan.
use Rattle.std.proofs.Common.{◌≡◌, ℕ, ◌+◌, Bool, false, List, ◌∷◌, ◌++◌, Option}
use Rattle.std.proofs.Common.{Result, Ok, Err, IsOk, inl, inr, refl, subst, sym, add-zero}
use Rattle.std.proofs.Common.{OnOk, true≢false}
use Rattle.cool_base.specs.declared.want.Memory.{Memory}
use Rattle.net_traits.specs.Nets.{LinkEvent}
use Rattle.poll_machine.specs.Words.{Event, Left, Turned, Outs, Ways}
use Rattle.poll_machine.specs.Agenda.{HeldDocument, Did}
use Rattle.poll_machine.specs.House.{Slot, Live, Refused, Refusal, Happens, House, Rises, slot_of}
use Rattle.poll_machine.specs.Lobby.{for_live, live}
use Rattle.poll_machine.specs.Plans.{Plan, Rests, Learns}
use Rattle.poll_machine.specs.Told.{Heard}
use Rattle.poll_machine.specs.Turn.{did, turns, is_done_here}
use Rattle.poll_machine.proofs.Lifted.{found}
use Rattle.poll_documents.specs.Befalling.{Befell, Broke, Befalls, Turns}
use Rattle.poll_documents.specs.Doing.{Does, count_of, in_house, worked_in, ended_in}
use Rattle.poll_documents.proofs.Doing.{does_rests, does_learns, does_looks, does_cut, does_live}
use Rattle.poll_documents.proofs.Happening.{happened, happened_in_part}

-- an event befell a document
pub befell_there : {D J P L : Type 0} (w : Ways D J P) (carries : L → List LinkEvent)
    (house : House D J P L) (front back : List (ℕ × Slot D J P L)) (id : ℕ)
    (old : HeldDocument D J P L) (event : Event P) (before : Heard D J P L) (n : ℕ)
    (new : HeldDocument D J P L) (after : Heard D J P L) (fine : Type 0)
    → Rises (front ++ (id, Live old) ∷ back)
    → (b : Befell w carries id house.moment old event before n new after)
    → Does w carries (did id event) (in_house house front (id, Live old) back house.ended) before
    fine (is_done_here {L = L} (Did event b.outs))
    (in_house house front (id, Live new) back (house.ended + n)) after
befell_there {D} {J} {P} {L} w carries house front back id old event before n new after fine rises
    b =
    subst
    (λ (k : ℕ). Does w carries (did id event)
    (in_house house front (id, Live old) back house.ended) before fine
    (is_done_here {L = L} (Did event b.outs))
    (in_house house front (id, Live new) back (k + n)) after)
    (add-zero house.ended)
    (happened w carries house front id old b.mid new back (λ outs. Did event outs) b.outs before n
    after fine rises b.step refl
    (record { net = refl; port = refl; store = refl; clock = refl; yard = refl }) b.done b.settled)

-- a call broke off
pub broke_there : {D J P L : Type 0} (w : Ways D J P) (carries : L → List LinkEvent)
    (plan : Plan (House D J P L) (Happens D J P L)) (house : House D J P L)
    (front back : List (ℕ × Slot D J P L)) (id : ℕ) (old : HeldDocument D J P L)
    (before after : Heard D J P L) (fine : Type 0) (worked : Bool) (end : House D J P L)
    → (fine → ⊥) → Rises (front ++ (id, Live old) ∷ back)
    → Broke w carries id house.moment old before after
    → Does w carries plan (in_house house front (id, Live old) back house.ended) before fine worked
    end after
broke_there {D} {J} {P} {L} w carries plan house front back id old before after fine worked end none
    rises (inl same) =
    let start : House D J P L = in_house house front (id, Live old) back house.ended in
    subst (λ (s : Heard D J P L). Does w carries plan start before fine worked end s) (sym same)
    (does_cut w carries Rests plan start before fine fine false worked start end before none
    (does_rests w carries start before fine))
broke_there w carries plan house front back id old before after fine worked end none rises (inr c) =
    happened_in_part w carries house front id old c.mid back
    (Did c.event c.outs) c.outs before after
    plan fine worked end none rises c.step refl
    (record { net = refl; port = refl; store = refl; clock = refl; yard = refl }) c.done

-- an event befalls a document
pub befalls_there : {D J P L : Type 0} (w : Ways D J P) (carries : L → List LinkEvent)
    (house : House D J P L) (front back : List (ℕ × Slot D J P L)) (id : ℕ)
    (old : HeldDocument D J P L) (event : Event P) (before : Heard D J P L)
    (result : Result ℕ Memory) (new : HeldDocument D J P L) (after : Heard D J P L) (worked : Bool)
    → Rises (front ++ (id, Live old) ∷ back)
    → ((outs : Outs J) → is_done_here {L = L} (Did event outs) ≡ worked)
    → Befalls w carries id house.moment old event before result new after
    → Does w carries (did id event) (in_house house front (id, Live old) back house.ended) before
    (IsOk result) worked
    (in_house house front (id, Live new) back (house.ended + count_of result)) after
befalls_there {D} {J} {P} {L} w carries house front back id old event before (Ok n) new after worked
    rises works b =
    subst
    (λ (any : Bool). Does w carries (did id event)
    (in_house house front (id, Live old) back house.ended) before (IsOk {T = ℕ} {E =
    Memory} (Ok n)) any
    (in_house house front (id, Live new) back (house.ended + n)) after)
    (works b.outs)
    (befell_there w carries house front back id old event before n new after (IsOk {T = ℕ} {E =
    Memory} (Ok n)) rises b)
befalls_there w carries house front back id old event before
    (Err memory) new after worked rises works
    b = broke_there w carries (did id event) house front back id old before after (IsOk {T =
    ℕ} {E = Memory} (Err memory))
    worked (in_house house front (id, Live new) back (house.ended + 0)) (λ f. true≢false
    (sym f)) rises b

-- a document makes a turn
pub turns_there : {D J P L : Type 0} (w : Ways D J P) (carries : L → List LinkEvent)
    (house : House D J P L) (front back : List (ℕ × Slot D J P L)) (id : ℕ)
    (old : HeldDocument D J P L) (before : Heard D J P L) (result : Result (Bool × ℕ) Memory)
    (new : HeldDocument D J P L) (after : Heard D J P L)
    → Rises (front ++ (id, Live old) ∷ back)
    → Turns w carries id house.moment old before result new after
    → Does w carries (turns id) (in_house house front (id, Live old) back house.ended) before
    (IsOk result) (worked_in result)
    (in_house house front (id, Live new) back (house.ended + ended_in result)) after
turns_there {D} {J} {P} {L} w carries house front back id old before (Ok p) new after rises b =
    let start : House D J P L = in_house house front (id, Live old) back house.ended in
    let end : House D J P L = in_house house front (id, Live new) back (house.ended + p.1) in
    does_live w carries id (λ held. Learns (λ (worked : Bool). did id (Turned worked))) old start
    before (IsOk {T = Bool × ℕ} {E = Memory} (Ok p)) p.0 end after (found front id
    (Live old) back rises)
    (does_learns w carries (λ (worked : Bool). did id (Turned worked)) p.0 start before
    (IsOk {T = Bool × ℕ} {E = Memory} (Ok p))
    p.0 end after
    (befell_there w carries house front back id old (Turned p.0) before p.1 new after (IsOk {T =
    Bool × ℕ} {E = Memory} (Ok p))
    rises b))
turns_there w carries house front back id old before (Err memory) new after rises b =
    broke_there w carries (turns id) house front back id old before after (IsOk {T = Bool
    × ℕ} {E = Memory} (Err memory)) false
    (in_house house front (id, Live new) back (house.ended + 0)) (λ f. true≢false (sym f)) rises b

-- for a document that is held as refused nothing is done
pub refused_there : {D J P L : Type 0} (w : Ways D J P) (carries : L → List LinkEvent)
    (plan : HeldDocument D J P L → Plan (House D J P L) (Happens D J P L)) (house : House D J P L)
    (front back : List (ℕ × Slot D J P L)) (id : ℕ) (file : List ℕ) (refusal : Refusal)
    (s : Heard D J P L) (fine : Type 0)
    → Rises (front ++ (id, Refused file refusal) ∷ back)
    → Does w carries (for_live id plan)
    (in_house house front (id, Refused file refusal) back house.ended) s fine false
    (in_house house front (id, Refused file refusal) back house.ended) s
refused_there {D} {J} {P} {L} w carries plan house front back id file refusal s fine rises =
    let there : House D J P L =
    in_house house front (id, Refused file refusal) back house.ended in
    does_looks w carries (λ h. live plan (slot_of id h.docs)) there s fine false there s
    (subst
    (λ (slot : Option (Slot D J P L)). Does w carries (live plan slot) there s fine false there s)
    (sym (found front id (Refused file refusal) back rises)) (does_rests w carries there s fine))

-- the same of what is kept, at the moment of its house
pub turns_kept : {D J P L : Type 0} (w : Ways D J P) (carries : L → List LinkEvent)
    (house : House D J P L) (front back : List (ℕ × Slot D J P L)) (id moment : ℕ)
    (slot : Slot D J P L) (old : HeldDocument D J P L) (before : Heard D J P L)
    (result : Result (Bool × ℕ) Memory) (new : HeldDocument D J P L) (after : Heard D J P L)
    → house.moment ≡ moment → slot ≡ Live old → Rises (front ++ (id, slot) ∷ back)
    → Turns w carries id moment old before result new after
    → Does w carries (turns id) (in_house house front (id, slot) back house.ended) before
    (IsOk result) (worked_in result)
    (in_house house front (id, Live new) back (house.ended + ended_in result)) after
turns_kept {D} {J} {P} {L} w carries house front back id moment slot old before result new after
    same
    is rises turned =
    subst
    (λ (s : Slot D J P L). Rises (front ++ (id, s) ∷ back)
    → Does w carries (turns id) (in_house house front (id, s) back house.ended) before (IsOk result)
    (worked_in result) (in_house house front (id, Live new) back (house.ended + ended_in result))
    after)
    (sym is)
    (λ (there : Rises (front ++ (id, Live old) ∷ back)).
    turns_there w carries house front back id old before result new after there
    (subst (λ (m : ℕ). Turns w carries id m old before result new after) (sym same) turned))
    rises

pub befalls_kept : {D J P L : Type 0} (w : Ways D J P) (carries : L → List LinkEvent)
    (house : House D J P L) (front back : List (ℕ × Slot D J P L)) (id moment : ℕ)
    (slot : Slot D J P L) (old : HeldDocument D J P L) (event : Event P) (before : Heard D J P L)
    (result : Result ℕ Memory) (new : HeldDocument D J P L) (after : Heard D J P L) (worked : Bool)
    → house.moment ≡ moment → slot ≡ Live old → Rises (front ++ (id, slot) ∷ back)
    → ((outs : Outs J) → is_done_here {L = L} (Did event outs) ≡ worked)
    → Befalls w carries id moment old event before result new after
    → Does w carries (did id event) (in_house house front (id, slot) back house.ended) before
    (IsOk result) worked
    (in_house house front (id, Live new) back (house.ended + count_of result)) after
befalls_kept {D} {J} {P} {L} w carries house front back id moment slot old event before result new
    after worked same is rises works befell =
    subst
    (λ (s : Slot D J P L). Rises (front ++ (id, s) ∷ back)
    → Does w carries (did id event) (in_house house front (id, s) back house.ended) before
    (IsOk result) worked
    (in_house house front (id, Live new) back (house.ended + count_of result)) after)
    (sym is)
    (λ (there : Rises (front ++ (id, Live old) ∷ back)).
    befalls_there w carries house front back id old event before result new after worked there works
    (subst (λ (m : ℕ). Befalls w carries id m old event before result new after) (sym same) befell))
    rises

pub refused_kept : {D J P L : Type 0} (w : Ways D J P) (carries : L → List LinkEvent)
    (plan : HeldDocument D J P L → Plan (House D J P L) (Happens D J P L)) (house : House D J P L)
    (front back : List (ℕ × Slot D J P L)) (id : ℕ) (slot : Slot D J P L) (file : List ℕ)
    (refusal : Refusal) (s : Heard D J P L) (fine : Type 0) (ended : ℕ)
    → slot ≡ Refused file refusal → ended ≡ house.ended → Rises (front ++ (id, slot) ∷ back)
    → Does w carries (for_live id plan) (in_house house front (id, slot) back house.ended) s fine
    false (in_house house front (id, slot) back ended) s
refused_kept {D} {J} {P} {L} w carries plan house front back id slot file refusal s fine ended is
    same
    rises =
    subst
    (λ (k : ℕ). Does w carries (for_live id plan)
    (in_house house front (id, slot) back house.ended) s fine false
    (in_house house front (id, slot) back k) s)
    (sym same)
    (subst
    (λ (x : Slot D J P L). Rises (front ++ (id, x) ∷ back)
    → Does w carries (for_live id plan) (in_house house front (id, x) back house.ended) s fine false
    (in_house house front (id, x) back house.ended) s)
    (sym is)
    (λ (there : Rises (front ++ (id, Refused file refusal) ∷ back)).
    refused_there w carries plan house front back id file refusal s fine there)
    rises)

-- a view left
pub leaves_kept : {D J P L : Type 0} (w : Ways D J P) (carries : L → List LinkEvent)
    (house : House D J P L) (front back : List (ℕ × Slot D J P L)) (id : ℕ) (slot : Slot D J P L)
    (old : HeldDocument D J P L) (view : ℕ) (s : Heard D J P L)
    (result : Result (Unit {0}) Memory) (new : HeldDocument D J P L) (Q : Type 0)
    → slot ≡ Live old → Rises (front ++ (id, slot) ∷ back) → OnOk result Q
    → (Q → Befell w carries id house.moment old (Left view) s 0 new s)
    → Does w carries (did id (Left view)) (in_house house front (id, slot) back house.ended) s
    (IsOk result) false (in_house house front (id, Live new) back house.ended) s
leaves_kept {D} {J} {P} {L} w carries house front back id slot old view s result new Q is rises on
    befell =
    subst
    (λ (x : Slot D J P L). Rises (front ++ (id, x) ∷ back)
    → Does w carries (did id (Left view)) (in_house house front (id, x) back house.ended) s
    (IsOk result) false (in_house house front (id, Live new) back house.ended) s)
    (sym is)
    (λ (there : Rises (front ++ (id, Live old) ∷ back)). by_result result on there)
    rises
  where
    by_result : (given : Result (Unit {0}) Memory) → OnOk given Q
        → Rises (front ++ (id, Live old) ∷ back)
        → Does w carries (did id (Left view)) (in_house house front (id, Live old) back house.ended)
        s (IsOk given) false (in_house house front (id, Live new) back house.ended) s
    by_result (Ok u) q there =
        subst
        (λ (k : ℕ). Does w carries (did id (Left view))
        (in_house house front (id, Live old) back house.ended) s (IsOk {T = Unit {0}} {E =
        Memory} (Ok u)) false
        (in_house house front (id, Live new) back k) s)
        (add-zero house.ended)
        (befell_there w carries house front back id old (Left view) s 0 new s (IsOk {T =
        Unit {0}} {E = Memory} (Ok u)) there
        (befell q))
    by_result (Err memory) q there =
        broke_there w carries (did id (Left view)) house front back id old s s
        (IsOk {T = Unit {0}} {E = Memory} (Err memory)) false
        (in_house house front (id, Live new) back house.ended) (λ f. true≢false (sym f)) there
        (inl refl)
