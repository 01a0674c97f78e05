-- A view that joined found room, and has the next id.
use Rattle.std.proofs.Common.{◌≡◌, ℕ, ◌<◌, true, false, length, nat_le, Option, None, Some, refl}
use Rattle.std.proofs.Common.{arith, ◌+◌, List, [], ◌∷◌, ◌++◌, Result, Ok, Err, IsErr, add-zero}
use Rattle.std.proofs.Common.{subst}
use Rattle.std.proofs.Common.{sym}
use Rattle.std.specs.Option.{option_map_or}
use Rattle.std.proofs.lemmas.Bool.Decides.{nat_tests}
use Rattle.kit_trait.specs.Rules.{Rules}
use Rattle.tile_key.specs.Places.{Place}
use Rattle.document_machine.specs.Event.{Joined}
use Rattle.document_machine.specs.Goes.{Goes}
use Rattle.document_machine.specs.Held.{Held}
use Rattle.document_machine.specs.declared.limits.TheConstants.{MOST_VIEWS}
use Rattle.document_machine.specs.declared.outs.Outs.{Outs}
use Rattle.document_machine.specs.declared.rights.Rights.{Rights}
use Rattle.cool_base.specs.declared.want.Memory.{Memory}
use Rattle.net_traits.specs.Nets.{LinkEvent}
use Rattle.poll_machine.specs.Words.{Outs as Given, Ways}
use Rattle.poll_machine.specs.Agenda.{HeldDocument, HeldStep, Joins, todo_of}
use Rattle.poll_machine.specs.House.{Slot, Live, House, Rises, is_among, without_link}
use Rattle.poll_machine.specs.Lobby.{happens_to}
use Rattle.poll_machine.specs.Told.{Heard}
use Rattle.poll_instance.specs.Instance.{is_full}
use Rattle.poll_documents.specs.Doing.{Does, in_house}
use Rattle.poll_documents.specs.Links.{JoinsIn}
use Rattle.poll_documents.specs.Settling.{Passes, Stops, owing}
use Rattle.poll_documents.proofs.Happening.{happened, happened_in_part}
use Rattle.poll_documents.proofs.Packing.{does_stop}

below_le : (a b : ℕ) → a < b → nat_le b a ≡ false
below_le a b less = grind (arith, nat_tests)

-- what a join tells of a broker that isn't spent
pub room_found : {C B S : Type 0} (rules : Rules C B) (cut : C → Place → S) (rights : Rights)
    (outs : Outs S) (view : ℕ) (old new : Option (Held S))
    → Goes rules cut old (Joined rights) outs new
    → ((held : Held S) → old ≡ Some held
    → (view ≡ held.document.next_view) × (length held.document.views < MOST_VIEWS))
    → (is_full old ≡ false) × (view ≡ option_map_or (λ held. held.document.next_view) old 0)
room_found rules cut rights outs view None new step all = absurd step
room_found rules cut rights outs view (Some held) new step all =
    let here : (view ≡ held.document.next_view) × (length held.document.views < MOST_VIEWS) =
    all held refl
    in
    (below_le (length held.document.views) MOST_VIEWS here.1, here.0)

-- a link of the lobby joined, and all that came of it was done
pub joined : {D J P L : Type 0} (w : Ways D J P) (carries : L → List LinkEvent)
    (house : House D J P L) (front back : List (ℕ × Slot D J P L)) (id moment link : ℕ)
    (rights : Rights) (old mid new : HeldDocument D J P L) (outs : Given J) (before : Heard D J P L)
    (n : ℕ) (after : Heard D J P L)
    → house.moment ≡ moment → is_among link house.lobby ≡ true
    → Rises (front ++ (id, Live old) ∷ back)
    → HeldStep w moment old (Joins link rights outs) (owing mid (todo_of outs))
    → Passes w carries id moment mid (todo_of outs) before n new [] after
    → new.todo ≡ []
    → JoinsIn w carries house id link rights front old back before (Ok (Some n)) (Live new) after
joined {D} {J} {P} {L} w carries house front back id moment link rights old mid new outs before n
    after
    same among rises step passes settled =
    subst
    (λ (k : ℕ). Does w carries (happens_to id (λ outs. Joins link rights outs))
    (in_house house front (id, Live old) back house.ended) before (Unit {0}) false
    (record (in_house house front (id, Live new) back (k + n)) {
      lobby = without_link link house.lobby;
    })
    after)
    (add-zero house.ended)
    (happened w carries house front id old mid new back
    (λ outs. Joins link rights outs) outs before n
    after (Unit {0}) rises
    (subst
    (λ (m : ℕ). HeldStep w m old (Joins link rights outs) (owing mid (todo_of outs)))
    (sym same) step)
    among (record { net = refl; port = refl; store = refl; clock = refl; yard = refl })
    (subst (λ (m : ℕ). Passes w carries id m mid (todo_of outs) before n new [] after)
    (sym same) passes)
    settled)

-- it joined, and a part of what came of it was done
pub joined_in_part : {D J P L : Type 0} (w : Ways D J P) (carries : L → List LinkEvent)
    (house : House D J P L) (front back : List (ℕ × Slot D J P L)) (id moment link : ℕ)
    (rights : Rights) (old mid : HeldDocument D J P L) (outs : Given J) (before : Heard D J P L)
    (result : Result (Option ℕ) Memory) (slot : Slot D J P L) (after : Heard D J P L)
    → IsErr result
    → house.moment ≡ moment → is_among link house.lobby ≡ true
    → Rises (front ++ (id, Live old) ∷ back)
    → HeldStep w moment old (Joins link rights outs) (owing mid (todo_of outs))
    → Stops w carries id moment mid (todo_of outs) before after
    → JoinsIn w carries house id link rights front old back before result slot after
joined_in_part w carries house front back id moment link rights old mid outs before
    (Ok n) slot after
    none same among rises step stops = cc
joined_in_part {D} {J} {P} {L} w carries house front back id moment link rights old mid outs before
    (Err memory) slot after none same among rises step stops =
    happened_in_part w carries house front id old mid back
    (Joins link rights outs) outs before after
    (happens_to id (λ outs. Joins link rights outs)) ⊥ false
    (in_house house front (id, Live old) back house.ended) (λ f. f) rises
    (subst
    (λ (m : ℕ). HeldStep w m old (Joins link rights outs) (owing mid (todo_of outs)))
    (sym same) step)
    among (record { net = refl; port = refl; store = refl; clock = refl; yard = refl })
    (subst (λ (m : ℕ). Stops w carries id m mid (todo_of outs) before after) (sym same) stops)

-- nothing was done of a join
pub joined_none : {D J P L : Type 0} (w : Ways D J P) (carries : L → List LinkEvent)
    (house : House D J P L) (front back : List (ℕ × Slot D J P L)) (id link : ℕ)
    (rights : Rights) (old : HeldDocument D J P L) (before : Heard D J P L) (memory : Memory)
    (slot : Slot D J P L)
    → JoinsIn w carries house id link rights front old back before (Err memory) slot before
joined_none w carries house front back id link rights old before memory slot =
    does_stop w carries (happens_to id (λ outs. Joins link rights outs))
    (in_house house front (id, Live old) back house.ended) before ⊥ false
    (in_house house front (id, Live old) back house.ended) (λ f. f)
