-- A view that a broker hasn't leaves it as it is.
use Rattle.std.proofs.Common.{◌≡◌, ℕ, Bool, true, false, cond, List, [], ◌∷◌, Option, None}
use Rattle.std.proofs.Common.{Some, Result, Ok, Err, IfOk, OnOk, nat_eq, refl, ap, ◌∙◌, sym}
use Rattle.std.proofs.Common.{true≢false}
use Rattle.std.specs.Option.{is_some, option_map_or}
use Rattle.kit_trait.specs.Rules.{Rules}
use Rattle.tile_key.specs.Places.{Place}
use Rattle.document_machine.specs.Event.{Event, Left}
use Rattle.document_machine.specs.Goes.{Goes}
use Rattle.document_machine.specs.Held.{Held}
use Rattle.document_machine.specs.Outputs.{nothing}
use Rattle.document_machine.specs.declared.outs.Outs.{Outs as Given}
use Rattle.document_machine.specs.Saves.{saving_left}
use Rattle.document_machine.specs.State.{Document, View, find_view, is_live, without_view}

-- the views without one that isn't there
nobody_goes : (views : List View) (id : ℕ) → is_live views id ≡ false
    → without_view views id ≡ views
nobody_goes [] id none = refl
nobody_goes (view ∷ views) id none =
    by_test (nat_eq view.id id) none (λ later. nobody_goes views id later)
  where
    by_test : (test : Bool) → is_some (cond test (Some view) (find_view views id)) ≡ false
        → (is_live views id ≡ false → without_view views id ≡ views)
        → cond test views (view ∷ without_view views id) ≡ view ∷ views
    by_test true there later = absurd (true≢false there)
    by_test false none later = ap (λ rest. view ∷ rest) (later none)

-- its saves are as they were
saves_stay : {S : Type 0} (d : Document S) (id : ℕ) → is_live d.views id ≡ false
    → saving_left d id ≡ d.saving
saves_stay d id none = rw none refl

-- the broker stays as it is by the step of that leave
pub leaves_alone : {C B S : Type 0} (rules : Rules C B) (cut : C → Place → S) (held : Held S)
    (id : ℕ) → is_live held.document.views id ≡ false
    → Goes rules cut (Some held) (Left id) nothing (Some held)
leaves_alone rules cut held id none = (
  (
    refl,
    sym
        (ap (λ views. record held.document {
          views = views;
          saving = saving_left held.document id;
        }) (nobody_goes held.document.views id none)
        ∙ ap (λ saving. record held.document { saving = saving })
        (saves_stay held.document id none)),
  ),
  refl,
)

-- the same of a broker that may be spent, and isn't
pub gone_stays : {C B S : Type 0} (rules : Rules C B) (cut : C → Place → S)
    (broker : Option (Held S)) (id : ℕ) → is_some broker ≡ true
    → option_map_or (λ held. is_live held.document.views id) broker false ≡ false
    → Goes rules cut broker (Left id) nothing broker
gone_stays rules cut None id some none = cc
gone_stays rules cut (Some held) id some none = leaves_alone rules cut held id none

-- a step leads to a broker that isn't spent
pub goes_alive : {C B S : Type 0} (rules : Rules C B) (cut : C → Place → S)
    (old : Option (Held S)) (id : ℕ) (new : Option (Held S))
    → Goes rules cut old (Left id) nothing new → is_some new ≡ true
goes_alive rules cut (Some old) id (Some new) step = refl
goes_alive rules cut (Some old) id None step = absurd step
goes_alive rules cut None id new step = absurd step

-- what holds of a broker's document, where it has one
pub of_some : {S : Type 0} (Q : Type 0) (broker : Option (Held S))
    → is_some broker ≡ true → ((held : Held S) → broker ≡ Some held → Q) → Q
of_some Q None some all = cc
of_some Q (Some held) some all = all held refl

-- every step leads to a broker that isn't spent
pub goes_some : {C B S : Type 0} (rules : Rules C B) (cut : C → Place → S)
    (old : Option (Held S)) (event : Event S) (outs : Given S) (new : Option (Held S))
    → Goes rules cut old event outs new → is_some new ≡ true
goes_some rules cut (Some old) event outs (Some new) step = refl
goes_some rules cut (Some old) event outs None step = absurd step
goes_some rules cut None event outs new step = absurd step

-- the same of a call's answer
pub alive_on : {C B S E : Type 0} (rules : Rules C B) (cut : C → Place → S)
    (old : Option (Held S)) (event : Event S) (new : Option (Held S)) (result : Result (Given S) E)
    → IfOk result (λ outs. Goes rules cut old event outs new) → OnOk result (is_some new ≡ true)
alive_on rules cut old event new (Ok outs) step = goes_some rules cut old event outs new step
alive_on rules cut old event new (Err e) step = tt
