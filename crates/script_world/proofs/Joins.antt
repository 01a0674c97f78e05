-- Loads, by what a broker answers.
use Rattle.std.proofs.Common.{◌≡◌, ◌∙◌, ℕ, ◌<◌, ◌≤◌, Bool, true, false, List, Option, None, Some, nat_lt, length, refl, sym, ap, subst, arith}
use Rattle.std.specs.Option.{ForSome}
use Rattle.broker_core.specs.Held.{IsFull}
use Rattle.document_machine.specs.Event.{Joined}
use Rattle.document_machine.specs.Goes.{Goes}
use Rattle.document_machine.specs.Held.{Held}
use Rattle.document_machine.specs.declared.limits.TheConstants.{MOST_VIEWS}
use Rattle.document_machine.specs.declared.outs.Outs.{Outs}
use Rattle.document_machine.specs.declared.rights.Rights.{Rights}
use Rattle.kit_trait.specs.Rules.{Rules}
use Rattle.tile_key.specs.Places.{Place}
use Rattle.script_world.specs.House.{House, JoinsWhere, LoadsOne}
use Rattle.script_world.specs.Seats.{Seats, sits, tells, records, views_full}
use Rattle.script_world.specs.Taken.{JoinsBy}

below : (n m : ℕ) → n < m → nat_lt n m ≡ true
below n m h = grind arith

not_below : (n m : ℕ) → m ≤ n → nat_lt n m ≡ false
not_below n m h = grind arith

-- a view that joined
pub joined_by : {C B S : Type 0} (rules : Rules C B) (cut : C → Place → S) (seats now : Seats) (link : ℕ) (given : Rights) (old new : Option (Held S)) (view : ℕ) (outs : Outs S) (out : List ℕ)
    → Goes rules cut old (Joined given) outs new → ForSome old (λ held. (view ≡ held.document.next_view) × (length held.document.views < MOST_VIEWS))
    → now ≡ sits seats link view → out ≡ records now outs.frames
    → JoinsBy rules cut seats link given old out (record { seats = now; document = new })
joined_by rules cut seats now link given None new view outs out goes which sat is = absurd goes
joined_by rules cut seats now link given (Some d) None view outs out goes which sat is = absurd goes
joined_by {C} {B} {S} rules cut seats now link given (Some d) (Some e) view outs out goes which sat is =
    let seated : now ≡ sits seats link d.document.next_view = sat ∙ ap (sits seats link) (which d refl).0 in
    subst (λ (b : Bool). JoinsWhere b rules cut seats link given d out (record { seats = now; document = Some e }))
    (sym (below (length d.document.views) MOST_VIEWS (which d refl).1))
    (e, outs, goes, ap (λ (s : Seats). record { seats = s; document = Some e }) seated, is ∙ ap (λ (s : Seats). records s outs.frames) seated)

-- a view that was refused
pub refused_by : {C B S : Type 0} (rules : Rules C B) (cut : C → Place → S) (seats : Seats) (link : ℕ) (given : Rights) (old new : Option (Held S)) (out : List ℕ)
    → IsFull old × (new ≡ old) → out ≡ tells link views_full
    → JoinsBy rules cut seats link given old out (record { seats = seats; document = new })
refused_by rules cut seats link given None new out full is = absurd full.0
refused_by {C} {B} {S} rules cut seats link given (Some d) new out full is =
    subst (λ (b : Bool). JoinsWhere b rules cut seats link given d out (record { seats = seats; document = new }))
    (sym (not_below (length d.document.views) MOST_VIEWS full.0))
    (is, ap (λ (o : Option (Held S)). record { seats = seats; document = o }) full.1)

-- a load of a document that is there
pub loads_by : {C B S : Type 0} (rules : Rules C B) (cut : C → Place → S) (seats : Seats) (link : ℕ) (file : List ℕ) (given : Rights) (old : Option (Held S)) (out : List ℕ) (new : House S)
    → JoinsBy rules cut seats link given old out new → LoadsOne rules cut seats old link file given out new
loads_by rules cut seats link file given None out new joins = absurd joins
loads_by rules cut seats link file given (Some d) out new joins = joins
