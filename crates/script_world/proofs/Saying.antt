-- Messages and leaving, by what a broker answers.
use Rattle.std.proofs.Common.{◌≡◌, ℕ, Bool, true, false, cond, List, Option, None, Some, IsSome, refl, sym, ap, subst}
use Rattle.std.specs.Option.{ForSome, is_some, option_map}
use Rattle.document_machine.specs.Event.{Said}
use Rattle.document_machine.specs.Goes.{Goes}
use Rattle.document_machine.specs.Held.{Held}
use Rattle.document_machine.specs.State.{View, find_view}
use Rattle.document_machine.specs.declared.outs.Outs.{Outs}
use Rattle.kit_trait.specs.Rules.{Rules}
use Rattle.tile_key.specs.Places.{Place}
use Rattle.script_world.specs.House.{House, seated_at, SaysAs}
use Rattle.script_world.specs.Seats.{Seats, records}

-- the id of a seat that was found
abbrev pub FoundAs : {S : Type 0} → Option (Held S × ℕ) → ℕ → Type 0
FoundAs {S} found view = option_map (λ (seat : Held S × ℕ). seat.1) found ≡ Some view

abbrev pub one_if : {S : Type 0} → Bool → Held S → ℕ → Option (Held S × ℕ)
one_if b d id = cond b (Some (d, id)) None

-- a seat that was found is a live view of the document
found_in : {S : Type 0} (d : Held S) (id view : ℕ) (b : Bool) → is_some (find_view d.document.views id) ≡ b → FoundAs (one_if b d id) view
    → (one_if b d id ≡ Some (d, view)) × (is_some (find_view d.document.views view) ≡ true)
found_in {S} d id view true live found =
    let same : id ≡ view = cc in
    (ap (λ (n : ℕ). Some (d, n)) same, subst (λ (n : ℕ). is_some (find_view d.document.views n) ≡ true) same live)
found_in d id view false live found = absurd (cc)

found_at : {S : Type 0} (d : Held S) (seat : Option ℕ) (view : ℕ) → FoundAs (seated_at (Some d) seat) view
    → (seated_at (Some d) seat ≡ Some (d, view)) × (is_some (find_view d.document.views view) ≡ true)
found_at d None view found = absurd (cc)
found_at d (Some id) view found = found_in d id view (is_some (find_view d.document.views id)) refl found

some_found : (o : Option View) → is_some o ≡ true → IsSome o
some_found None e = absurd (cc)
some_found (Some v) e = refl

-- the view may be told something
pub live_by : {S : Type 0} (old : Option (Held S)) (seat : Option ℕ) (view : ℕ) → Some view ≡ option_map (λ (s : Held S × ℕ). s.1) (seated_at old seat)
    → ForSome old (λ d. IsSome (find_view d.document.views view))
live_by None seat view found = absurd (cc)
live_by {S} (Some d) seat view found =
    let here : IsSome (find_view d.document.views view) = some_found (find_view d.document.views view) (found_at d seat view (sym found)).1 in
    λ e is. let same : d ≡ e = cc in subst (λ (x : Held S). IsSome (find_view x.document.views view)) same here

-- a message of a view
pub said_by : {C B S : Type 0} (rules : Rules C B) (cut : C → Place → S) (seats : Seats) (link : ℕ) (text : List ℕ) (old new : Option (Held S)) (seat : Option ℕ) (view : ℕ) (outs : Outs S) (out : List ℕ)
    → Some view ≡ option_map (λ (s : Held S × ℕ). s.1) (seated_at old seat) → Goes rules cut old (Said view text) outs new → out ≡ records seats outs.frames
    → SaysAs rules cut (record { seats = seats; document = old }) link text (seated_at old seat) out (record { seats = seats; document = new })
said_by rules cut seats link text None new seat view outs out found goes is = absurd goes
said_by rules cut seats link text (Some d) None seat view outs out found goes is = absurd goes
said_by {C} {B} {S} rules cut seats link text (Some d) (Some e) seat view outs out found goes is =
    subst (λ (s : Option (Held S × ℕ)). SaysAs rules cut (record { seats = seats; document = Some d }) link text s out (record { seats = seats; document = Some e }))
    (sym (found_at d seat view (sym found)).0) (e, outs, goes, refl, is)

none_found : {S : Type 0} (found : Option (Held S × ℕ)) → None ≡ option_map (λ (s : Held S × ℕ). s.1) found → found ≡ None
none_found None e = refl
none_found (Some s) e = absurd (cc)

-- a message of a link that is no view
pub unsaid_by : {C B S : Type 0} (rules : Rules C B) (cut : C → Place → S) (house : House S) (link : ℕ) (text : List ℕ) (found : Option (Held S × ℕ)) (out : List ℕ)
    → None ≡ option_map (λ (s : Held S × ℕ). s.1) found → SaysAs rules cut house link text None out house → SaysAs rules cut house link text found out house
unsaid_by {C} {B} {S} rules cut house link text found out lacks says =
    subst (λ (s : Option (Held S × ℕ)). SaysAs rules cut house link text s out house) (sym (none_found found lacks)) says
