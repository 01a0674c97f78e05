-- What an applied input makes of the marks.
use Rattle.std.proofs.Common.{◌≡◌, ℕ, ◌+◌, ◌≤◌, Bool, true, false, ◌||◌, List, [], ◌∷◌, map, Some, refl, sym, ap, subst, ◌∙◌, arith, rules, add-one}
use Rattle.std.specs.Prelude.{nat_le, slice_get}
use Rattle.std.specs.List.{AllByRecursion}
use Rattle.std.proofs.lemmas.Bool.Decides.{nat_tests}
use Rattle.kit_trait.specs.Rules.{Rules, doc}
use Rattle.kit_trait.specs.declared.values.Damage.{Damage}
use Rattle.kit_trait.specs.declared.values.Input.{Input}
use Rattle.tile_key.specs.Places.{Place}
use Rattle.document_machine.specs.Due.{touched, damage_of, damages as hits, is_hurt}
use Rattle.view_session.specs.Viewing.{Viewing, Entry, damaged, hit}
use Rattle.broker_core.specs.Held.{IsTracked}
use Rattle.broker_core.specs.Members.{shown_of, view_of, views_of}
use Rattle.broker_core.specs.Serving.{damaged_by, marked_by}
use Rattle.broker_core.specs.declared.members.Member.{Member}

-- an entry with all these damages noted
abbrev pub marked : List Damage → Entry → Entry
marked damages entry = record entry { stale = entry.stale || is_hurt damages entry.key }

or_false : (b : Bool) → (b || false) ≡ b
or_false true = refl
or_false false = refl

or_assoc : (a b c : Bool) → ((a || b) || c) ≡ (a || (b || c))
or_assoc true b c = refl
or_assoc false b c = refl

map_same : {X Y : Type 0} (f g : X → Y) → ((x : X) → f x ≡ g x) → (xs : List X) → map f xs ≡ map g xs
map_same f g same [] = refl
map_same f g same (x ∷ xs) = ap (λ y. y ∷ map f xs) (same x) ∙ ap (λ ys. g x ∷ ys) (map_same f g same xs)

map_map : {X Y Z : Type 0} (g : Y → Z) (f : X → Y) (xs : List X) → map g (map f xs) ≡ map (λ x. g (f x)) xs
map_map g f [] = refl
map_map g f (x ∷ xs) = ap (λ ys. g (f x) ∷ ys) (map_map g f xs)

map_id : {X : Type 0} (f : X → X) → ((x : X) → f x ≡ x) → (xs : List X) → map f xs ≡ xs
map_id f same [] = refl
map_id f same (x ∷ xs) = ap (λ y. y ∷ map f xs) (same x) ∙ ap (λ ys. x ∷ ys) (map_id f same xs)

marked_none : (entry : Entry) → marked [] entry ≡ entry
marked_none entry = ap (λ b. record entry { stale = b }) (or_false entry.stale)

marked_more : (damage : Damage) (damages : List Damage) (entry : Entry) → marked damages (hit damage.part damage.rect entry) ≡ marked (damage ∷ damages) entry
marked_more damage damages entry =
    ap (λ b. record entry { stale = b }) (or_assoc entry.stale (hits entry.key damage) (is_hurt damages entry.key))

-- noting the damages one after the other marks every entry of the screen by all of them
pub damaged_is : (damages : List Damage) (v : Viewing) → damaged_by damages v ≡ record v { screen = map (marked damages) v.screen }
damaged_is [] v = ap (λ es. record v { screen = es }) (sym (map_id (marked []) marked_none v.screen))
damaged_is (damage ∷ damages) v =
    damaged_is damages (damaged damage.part damage.rect v)
    ∙ ap (λ es. record v { screen = es }) (map_map (marked damages) (hit damage.part damage.rect) v.screen
    ∙ map_same (λ e. marked damages (hit damage.part damage.rect e)) (marked (damage ∷ damages)) (marked_more damage damages) v.screen)

-- one more input touches what it damages above the version
pub touched_more : {C B : Type 0} (rules : Rules C B) (base : List ℕ) (journal : List Input) (version : ℕ) (key : Place) (n : ℕ) → version ≤ n → (touched rules base journal version key n || is_hurt (damage_of rules base journal n) key) ≡ touched rules base journal version key (n + 1)
touched_more rules base journal version key n le =
    let past : nat_le version n ≡ true = grind (arith, nat_tests) in
    rw (add-one, past) refl

-- what an input damages, by the contents in front of it
pub damage_is : {C B : Type 0} (rules : Rules C B) (base : List ℕ) (journal : List Input) (n : ℕ) (input : Input) → slice_get journal n ≡ Some input → damage_of rules base journal n ≡ rules.hurt (doc rules base journal n) input
damage_is rules base journal n input behind = rw behind refl

-- an entry's mark is right after one more input
pub mark_more : {C B : Type 0} (rules : Rules C B) (base : List ℕ) (journal : List Input) (applied : ℕ) (damages : List Damage) (entry : Entry) → damages ≡ damage_of rules base journal applied → entry.version ≤ applied → entry.stale ≡ touched rules base journal entry.version entry.key applied → (entry.stale || is_hurt damages entry.key) ≡ touched rules base journal entry.version entry.key (applied + 1)
mark_more rules base journal applied damages entry is le right =
    ap (λ b. b || is_hurt damages entry.key) right
    ∙ ap (λ (h : List Damage). touched rules base journal entry.version entry.key applied || is_hurt h entry.key) is
    ∙ touched_more rules base journal entry.version entry.key applied le

pub marks_more : {C B : Type 0} (rules : Rules C B) (base : List ℕ) (journal : List Input) (applied : ℕ) (damages : List Damage) (screen : List Entry) → damages ≡ damage_of rules base journal applied → AllByRecursion (λ (e : Entry). e.version ≤ applied) screen → AllByRecursion (λ (e : Entry). e.stale ≡ touched rules base journal e.version e.key applied) screen → AllByRecursion (λ (e : Entry). e.stale ≡ touched rules base journal e.version e.key (applied + 1)) (map (marked damages) screen)
marks_more rules base journal applied damages [] is les rights = tt
marks_more rules base journal applied damages (entry ∷ screen) is les rights =
    (mark_more rules base journal applied damages entry is les.0 rights.0, marks_more rules base journal applied damages screen is les.1 rights.1)

-- the machine's screen has no marks
unmarked : (damages : List Damage) (screen : List Entry) → map shown_of (map (marked damages) screen) ≡ map shown_of screen
unmarked damages [] = refl
unmarked damages (entry ∷ screen) = ap (λ es. shown_of entry ∷ es) (unmarked damages screen)

-- the machine's view is the same once damages are noted
pub view_marked : (damages : List Damage) (member : Member) → view_of (marked_by damages member) ≡ view_of member
view_marked damages member =
    ap (λ v. view_of (record member { view = v })) (damaged_is damages member.view)
    ∙ ap (λ es. record (view_of member) { screen = es }) (unmarked damages member.view.screen)

pub views_marked : (damages : List Damage) (members : List Member) → views_of (map (marked_by damages) members) ≡ views_of members
views_marked damages [] = refl
views_marked damages (member ∷ members) =
    ap (λ v. v ∷ views_of (map (marked_by damages) members)) (view_marked damages member)
    ∙ ap (λ vs. view_of member ∷ vs) (views_marked damages members)

-- what is kept of a member after one more input, with the damages noted
tracked_marked : {C B : Type 0} (rules : Rules C B) (base : List ℕ) (journal : List Input) (applied : ℕ) (damages : List Damage) (member : Member) → damages ≡ damage_of rules base journal applied → AllByRecursion (λ (e : Entry). e.version ≤ applied) member.view.screen → IsTracked rules base journal applied member → IsTracked rules base journal (applied + 1) (marked_by damages member)
tracked_marked rules base journal applied damages member is versions s =
    let v : Viewing = member.view in
    let after : IsTracked rules base journal (applied + 1) (record member { view = record v { screen = map (marked damages) v.screen } }) = record {
      seen = s.seen;
      marks = marks_more rules base journal applied damages v.screen is versions s.marks;
    } in
    subst (λ w. IsTracked rules base journal (applied + 1) (record member { view = w })) (sym (damaged_is damages v)) after

pub all_marked : {C B : Type 0} (rules : Rules C B) (base : List ℕ) (journal : List Input) (applied : ℕ) (damages : List Damage) (members : List Member) → damages ≡ damage_of rules base journal applied → AllByRecursion (λ (m : Member). AllByRecursion (λ (e : Entry). e.version ≤ applied) m.view.screen) members → AllByRecursion (IsTracked rules base journal applied) members → AllByRecursion (IsTracked rules base journal (applied + 1)) (map (marked_by damages) members)
all_marked rules base journal applied damages [] is versions all = tt
all_marked rules base journal applied damages (member ∷ members) is versions all =
    (tracked_marked rules base journal applied damages member is versions.0 all.0, all_marked rules base journal applied damages members is versions.1 all.1)
