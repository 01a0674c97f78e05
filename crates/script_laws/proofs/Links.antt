-- Links of views, in the order of the views' ids, and records that go to them.
use Rattle.std.proofs.Common.{◌≡◌, ◌∙◌, ℕ, zero, suc, Bool, true, false, cond, ◌&&◌, List, [], ◌∷◌, ◌++◌, length, Option, None, Some, nat_eq, refl, sym, ap, subst, arith}
use Rattle.std.specs.BTreeMap.{insert_entry, is_at}
use Rattle.std.specs.List.{flat_map, slice_get, list_any, AllByRecursion}
use Rattle.std.specs.Map.{lookup, remove_entry}
use Rattle.std.specs.Option.{is_some, is_none}
use Rattle.std.specs.Ordering.{nat_cmp, is_eq, match_ordering}
use Rattle.std.specs.declared.cmp.Ordering.{Ordering}
use Rattle.std.specs.declared.cmp.Ordering.TheVariants.{Less, Equal, Greater}
use Rattle.cool_base.specs.declared.ids.ViewId.{ViewId}
use Rattle.cool_frame.specs.declared.frame.Frame.{Frame}
use Rattle.script_world.specs.Seats.{Seats, view_of, is_waiting, link_in, tells_if, record_to, records}
use Rattle.script_world.proofs.Ids.{HasLink}
use Rattle.script_laws.specs.Played.{Piece, Given, bytes_of, given_of, IsSent, AreSeated}
use Rattle.script_laws.proofs.Views.{AllTo}

-- what a list has it has with more behind it
pub slice_more : (xs more : List ℕ) (i x : ℕ) → slice_get xs i ≡ Some x → slice_get (xs ++ more) i ≡ Some x
slice_more [] more i x is = absurd (cc)
slice_more (y ∷ xs) more zero x is = is
slice_more (y ∷ xs) more (suc i) x is = slice_more xs more i x is

-- the one behind all
pub slice_next : (xs : List ℕ) (x : ℕ) → slice_get (xs ++ x ∷ []) (length xs) ≡ Some x
slice_next [] x = refl
slice_next (y ∷ xs) x = slice_next xs x

-- more links behind the others
pub more_seated : (links more : List ℕ) (seats : List (ℕ × ℕ)) → AreSeated links seats → AreSeated (links ++ more) seats
more_seated links more [] all = tt
more_seated links more (seat ∷ seats) all = (slice_more links more seat.1 seat.0 all.0, more_seated links more seats all.1)

-- a link that was no view is one now
sits_by : (o : Ordering) (links : List ℕ) (seat : ℕ × ℕ) (seats more : List (ℕ × ℕ)) (link view : ℕ) → is_eq o ≡ false → AreSeated links (seat ∷ seats) → AreSeated links more → slice_get links view ≡ Some link
    → AreSeated links (match_ordering o ((link, view) ∷ seat ∷ seats) ((seat.0, view) ∷ seats) (seat ∷ more))
sits_by Less links seat seats more link view apart all rest is = (is, all)
sits_by Equal links seat seats more link view apart all rest is = absurd (cc)
sits_by Greater links seat seats more link view apart all rest is = (all.0, rest)

no_hit : (b : Bool) (view : ℕ) (rest : Option ℕ) → cond b (Some view) rest ≡ None → (b ≡ false) × (rest ≡ None)
no_hit true view rest none = absurd (cc)
no_hit false view rest none = (refl, none)

pub sits_seated : (links : List ℕ) (seats : List (ℕ × ℕ)) (link view : ℕ) → lookup (is_at (nat_cmp link)) seats ≡ None → AreSeated links seats → slice_get links view ≡ Some link → AreSeated links (insert_entry nat_cmp seats link view)
sits_seated links [] link view none all is = (is, tt)
sits_seated links (seat ∷ seats) link view none all is =
    let apart = no_hit (is_at (nat_cmp link) seat.0) seat.1 (lookup (is_at (nat_cmp link)) seats) none in
    sits_by (nat_cmp link seat.0) links seat seats (insert_entry nat_cmp seats link view) link view apart.0 all (sits_seated links seats link view apart.1 all.1 is) is

-- a link that is gone
pub gone_seated : (links : List ℕ) (test : ℕ → Bool) (seats : List (ℕ × ℕ)) → AreSeated links seats → AreSeated links (remove_entry test seats)
gone_seated links test [] all = tt
gone_seated links test (seat ∷ seats) all =
    elim (test seat.0) as (λ b. AreSeated links (cond b seats (seat ∷ remove_entry test seats))) [
      | true ↦ all.1
      | false ↦ (all.0, gone_seated links test seats all.1)
    ]

-- a link of the lobby is no view
and_right : (a b : Bool) → (a && b) ≡ true → b ≡ true
and_right true b is = is
and_right false b is = absurd (cc)

none_is : (o : Option ℕ) → is_none o ≡ true → o ≡ None
none_is None is = refl
none_is (Some n) is = absurd (cc)

pub no_view : (seats : Seats) (link : ℕ) → is_waiting seats link ≡ true → view_of seats link ≡ None
no_view seats link waits = none_is (view_of seats link) (and_right (list_any (is_at (nat_cmp link)) seats.lobby) (is_none (view_of seats link)) waits)

-- the link of a view is that of its id
linked : (links : List ℕ) (seats : List (ℕ × ℕ)) (id : ℕ) → AreSeated links seats → HasLink seats id → (link : ℕ) × (link_in seats id ≡ Some link) × (slice_get links id ≡ Some link)
linked links [] id all has = absurd (cc)
linked links (seat ∷ seats) id all has =
    let go : (b : Bool) → nat_eq seat.1 id ≡ b → is_some (cond b (Some seat.0) (link_in seats id)) ≡ true → (link : ℕ) × (cond b (Some seat.0) (link_in seats id) ≡ Some link) × (slice_get links id ≡ Some link) = elim [
      | true ↦ λ is some. let same : seat.1 ≡ id = grind arith in (seat.0, refl, subst (λ (n : ℕ). slice_get links n ≡ Some seat.0) same all.0)
      | false ↦ λ is some. linked links seats id all.1 some
    ] in
    go (nat_eq seat.1 id) refl has

-- frames to views that have links are records, one for each, to the links of the views' ids
pub record AsPieces (links : List ℕ) (bytes : List ℕ) (frames : List (ViewId × Frame)) : Type 0 where
  pub pieces : List Piece
  pub written : flat_map bytes_of pieces ≡ bytes
  pub given : flat_map given_of pieces ≡ frames
  pub each : AllByRecursion (IsSent links) pieces

pub as_pieces : (links : List ℕ) (seats : Seats) (frames : List (ViewId × Frame)) → AreSeated links seats.views → AllTo (HasLink seats.views) frames → AsPieces links (records seats frames) frames
as_pieces links seats [] seated all = record { pieces = []; written = refl; given = refl; each = tt }
as_pieces links seats (given ∷ frames) seated all =
    let at = linked links seats.views given.0.0 seated all.0 in
    let rest : AsPieces links (records seats frames) frames = as_pieces links seats frames seated all.1 in
    record {
      pieces = Given at.0 given.0 given.1 ∷ rest.pieces;
      written = ap (λ (o : Option ℕ). tells_if o given.1 ++ flat_map bytes_of rest.pieces) (sym at.1) ∙ ap (λ (bytes : List ℕ). record_to seats given ++ bytes) rest.written;
      given = ap (λ (more : List (ViewId × Frame)). given ∷ more) rest.given;
      each = (at.2, rest.each);
    }
