-- Slots of keys that are seen, with nothing on the screen, and a view as it joins.
use Rattle.std.proofs.Common.{◌≡◌, ℕ, ◌+◌, ◌||◌, Bool, true, false, min, nat_lt, List, [], ◌∷◌, length, map, suc, ◌<◌, refl, ap, subst, ◌∙◌, arith}
use Rattle.std.proofs.lemmas.Bool.Decides.{nat_tests}
use Rattle.std.specs.List.{AllByRecursion, Contains}
use Rattle.cool_base.specs.Points.{Extent, intersection_of, nowhere}
use Rattle.tile_key.specs.Places.{Place, Scale, IsKey}
use Rattle.tile_key.specs.Visible.{IsBefore, rows_of, visible_keys, whole_part, is_too_large}
use Rattle.document_machine.specs.Keys.{Pairwise}
use Rattle.document_machine.specs.State.{first_zoom, no_area}
use Rattle.send_window.specs.Tiles.{Sent}
use Rattle.document_machine.specs.declared.rights.Rights.{Rights}
use Rattle.view_session.specs.Viewing.{opening}
use Rattle.view_session.specs.Slots.{seen_in, screen_in, IsSlotted}
use Rattle.view_session.specs.Moves.{seen_slot}
use Rattle.view_session.specs.Held.{IsHeld}
use Rattle.view_session.specs.declared.slots.Slot.{Slot}
use Rattle.view_session.proofs.FindFacts.{Comes}
use Rattle.view_session.proofs.HeldFacts.{whole}

pub seen_fresh : (keys : List Place) → seen_in (map seen_slot keys) ≡ keys
seen_fresh [] = refl
seen_fresh (key ∷ keys) = ap (λ ks. key ∷ ks) (seen_fresh keys)

pub screen_fresh : (keys : List Place) → screen_in (map seen_slot keys) ≡ []
screen_fresh [] = refl
screen_fresh (key ∷ keys) = screen_fresh keys

all_fresh : (P : Place → Type 0) (keys : List Place) → AllByRecursion P keys → AllByRecursion (λ slot. P slot.key) (map seen_slot keys)
all_fresh P [] a = tt
all_fresh P (key ∷ keys) a = (a.0, all_fresh P keys a.1)

order_fresh : (keys : List Place) → Pairwise IsBefore keys → Pairwise Comes (map seen_slot keys)
order_fresh [] p = tt
order_fresh (key ∷ keys) p = (all_fresh (IsBefore key) keys p.0, order_fresh keys p.1)

needed_fresh : (keys : List Place) → AllByRecursion (λ slot. (slot.visible || slot.asked) ≡ true) (map seen_slot keys)
needed_fresh [] = tt
needed_fresh (key ∷ keys) = (refl, needed_fresh keys)

marks_fresh : (keys : List Place) → AllByRecursion (λ slot. slot.asked ≡ false) (map seen_slot keys)
marks_fresh [] = tt
marks_fresh (key ∷ keys) = (refl, marks_fresh keys)

pub slotted_fresh : (keys : List Place) → Pairwise IsBefore keys → IsSlotted (map seen_slot keys) []
slotted_fresh keys p = record { order = order_fresh keys p; needed = needed_fresh keys; marks = marks_fresh keys; held = tt }

-- no view is too large whose keys were listed
pub not_large : (b : Bool) → (b ≡ true → ⊥) → b ≡ false
not_large true f = absurd (f refl)
not_large false f = refl

-- what holds of each element that a list contains holds of all
pub all_contained : {X : Type 0} (P : X → Type 0) (xs : List X) → ((x : X) → Contains xs x → P x) → AllByRecursion P xs
all_contained P [] f = tt
all_contained P (x ∷ xs) f = (f x (0, omega arith, refl), all_contained P xs (λ y c. f y (suc c.0, (let lt : c.0 < length xs = c.1 in omega arith), c.2)))

-- what the parts of a view keep once it sees these keys
pub held_seeing : (zoom before : Scale) (old new : List Slot) (keys now asked asked_now : List Place) (window : List Sent) (next : ℕ) → IsHeld before old asked window next → now ≡ keys → asked_now ≡ asked → IsSlotted new asked_now → seen_in new ≡ now → is_too_large zoom (length keys) ≡ false → AllByRecursion IsKey keys → IsHeld zoom new asked window next
held_seeing zoom before old new keys now asked asked_now window next h now_is asked_is slotted seen small form =
    let is : seen_in new ≡ keys = seen ∙ now_is in
    record {
      slotted = subst (λ (ks : List Place). IsSlotted new ks) asked_is slotted;
      seen = ap (λ (ks : List Place). is_too_large zoom (length ks)) is ∙ small;
      seen_keys = rw is form;
      asked_keys = h.asked_keys;
      asked_once = h.asked_once;
      asked_few = h.asked_few;
      wids = h.wids;
      wids_below = h.wids_below;
    }

pub held_fresh : (zoom : Scale) (slots : List Slot) (keys asked : List Place) (window : List Sent) → slots ≡ map seen_slot keys → Pairwise IsBefore keys → is_too_large zoom (length keys) ≡ false → AllByRecursion IsKey keys → asked ≡ [] → window ≡ [] → IsHeld zoom slots asked window 1
held_fresh zoom slots keys asked window s p small form a w =
    rw (s, a, w) (record {
      slotted = slotted_fresh keys p;
      seen = rw (seen_fresh keys) small;
      seen_keys = rw (seen_fresh keys) form;
      asked_keys = tt;
      asked_once = tt;
      asked_few = omega arith;
      wids = tt;
      wids_below = tt;
    })

pub whole_opening : (rights : Rights) (zoom : Scale) (size : Extent) (slots : List Slot) (keys asked : List Place) (window : List Sent) → zoom ≡ first_zoom → keys ≡ visible_keys 0 zoom no_area size → slots ≡ map seen_slot keys → asked ≡ [] → window ≡ [] → whole rights 0 zoom no_area slots asked window 1 ≡ opening rights size
whole_opening rights zoom size slots keys asked window z k s a w =
    λ i. record {
      rights = rights;
      part = 0;
      zoom = z i;
      area = no_area;
      visible = (ap seen_in s ∙ seen_fresh keys ∙ k ∙ ap (λ (x : Scale). visible_keys 0 x no_area size) z) i;
      asked = a i;
      screen = (ap screen_in s ∙ screen_fresh keys) i;
      window = w i;
      next_wid = 1;
    }

-- an area of no point shows nothing
nothing_seen : (size : Extent) → intersection_of no_area (whole_part size) ≡ nowhere
nothing_seen size =
    let none : nat_lt 0 (min 0 (0 + size.w)) ≡ false = grind (arith, nat_tests) in
    rw none refl

pub nothing_visible : (size : Extent) → visible_keys 0 first_zoom no_area size ≡ []
unfolding visible_keys rows_of
nothing_visible size = rw (nothing_seen size) refl

-- a view that joins is never too large
pub never_large : (zoom : Scale) (size : Extent) → zoom ≡ first_zoom → is_too_large zoom (length (visible_keys 0 zoom no_area size)) ≡ true → ⊥
never_large zoom size e h =
    let none : is_too_large first_zoom (length (visible_keys 0 first_zoom no_area size)) ≡ false = rw (nothing_visible size) refl in
    let large : is_too_large first_zoom (length (visible_keys 0 first_zoom no_area size)) ≡ true = subst (λ (z : Scale). is_too_large z (length (visible_keys 0 z no_area size)) ≡ true) e h in
    absurd (cc)
