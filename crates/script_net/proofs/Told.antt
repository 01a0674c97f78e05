-- What a net in memory tells after each call.
use Rattle.std.proofs.Common.{◌≡◌, ℕ, Bool, true, false, not, ◌==◌, List, [], ◌∷◌, ◌++◌, Option}
use Rattle.std.proofs.Common.{Some, None, Result, Ok, ap, refl, sym, subst, ◌∙◌, arith}
use Rattle.std.proofs.Common.{if◌then◌else◌}
use Rattle.std.proofs.lemmas.List.{map-append}
use Rattle.cool_base.specs.declared.ids.LinkId.{LinkId}
use Rattle.cool_base.specs.declared.want.Memory.{Memory}
use Rattle.outside.specs.Causes.{HasCause}
use Rattle.net_traits.specs.declared.nets.Taken.{Taken}
use Rattle.net_traits.specs.declared.nets.Taken.TheVariants.{Opened, Said, Left, Nothing, Failed}
use Rattle.net_traits.specs.declared.nets.Given.{Given}
use Rattle.net_traits.specs.declared.nets.Given.TheVariants as gives
use Rattle.net_traits.specs.Nets.{LinkEvent, MayTake, Takes, Gives, Releases, Adopts, taken_of}
use Rattle.script_net.specs.declared.gifts.Gift.{Gift}
use Rattle.script_net.specs.Past.{told_of, call_of, is_one_of, without, held_after}
use Rattle.script_net.specs.declared.events.Event.{Event}
use Rattle.script_net.specs.declared.events.Event.TheVariants.{Opens, Says, Leaves}
use Rattle.script_net.specs.declared.events.Coming.{Coming}
use Rattle.script_net.specs.Queues.{LinkSeen, event_at, opens, is_same, TakesIf, TakesAt}
use Rattle.script_net.proofs.Held.{held_pushed, held_without, missed_pushed}

with_self : (n : ℕ) (x : Bool) → (if n == n then true else x) ≡ true
with_self n x = grind arith

not_false : (b : Bool) → not b ≡ false → b ≡ true
not_false true e = refl
not_false false e = absurd (cc)

still : (b x : Bool) → (if b then false else x) ≡ true → x ≡ true
still true x e = absurd (cc)
still false x e = e

-- A link that is to open isn't held, and one that says something or leaves is.
may_event : (held : List LinkId) (notes : List (Taken × Option Gift))
    (misses : List (LinkId × LinkId)) (link : LinkId) (event : Event)
    → is_same (opens event) (is_one_of held link.0) ≡ false
    → MayTake (taken_of (event_at link event)) (told_of held notes misses)
may_event held notes misses link Opens e = (e, e, tt)
may_event held notes misses link (Says bytes) e = not_false (is_one_of held link.0) e
may_event held notes misses link Leaves e = not_false (is_one_of held link.0) e

same_some : {A : Type 0} (x y : A) → Some x ≡ Some y → x ≡ y
same_some x y h = cc

may_if : (b : Bool) (held : List LinkId) (notes : List (Taken × Option Gift))
    (misses : List (LinkId × LinkId)) (c : Coming) (cs : List Coming) (l : LinkSeen)
    (taken : Taken) (after : LinkSeen) → is_same (opens c.event) (is_one_of held l.link.0) ≡ b
    → TakesIf b c cs l (Some taken) after → MayTake taken (told_of held notes misses)
may_if true held notes misses c cs l taken after e takes = absurd
    (let h : Some taken ≡ None = takes.0 in cc)
may_if false held notes misses c cs l taken after e takes =
    subst (λ t. MayTake t (told_of held notes misses))
    (sym (same_some taken (taken_of (event_at l.link c.event)) takes.0))
    (may_event held notes misses l.link c.event e)

-- What a link gives may be taken.
pub may_take : (held : List LinkId) (notes : List (Taken × Option Gift))
    (misses : List (LinkId × LinkId)) (waiting : List Coming) (l : LinkSeen) (taken : Taken)
    (after : LinkSeen) → TakesAt waiting l (is_one_of held l.link.0) (Some taken) after
    → MayTake taken (told_of held notes misses)
may_take held notes misses [] l taken after takes = absurd
    (let h : Some taken ≡ None = takes.0 in cc)
may_take held notes misses (c ∷ cs) l taken after takes = may_if
    (is_same (opens c.event)
    (is_one_of held l.link.0)) held notes misses c cs l taken after refl takes

-- A take that was noted.
pub take_told : (held : List LinkId) (notes : List (Taken × Option Gift))
    (misses : List (LinkId × LinkId)) (taken : Taken) → MayTake taken (told_of held notes misses)
    → Takes (told_of held notes misses) taken
    (told_of (held_after taken held) (notes ++ (taken, None) ∷ []) misses)
take_told held notes misses (Opened link) may = record {
  calls = map-append call_of notes ((Opened link, None) ∷ []);
  may = may;
  opened = λ id. held_pushed held link id;
  held = (
    held_pushed held link link.0
        ∙ with_self link.0 (is_one_of held link.0),
    λ id yes. sym (held_pushed held link id) ∙ yes,
  );
  missed = λ id. refl;
  room = refl;
  waiting = tt;
}
take_told held notes misses (Said link bytes) may = record {
  calls = map-append call_of notes ((Said link bytes, None) ∷ []);
  may = may;
  opened = λ id. refl;
  held = λ id yes. yes;
  missed = λ id. refl;
  room = refl;
  waiting = tt;
}
take_told held notes misses (Left link) may = record {
  calls = map-append call_of notes ((Left link, None) ∷ []);
  may = may;
  opened = λ id. held_without held link id;
  held = λ id yes. still (id == link.0) (is_one_of held id) (sym (held_without held link id) ∙ yes);
  missed = λ id. refl;
  room = refl;
  waiting = tt;
}
take_told held notes misses Nothing may = record {
  calls = map-append call_of notes ((Nothing, None) ∷ []);
  may = may;
  opened = λ id. refl;
  held = λ id yes. yes;
  missed = λ id. refl;
  room = refl;
  waiting = tt;
}
take_told held notes misses Failed may = record {
  calls = map-append call_of notes ((Failed, None) ∷ []);
  may = may;
  opened = λ id. refl;
  held = λ id yes. yes;
  missed = λ id. refl;
  room = refl;
  waiting = tt;
}

-- A give that failed with cause is answered with cause.
same_ok : {A F : Type 0} (x y : A) → ◌≡◌ {A = Result A F} (Ok x) (Ok y) → x ≡ y
same_ok x y h = cc

pub answered : (before now : ℕ) (given : Given) → HasCause before now (given ≡ gives.Failed)
    → HasCause before now (◌≡◌ {A = Result Given Memory} (Ok given) (Ok gives.Failed))
answered before now given cause = record {
  later = cause.later;
  failed = λ e. cause.failed (same_ok given gives.Failed e);
  kept = λ other. cause.kept (λ e. other (ap (λ x. Ok x) e));
}

-- A give that was noted.
pub give_told : (held : List LinkId) (notes : List (Taken × Option Gift))
    (misses : List (LinkId × LinkId)) (gift : Gift)
    → Gives (told_of held notes misses) gift.frame.link gift.frame.bytes gift.given
    (told_of held (notes ++ (Nothing, Some gift) ∷ []) misses)
give_told held notes misses gift = record {
  calls = map-append call_of notes ((Nothing, Some gift) ∷ []);
  opened = λ id. refl;
  held = λ id yes. yes;
  missed = λ id. refl;
  room = refl;
  waiting = refl;
}

-- A release of a link that was held.
pub release_told : (held : List LinkId) (notes : List (Taken × Option Gift))
    (misses : List (LinkId × LinkId)) (link : LinkId) → is_one_of held link.0 ≡ true
    → Releases (told_of held notes misses) link true (told_of (without link held) notes misses)
release_told held notes misses link here = record {
  calls = refl;
  gives = sym here;
  opened = λ id. held_without held link id;
  held = λ id. held_without held link id;
  missed = λ id. refl;
  room = refl;
  waiting = tt;
}

-- A release of one that wasn't.
pub release_missed : (held : List LinkId) (notes : List (Taken × Option Gift))
    (misses : List (LinkId × LinkId)) (link : LinkId) → is_one_of held link.0 ≡ false
    → Releases (told_of held notes misses) link false
    (told_of (without link held) notes (misses ++ (link, link) ∷ []))
release_missed held notes misses link here = record {
  calls = refl;
  gives = sym here;
  opened = λ id. held_without held link id;
  held = λ id. held_without held link id;
  missed = λ id. missed_pushed misses link link id;
  room = refl;
  waiting = tt;
}

-- A link that was adopted.
pub adopt_told : (held : List LinkId) (notes : List (Taken × Option Gift))
    (misses : List (LinkId × LinkId)) (link : LinkId) (carried : List LinkEvent)
    → is_one_of held link.0 ≡ false
    → Adopts (told_of held notes misses) link carried (told_of (held ++ link ∷ []) notes misses)
adopt_told held notes misses link carried here = record {
  calls = refl;
  closed = here;
  free = here;
  opened = λ id. held_pushed held link id;
  held = λ id. held_pushed held link id;
  missed = λ id. refl;
  room = refl;
  waiting = tt;
}
