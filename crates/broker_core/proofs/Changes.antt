-- What a member becomes by a message of its view.
use Rattle.std.proofs.Common.{◌≡◌, ◌≢◌, ◌↔◌, ℕ, ◌<◌, ◌≤◌, Bool, true, false, not, cond, List, [], ◌∷◌, length, map, filter, None, Some, Result, Ok, Err, refl, sym, ap, subst, ◌∙◌, arith, nat_eq}
use Rattle.std.specs.Prelude.{IfOk, OnOk, OnErr, codes, nat_lt}
use Rattle.std.specs.List.{list_any}
use Rattle.std.proofs.lemmas.Bool.Decides.{nat_tests}
use Rattle.cool_base.specs.Points.{Rectangle, Extent}
use Rattle.cool_frame.specs.declared.frame.Frame.TheVariants.{Error}
use Rattle.cool_frame.specs.declared.kind.ErrorKind.{ErrorKind}
use Rattle.cool_frame.specs.declared.kind.ErrorKind.TheVariants.{AskedFull, BadTile, TooLarge}
use Rattle.tile_key.specs.Places.{Place, Scale}
use Rattle.tile_key.specs.Visible.{visible_keys, is_too_large}
use Rattle.document_machine.specs.Due.{seen_keys}
use Rattle.document_machine.specs.Message.{Limits, Effect, becomes, refuses, seeing_effect, asking_effect, going_effect, forgets, cancels as cancels_all, acknowledged, asked_with_all}
use Rattle.document_machine.specs.State.{Shown, View}
use Rattle.document_machine.specs.declared.limits.TheConstants.{MOST_ASKED}
use Rattle.view_session.specs.Viewing.{Viewing, Entry, asks, looks, zooms, goes_to, cancels, wants}
use Rattle.view_session.specs.declared.views.ViewFault.{ViewFault}
use Rattle.view_session.specs.declared.views.ViewFault.TheVariants.{TooLarge as SeesTooMuch, AskedFull as AsksTooMuch, Memory}
use Rattle.broker_core.specs.Hearing.{Hears, effect_in, frames_in, inputs_in, save_in, outcome_of}
use Rattle.broker_core.specs.Members.{shown_of, view_of}
use Rattle.broker_core.specs.declared.hearing.Outcome.{Outcome}
use Rattle.broker_core.specs.declared.hearing.Outcome.TheVariants.{Nothing, Answer}
use Rattle.broker_core.specs.declared.members.Member.{Member}
use Rattle.broker_core.proofs.Lists.{keeps_all}

-- two facts of an answer give a third
pub all_two : {X E : Type 0} (r : Result X E) (P T : X → Type 0) (M : Type 0) → IfOk r P → OnOk r M → ((x : X) → P x → M → T x) → IfOk r T
all_two (Ok x) P T M p m f = f x p m
all_two (Err e) P T M p m f = tt

off : (b : Bool) → (b ≡ true → ⊥) → b ≡ false
off b never =
    let go : (c : Bool) → b ≡ c → b ≡ false = elim [
      | true ↦ λ is. absurd (never is)
      | false ↦ λ is. is
    ] in
    go b refl

-- a screen that forgets keys, without the marks
screen_keeps : (p : Place → Bool) (screen : List Entry) → filter (λ shown. p shown.key) (map shown_of screen) ≡ map shown_of (filter (λ entry. p entry.key) screen)
screen_keeps p [] = refl
screen_keeps p (entry ∷ screen) =
    let go : (b : Bool) → cond b (shown_of entry ∷ filter (λ shown. p shown.key) (map shown_of screen)) (filter (λ shown. p shown.key) (map shown_of screen)) ≡ map shown_of (cond b (entry ∷ filter (λ e. p e.key) screen) (filter (λ e. p e.key) screen)) = elim [
      | true ↦ ap (λ s. shown_of entry ∷ s) (screen_keeps p screen)
      | false ↦ screen_keeps p screen
    ] in
    go (p entry.key)

-- the member with another view
abbrev pub with_viewing : Member → Viewing → Member
with_viewing member view = record member { view = view }

-- a message that leaves the member as it is
pub same_hears : (sizes : ℕ → Extent) (member : Member) (effect : Effect) (outcome : Outcome) → effect_in (view_of member) outcome ≡ effect → member.view.visible ≡ seen_keys sizes (view_of member) → Hears sizes member effect outcome member
same_hears sizes member effect outcome is seen = record {
  is = is;
  seen = seen;
  keeps = λ entry. true;
  screen_is = sym (keeps_all member.view.screen);
}

-- a message that is refused
pub refuses_hears : (sizes : ℕ → Extent) (member : Member) (command : List ℕ) (kind : ErrorKind) (effect : Effect) (outcome : Outcome) → outcome ≡ Answer (Error command kind None) → refuses (view_of member) command kind ≡ effect → member.view.visible ≡ seen_keys sizes (view_of member) → Hears sizes member effect outcome member
refuses_hears sizes member command kind effect outcome is effect_is seen = same_hears sizes member effect outcome (ap (effect_in (view_of member)) is ∙ effect_is) seen

-- a message by which the view is this one
becomes_hears : (sizes : ℕ → Extent) (member : Member) (next : Viewing) (view : View) (keeps : Entry → Bool) (outcome : Outcome)
    → frames_in outcome ≡ [] → inputs_in outcome ≡ [] → save_in outcome ≡ None → view_of (with_viewing member next) ≡ view → next.visible ≡ seen_keys sizes view → next.screen ≡ filter keeps member.view.screen
    → Hears sizes member (becomes view) outcome (with_viewing member next)
becomes_hears sizes member next view keeps outcome frames inputs save view_is seen screen = record {
  is = λ i. record { frames = frames i; inputs = inputs i; save = save i; view = view_is i };
  seen = seen ∙ ap (seen_keys sizes) (sym view_is);
  keeps = keeps;
  screen_is = screen;
}

-- a change of what a view sees
change_hears : (sizes : ℕ → Extent) (member now : Member) (command : List ℕ) (changed : View) (next : Viewing) (keeps : Entry → Bool) (change : Result (Unit {0}) ViewFault) (outcome : Outcome)
    → now.id ≡ member.id → OnOk change (now.view ≡ next) → ((change ≡ Err SeesTooMuch) ↔ (is_too_large changed.zoom (length (seen_keys sizes changed)) ≡ true)) → change ≢ Err AsksTooMuch → OnErr change (now.view ≡ member.view) → change ≢ Err Memory
    → outcome ≡ outcome_of command change
    → view_of (with_viewing member next) ≡ forgets sizes changed → next.visible ≡ seen_keys sizes changed → next.screen ≡ filter keeps member.view.screen
    → member.view.visible ≡ seen_keys sizes (view_of member)
    → Hears sizes member (seeing_effect sizes (view_of member) command changed) outcome now
change_hears sizes member now command changed next keeps (Ok done) outcome id_is ok large full err memory told view_is seen screen was =
    let small : is_too_large changed.zoom (length (seen_keys sizes changed)) ≡ false = off _ (λ so. let e = large.1 so in absurd (cc)) in
    let now_is : with_viewing member next ≡ now = λ i. record { id = sym id_is i; view = sym ok i } in
    let effect_is : becomes (forgets sizes changed) ≡ seeing_effect sizes (view_of member) command changed = ap (λ b. cond b (refuses (view_of member) command TooLarge) (becomes (forgets sizes changed))) (sym small) in
    subst (λ (m : Member). Hears sizes member (seeing_effect sizes (view_of member) command changed) outcome m) now_is
    (subst (λ (e : Effect). Hears sizes member e outcome (with_viewing member next)) effect_is
    (becomes_hears sizes member next (forgets sizes changed) keeps outcome (ap frames_in told) (ap inputs_in told) (ap save_in told) view_is seen screen))
change_hears sizes member now command changed next keeps (Err SeesTooMuch) outcome id_is ok large full err memory told view_is seen screen was =
    let now_is : member ≡ now = λ i. record { id = sym id_is i; view = sym err i } in
    let effect_is : refuses (view_of member) command TooLarge ≡ seeing_effect sizes (view_of member) command changed = ap (λ b. cond b (refuses (view_of member) command TooLarge) (becomes (forgets sizes changed))) (sym (large.0 refl)) in
    let is : effect_in (view_of member) outcome ≡ refuses (view_of member) command TooLarge = λ i. record { frames = ap frames_in told i; inputs = ap inputs_in told i; save = ap save_in told i; view = view_of member } in
    subst (λ (m : Member). Hears sizes member (seeing_effect sizes (view_of member) command changed) outcome m) now_is (same_hears sizes member _ outcome (is ∙ effect_is) was)
change_hears sizes member now command changed next keeps (Err AsksTooMuch) outcome id_is ok large full err memory told view_is seen screen was = absurd (full refl)
change_hears sizes member now command changed next keeps (Err Memory) outcome id_is ok large full err memory told view_is seen screen was = absurd (memory refl)

module _ (sizes : ℕ → Extent) (member now : Member) (size : Extent) (change : Result (Unit {0}) ViewFault) (outcome : Outcome) where
  -- the view looks at another area
  pub look_hears : (area : Rectangle) (command : List ℕ) → size ≡ sizes member.view.part → now.id ≡ member.id
      → OnOk change (now.view ≡ looks area size member.view) → ((change ≡ Err SeesTooMuch) ↔ (is_too_large member.view.zoom (length (visible_keys member.view.part member.view.zoom area size)) ≡ true)) → change ≢ Err AsksTooMuch → OnErr change (now.view ≡ member.view) → change ≢ Err Memory
      → outcome ≡ outcome_of command change → member.view.visible ≡ seen_keys sizes (view_of member)
      → Hears sizes member (seeing_effect sizes (view_of member) command (record (view_of member) { area = area })) outcome now
  look_hears area command size_is id_is ok large full err memory told was =
      let v : Viewing = record member.view { area = area; visible = visible_keys member.view.part member.view.zoom area (sizes member.view.part) } in
      let keeps : Entry → Bool = λ entry. wants v entry.key in
      let view_is : view_of (with_viewing member (looks area (sizes member.view.part) member.view)) ≡ forgets sizes (record (view_of member) { area = area }) =
      ap (λ (s : List Shown). record (view_of (with_viewing member v)) { screen = s }) (sym (screen_keeps (wants v) member.view.screen)) in
      change_hears sizes member now command (record (view_of member) { area = area }) (looks area (sizes member.view.part) member.view) keeps change outcome id_is
      (subst (λ (s : Extent). OnOk change (now.view ≡ looks area s member.view)) size_is ok)
      (subst (λ (s : Extent). (change ≡ Err SeesTooMuch) ↔ (is_too_large member.view.zoom (length (visible_keys member.view.part member.view.zoom area s)) ≡ true)) size_is large)
      full err memory told view_is refl refl was

  -- the view's tiles have another size
  pub scale_hears : (zoom : Scale) (command : List ℕ) → size ≡ sizes member.view.part → now.id ≡ member.id
      → OnOk change (now.view ≡ zooms zoom size member.view) → ((change ≡ Err SeesTooMuch) ↔ (is_too_large zoom (length (visible_keys member.view.part zoom member.view.area size)) ≡ true)) → change ≢ Err AsksTooMuch → OnErr change (now.view ≡ member.view) → change ≢ Err Memory
      → outcome ≡ outcome_of command change → member.view.visible ≡ seen_keys sizes (view_of member)
      → Hears sizes member (seeing_effect sizes (view_of member) command (record (view_of member) { zoom = zoom })) outcome now
  scale_hears zoom command size_is id_is ok large full err memory told was =
      let v : Viewing = record member.view { zoom = zoom; visible = visible_keys member.view.part zoom member.view.area (sizes member.view.part) } in
      let keeps : Entry → Bool = λ entry. wants v entry.key in
      let view_is : view_of (with_viewing member (zooms zoom (sizes member.view.part) member.view)) ≡ forgets sizes (record (view_of member) { zoom = zoom }) =
      ap (λ (s : List Shown). record (view_of (with_viewing member v)) { screen = s }) (sym (screen_keeps (wants v) member.view.screen)) in
      change_hears sizes member now command (record (view_of member) { zoom = zoom }) (zooms zoom (sizes member.view.part) member.view) keeps change outcome id_is
      (subst (λ (s : Extent). OnOk change (now.view ≡ zooms zoom s member.view)) size_is ok)
      (subst (λ (s : Extent). (change ≡ Err SeesTooMuch) ↔ (is_too_large zoom (length (visible_keys member.view.part zoom member.view.area s)) ≡ true)) size_is large)
      full err memory told view_is refl refl was

  -- the view goes to another part
  pub go_hears : (part : ℕ) (command : List ℕ) → size ≡ sizes part → now.id ≡ member.id
      → OnOk change (now.view ≡ goes_to part size member.view) → ((change ≡ Err SeesTooMuch) ↔ (is_too_large member.view.zoom (length (visible_keys part member.view.zoom member.view.area size)) ≡ true)) → change ≢ Err AsksTooMuch → OnErr change (now.view ≡ member.view) → change ≢ Err Memory
      → outcome ≡ outcome_of command change → member.view.visible ≡ seen_keys sizes (view_of member)
      → Hears sizes member (seeing_effect sizes (view_of member) command (record (view_of member) { part = part })) outcome now
  go_hears part command size_is id_is ok large full err memory told was =
      let v : Viewing = record member.view { part = part; visible = visible_keys part member.view.zoom member.view.area (sizes part) } in
      let keeps : Entry → Bool = λ entry. wants v entry.key in
      let view_is : view_of (with_viewing member (goes_to part (sizes part) member.view)) ≡ forgets sizes (record (view_of member) { part = part }) =
      ap (λ (s : List Shown). record (view_of (with_viewing member v)) { screen = s }) (sym (screen_keeps (wants v) member.view.screen)) in
      change_hears sizes member now command (record (view_of member) { part = part }) (goes_to part (sizes part) member.view) keeps change outcome id_is
      (subst (λ (s : Extent). OnOk change (now.view ≡ goes_to part s member.view)) size_is ok)
      (subst (λ (s : Extent). (change ≡ Err SeesTooMuch) ↔ (is_too_large member.view.zoom (length (visible_keys part member.view.zoom member.view.area s)) ≡ true)) size_is large)
      full err memory told view_is refl refl was

-- the view asks for these keys too
pub ask_hears : (sizes : ℕ → Extent) (member now : Member) (keys : List Place) (change : Result (Unit {0}) ViewFault) (outcome : Outcome) (command : List ℕ) → now.id ≡ member.id
    → OnOk change (now.view ≡ asks keys member.view) → ((change ≡ Err AsksTooMuch) ↔ (MOST_ASKED < length (asked_with_all member.view.asked keys))) → change ≢ Err SeesTooMuch → OnErr change (now.view ≡ member.view) → change ≢ Err Memory
    → outcome ≡ outcome_of command change → member.view.visible ≡ seen_keys sizes (view_of member)
    → Hears sizes member (asking_effect (view_of member) command (Some keys)) outcome now
ask_hears sizes member now keys (Ok done) outcome command id_is ok full large err memory told was =
    let asked : List Place = asked_with_all member.view.asked keys in
    let few : nat_lt MOST_ASKED (length asked) ≡ false = off _ (λ so. let many : MOST_ASKED < length asked = grind (arith, nat_tests) in let e = full.1 many in absurd (cc)) in
    let view : View = record (view_of member) { asked = asked } in
    let now_is : with_viewing member (asks keys member.view) ≡ now = λ i. record { id = sym id_is i; view = sym ok i } in
    let effect_is : becomes view ≡ asking_effect (view_of member) command (Some keys) = ap (λ b. cond b (refuses (view_of member) command AskedFull) (becomes view)) (sym few) in
    subst (λ (m : Member). Hears sizes member (asking_effect (view_of member) command (Some keys)) outcome m) now_is
    (subst (λ (e : Effect). Hears sizes member e outcome (with_viewing member (asks keys member.view))) effect_is
    (becomes_hears sizes member (asks keys member.view) view (λ entry. true) outcome (ap frames_in told) (ap inputs_in told) (ap save_in told) refl was (sym (keeps_all member.view.screen))))
ask_hears sizes member now keys (Err AsksTooMuch) outcome command id_is ok full large err memory told was =
    let asked : List Place = asked_with_all member.view.asked keys in
    let over : MOST_ASKED < length asked = full.0 refl in
    let many : nat_lt MOST_ASKED (length asked) ≡ true = grind (arith, nat_tests) in
    let now_is : member ≡ now = λ i. record { id = sym id_is i; view = sym err i } in
    let effect_is : refuses (view_of member) command AskedFull ≡ asking_effect (view_of member) command (Some keys) = ap (λ b. cond b (refuses (view_of member) command AskedFull) (becomes (record (view_of member) { asked = asked }))) (sym many) in
    let is : effect_in (view_of member) outcome ≡ refuses (view_of member) command AskedFull = λ i. record { frames = ap frames_in told i; inputs = ap inputs_in told i; save = ap save_in told i; view = view_of member } in
    subst (λ (m : Member). Hears sizes member (asking_effect (view_of member) command (Some keys)) outcome m) now_is (same_hears sizes member _ outcome (is ∙ effect_is) was)
ask_hears sizes member now keys (Err SeesTooMuch) outcome command id_is ok full large err memory told was = absurd (large refl)
ask_hears sizes member now keys (Err Memory) outcome command id_is ok full large err memory told was = absurd (memory refl)

-- the view asks for nothing that it doesn't see
pub cancel_hears : (sizes : ℕ → Extent) (member : Member) → member.view.visible ≡ seen_keys sizes (view_of member) → Hears sizes member (becomes (cancels_all sizes (view_of member))) Nothing (with_viewing member (cancels member.view))
cancel_hears sizes member was =
    let e : Viewing = record member.view { visible = seen_keys sizes (view_of member) } in
    let same : e ≡ member.view = ap (λ ks. record member.view { visible = ks }) (sym was) in
    let v : Viewing = record e { asked = (cancels e).asked } in
    let view_is : view_of (with_viewing member (cancels e)) ≡ cancels_all sizes (view_of member) =
    ap (λ (s : List Shown). record (view_of (with_viewing member v)) { screen = s }) (sym (screen_keeps (wants v) member.view.screen)) in
    let keeps : Entry → Bool = λ entry. wants v entry.key in
    subst (λ (x : Viewing). Hears sizes member (becomes (cancels_all sizes (view_of member))) Nothing (with_viewing member (cancels x))) same
    (becomes_hears sizes member (cancels e) (cancels_all sizes (view_of member)) keeps Nothing refl refl refl view_is refl refl)

-- the tiles with these numbers leave the window
pub acknowledge_hears : (sizes : ℕ → Extent) (member now : Member) (wids : List ℕ) → now ≡ with_viewing member (record member.view { window = filter (λ tile. not (list_any (λ wid. nat_eq wid tile.wid) wids)) member.view.window }) → member.view.visible ≡ seen_keys sizes (view_of member) → Hears sizes member (becomes (acknowledged wids (view_of member))) Nothing now
acknowledge_hears sizes member now wids is was =
    subst (λ (m : Member). Hears sizes member (becomes (acknowledged wids (view_of member))) Nothing m) (sym is)
    (becomes_hears sizes member _ (acknowledged wids (view_of member)) (λ entry. true) Nothing refl refl refl refl was (sym (keeps_all member.view.screen)))

-- going to a part that the document lacks, and to one that it has
pub goes_nowhere : (limits : Limits) (view : View) (part n : ℕ) → n ≡ limits.parts → n ≤ part → refuses view (codes "setclientpart") BadTile ≡ going_effect limits view part
goes_nowhere limits view part n is past =
    let no : nat_lt part limits.parts ≡ false = grind (arith, nat_tests) in
    ap (λ b. cond b (seeing_effect limits.sizes view (codes "setclientpart") (record view { part = part })) (refuses view (codes "setclientpart") BadTile)) (sym no)

pub goes_there : (limits : Limits) (view : View) (part n : ℕ) → n ≡ limits.parts → part < n → seeing_effect limits.sizes view (codes "setclientpart") (record view { part = part }) ≡ going_effect limits view part
goes_there limits view part n is low =
    let yes : nat_lt part limits.parts ≡ true = grind (arith, nat_tests) in
    ap (λ b. cond b (seeing_effect limits.sizes view (codes "setclientpart") (record view { part = part })) (refuses view (codes "setclientpart") BadTile)) (sym yes)
