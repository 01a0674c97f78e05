-- What a message does: a view that is kept is kept after it, it has the same id and the same next
-- number, its screen is a part of what it was and so takes no step back, inputs name one of the
-- parts, a save is not one too many, and no frame is a tile or says that a save is done.
use Rattle.std.proofs.Common.{◌≡◌, ◌≢◌, ℕ, ◌<◌, ◌≤◌, Bool, true, false, not, ◌||◌, cond, nat_eq, List, [], ◌∷◌, ◌++◌, length, filter, Option, None, Some, Ok, Err, refl, ap, sym, subst, ◌∙◌, arith}
use Rattle.std.specs.Prelude.{nat_lt, nat_le, IfSome, Result}
use Rattle.std.specs.List.{list_any, list_all, AllByRecursion}
use Rattle.std.proofs.lemmas.Bool.{and_parts, or_parts, ltb-true, ltb-false}
use Rattle.cool_message.specs.Asked.{is_key_of, keys_of, places_of}
use Rattle.cool_frame.specs.declared.frame.Frame.{Frame}
use Rattle.cool_frame.specs.declared.frame.Frame.TheVariants.{Error, SaveDone, Tile}
use Rattle.cool_frame.specs.declared.kind.ErrorKind.{ErrorKind}
use Rattle.cool_frame.specs.declared.kind.ErrorKind.TheVariants.{InputsFull, SavesFull, ReadOnly, AskedFull, BadTile, TooLarge}
use Rattle.cool_message.specs.Reading.{reading}
use Rattle.cool_message.specs.declared.fault.MessageFault.{MessageFault}
use Rattle.cool_message.specs.declared.message.ClientMessage.{ClientMessage}
use Rattle.cool_message.specs.declared.message.ClientMessage.TheVariants.{CoolClient, Load, Key, Mouse, Tile as AskTile, TileCombine, CancelTiles, VisibleArea, Zoom, SetPart, TileProcessed, Save, UnoSave}
use Rattle.cool_message.specs.declared.message.KeyKind.{KeyKind}
use Rattle.cool_message.specs.declared.message.KeyKind.TheVariants.{Input as Down, Up}
use Rattle.cool_message.specs.declared.message.MouseKind.{MouseKind}
use Rattle.cool_message.specs.declared.message.MouseKind.TheVariants.{ButtonDown, ButtonUp, Move}
use Rattle.kit_trait.specs.Rules.{Rules}
use Rattle.kit_trait.specs.declared.values.Input.{Input}
use Rattle.kit_trait.specs.declared.values.What.{What}
use Rattle.tile_key.specs.Places.{Place, Scale, IsKey, is_key, is_zoom, zoom_of, same_place}
use Rattle.tile_key.specs.Visible.{IsBefore, is_too_large}
use Rattle.tile_key.proofs.PlaceFacts.{key_facts}
use Rattle.document_machine.proofs.Lists.{all_push, all_filter, same_self}
use Rattle.send_window.proofs.Closing.{filter_le}
use Rattle.document_machine.specs.Due.{parts_of, size_of, visible, wants, sees_or_asks}
use Rattle.document_machine.specs.Keys.{Pairwise, is_among}
use Rattle.document_machine.specs.Kept.{IsViewKept}
use Rattle.document_machine.specs.Message.{Effect, becomes, answers, enters, awaits, asked_with, asked_with_all, input_effect, saving_effect, saving_after, key_effect, mouse_effect, asking_effect, seeing_effect, zooming_effect, going_effect, message_effect, reading_effect, effect, heard, limits_of, forgets, cancels, acknowledged}
use Rattle.document_machine.specs.State.{Shown, View, Document, find_view, with_view}
use Rattle.document_machine.specs.Outputs.{named}
use Rattle.save_core.specs.Saving.{is_full}
use Rattle.save_core.specs.declared.values.Save.{Save as Waiting}
use Rattle.send_window.specs.Tiles.{Sent}
use Rattle.document_machine.specs.declared.limits.TheConstants.{MOST_ASKED, MOST_INPUTS}
use Rattle.send_window.specs.declared.windows.TheConstants.{MOST_SENT}
use Rattle.document_laws.specs.Tiles.{IsNoStepBack}
use Rattle.document_laws.proofs.Forgetting.{same_screen, filtered}
use Rattle.document_laws.proofs.Ordered.{weaker}
use Rattle.document_laws.proofs.KeptViews.{filter_all, pairwise_push}
use Rattle.document_laws.proofs.Views.{changed_same, pairwise_filter}

-- lists of asked keys
abbrev IsAsked : ℕ → Place → Type 0
IsAsked parts key = IsKey key × (key.part < parts)

all_asked_with : (P : Place → Type 0) (asked : List Place) (key : Place) → AllByRecursion P asked
    → P key → AllByRecursion P (asked_with asked key)
all_asked_with P asked key all p =
    elim (is_among asked key) as
    (λ b. AllByRecursion P (cond b asked (asked ++ key ∷ [])))
    [ true ↦ all | false ↦ all_push P asked key all p ]

all_asked : (P : Place → Type 0) (asked keys : List Place) → AllByRecursion P asked
    → AllByRecursion P keys → AllByRecursion P (asked_with_all asked keys)
all_asked P asked [] all ps = all
all_asked P asked (key ∷ keys) all ps =
    all_asked P (asked_with asked key) keys (all_asked_with P asked key all ps.0) ps.1

-- a key that is not among some is none of them
pub none_of : (asked : List Place) (key : Place) → is_among asked key ≡ false
    → AllByRecursion (λ p. p ≢ key) asked
none_of [] key e = tt
none_of (other ∷ others) key e =
    let parts = or_parts (same_place other key) (is_among others key) e in
    let apart : other ≢ key =
    λ is. (let yes : same_place other key ≡ true =
    ap (same_place other) (sym is) ∙ same_self other in let no = parts.0 in absurd (cc)) in
    (apart, none_of others key parts.1)

once_asked_with : (asked : List Place) (key : Place) → Pairwise (λ p q. p ≢ q) asked
    → Pairwise (λ p q. p ≢ q) (asked_with asked key)
once_asked_with asked key once =
    let go : (b : Bool) → is_among asked key ≡ b
    → Pairwise (λ p q. p ≢ q) (cond b asked (asked ++ key ∷ [])) = elim [
      | true ↦ λ e. once
      | false ↦ λ e. pairwise_push (λ p q. p ≢ q) asked key once (none_of asked key e)
    ] in
    go (is_among asked key) refl

once_asked : (asked keys : List Place) → Pairwise (λ p q. p ≢ q) asked
    → Pairwise (λ p q. p ≢ q) (asked_with_all asked keys)
once_asked asked [] once = once
once_asked asked (key ∷ keys) once =
    once_asked (asked_with asked key) keys (once_asked_with asked key once)

among_append : (xs ys : List Place) (x : Place) → is_among xs x ≡ true
    → is_among (xs ++ ys) x ≡ true
among_append [] ys x e = absurd (cc)
among_append (y ∷ xs) ys x e =
    let go : (b : Bool) → (b || is_among xs x) ≡ true → (b || is_among (xs ++ ys) x) ≡ true =
    elim [ true ↦ λ _. refl | false ↦ λ e. among_append xs ys x e ] in
    go (same_place y x) e

still_asked_with : (asked : List Place) (key x : Place) → is_among asked x ≡ true
    → is_among (asked_with asked key) x ≡ true
still_asked_with asked key x e =
    elim (is_among asked key) as
    (λ b. is_among (cond b asked (asked ++ key ∷ [])) x ≡ true)
    [ true ↦ e | false ↦ among_append asked (key ∷ []) x e ]

still_asked : (asked keys : List Place) (x : Place) → is_among asked x ≡ true
    → is_among (asked_with_all asked keys) x ≡ true
still_asked asked [] x e = e
still_asked asked (key ∷ keys) x e =
    still_asked (asked_with asked key) keys x (still_asked_with asked key x e)

-- keys of some parts
keys_named : (parts : ℕ) (places : List Place) → list_all (is_key_of parts) places ≡ true
    → AllByRecursion (IsAsked parts) places
keys_named parts [] all = tt
keys_named parts (p ∷ ps) all =
    let both = and_parts (is_key_of parts p) (list_all (is_key_of parts) ps) all in
    let one = and_parts (is_key p) (nat_lt p.part parts) both.0 in
    ((key_facts p one.0, ltb-true p.part parts one.1), keys_named parts ps both.1)

keys_are : (parts : ℕ) (message : ClientMessage)
    → IfSome (keys_of parts message) (λ keys. AllByRecursion (IsAsked parts) keys)
keys_are parts message =
    let go : (b : Bool) → list_all (is_key_of parts) (places_of message) ≡ b
    → IfSome (cond b (Some (places_of message)) None)
    (λ keys. AllByRecursion (IsAsked parts) keys) = elim [
      | true ↦ λ all. keys_named parts (places_of message) all
      | false ↦ λ _. tt
    ] in
    go (list_all (is_key_of parts) (places_of message)) refl

-- a frame that is no tile and doesn't say that a save is done
abbrev pub IsPlain : Frame → Type 0
IsPlain (Tile key version wid rgba) = ⊥
IsPlain (SaveDone inputs put) = ⊥
IsPlain other = Unit {0}

-- a view with another one's id
abbrev pub keeps : View → View → View
keeps now view = record now { id = view.id }

-- the document after an effect, its view changed by a function that leaves ids
pub heard_is : {S : Type 0} (d : Document S) (id : ℕ) (view : View) (e : Effect)
    → find_view d.views id ≡ Some view → e.view.id ≡ view.id
    → heard d id e
    ≡ record d {
      journal = d.journal ++ e.inputs;
      views =
          with_view d.views id (keeps e.view);
      saving =
          saving_after id (length d.journal) e d.saving;
    }
heard_is d id view e live same =
    ap (λ views. record d {
      journal = d.journal ++ e.inputs;
      views = views;
      saving =
          saving_after id (length d.journal) e d.saving;
    })
    (changed_same d.views id (λ _. e.view) (keeps e.view) view live
    (ap (λ n. record e.view { id = n }) same))

-- a screen of which all stays
all_kept : (screen : List Shown) → screen ≡ filter (λ _. true) screen
all_kept [] = refl
all_kept (shown ∷ screen) = ap (λ rest. shown ∷ rest) (all_kept screen)

-- a save that waits now is not one too many of its view's
abbrev pub Fits : List Waiting → ℕ → Option Bool → Type 0
Fits saves id None = Unit {0}
Fits saves id (Some skip) = is_full (Some (named id)) saves ≡ false

module _ {C B S : Type 0} (rules : Rules C B) (d : Document S) (view : View) where
  -- what holds of an effect of a view's message
  pub record IsGood (e : Effect) : Type 0 where
    pub id : e.view.id ≡ view.id
    pub next : e.view.next_wid ≡ view.next_wid
    pub kept : IsViewKept rules d e.view
    pub inputs : AllByRecursion (λ input. input.part < parts_of rules d.base) e.inputs
    pub back : IsNoStepBack view e.view
    pub frames : AllByRecursion IsPlain e.frames
    pub saves : Fits d.saving.saves view.id e.save
    pub screen : (keep : Shown → Bool) × (e.view.screen ≡ filter keep view.screen)

  -- what a screen forgets
  forgotten_kept : (seen : View) → seen.screen ≡ view.screen → IsViewKept rules d view
      → seen.part < parts_of rules d.base → is_zoom seen.zoom ≡ true
      → is_too_large seen.zoom (length (visible rules d seen)) ≡ false
      → AllByRecursion (IsAsked (parts_of rules d.base)) seen.asked
      → Pairwise (λ p q. p ≢ q) seen.asked → length seen.asked ≤ MOST_ASKED
      → seen.window ≡ view.window → seen.next_wid ≡ view.next_wid
      → IsViewKept rules d (forgets (size_of rules d.base) seen)
  forgotten_kept seen screen kept part zoom few asked once short window next =
      let keep : Shown → Bool = λ shown. sees_or_asks rules d seen shown.key in
      record {
        part = part;
        zoom = zoom;
        seen = few;
        asked = asked;
        asked_once = once;
        asked_few = short;
        screen = pairwise_filter (λ p q. IsBefore p.key q.key) keep seen.screen
            (subst (λ s. Pairwise (λ p q. IsBefore p.key q.key) s) (sym screen) kept.screen);
        versions = all_filter (λ shown. shown.version ≤ d.applied) keep seen.screen
            (subst (λ s. AllByRecursion (λ shown. shown.version ≤ d.applied) s)
            (sym screen) kept.versions);
        wanted = filter_all (λ shown. shown.version ≤ d.applied)
            (λ shown. sees_or_asks rules d seen shown.key ≡ true) keep seen.screen (λ shown p e. e)
            (subst (λ s. AllByRecursion (λ shown. shown.version ≤ d.applied) s)
            (sym screen) kept.versions);
        window_few = subst (λ w. length w ≤ MOST_SENT) (sym window) kept.window_few;
        wids = subst (λ w. Pairwise (λ a b. a.wid < b.wid) w) (sym window) kept.wids;
        wids_below =
            subst (λ n. AllByRecursion (λ tile. tile.wid < n) seen.window) (sym next)
            (subst (λ w. AllByRecursion (λ tile. tile.wid < view.next_wid) w)
            (sym window) kept.wids_below);
      }

  module _ (kept : IsViewKept rules d view) where
    -- nothing changes, and these frames are given
    same_good : (frames : List Frame) → AllByRecursion IsPlain frames
        → IsGood (record { frames = frames; inputs = []; save = None; view = view })
    same_good frames plain =
        record {
          id = refl;
          next = refl;
          kept = kept;
          inputs = tt;
          back =
              same_screen view view refl;
          frames = plain;
          saves =
              tt;
          screen = (λ _. true, all_kept view.screen);
        }

    -- a screen forgets what its view, once changed, neither sees nor asks for
    forget_good : (seen : View) → seen.id ≡ view.id → seen.screen ≡ view.screen
        → seen.part < parts_of rules d.base → is_zoom seen.zoom ≡ true
        → is_too_large seen.zoom (length (visible rules d seen)) ≡ false
        → AllByRecursion (IsAsked (parts_of rules d.base)) seen.asked
        → Pairwise (λ p q. p ≢ q) seen.asked → length seen.asked ≤ MOST_ASKED
        → seen.window ≡ view.window → seen.next_wid ≡ view.next_wid
        → IsGood (becomes (forgets (size_of rules d.base) seen))
    forget_good seen id screen part zoom few asked once short window next = record {
      id = id;
      next = next;
      kept = forgotten_kept seen screen kept part zoom few asked once short window next;
      inputs = tt;
      back = filtered (wants (size_of rules d.base) seen) view (forgets (size_of rules d.base) seen)
          (ap (λ s. filter (λ shown. wants (size_of rules d.base) seen shown.key) s) screen);
      frames = tt;
      saves = tt;
      screen = (
        λ shown. wants (size_of rules d.base) seen shown.key,
        ap
            (λ s. filter (λ shown. wants (size_of rules d.base) seen shown.key) s) screen,
      );
    }

    input_good : (command : List ℕ) (what : What)
        → IsGood (input_effect (limits_of rules d) view command what)
    input_good command what =
        let input : Input =
        record { view = record { 0 = view.id }; part = view.part; what = what } in
        let entered : IsGood (enters view input) =
        record {
          id = refl;
          next = refl;
          kept = kept;
          inputs = (kept.part, tt);
          back =
              same_screen view view refl;
          frames = tt;
          saves =
              tt;
          screen = (λ _. true, all_kept view.screen);
        } in
        let refused : (kind : ErrorKind) → IsGood (answers view (Error command kind None)) =
        λ kind. same_good (Error command kind None ∷ []) (tt, tt) in
        let full : (b : Bool)
        → IsGood (cond b (answers view (Error command InputsFull None)) (enters view input)) =
        elim [ true ↦ refused InputsFull | false ↦ entered ] in
        elim view.rights.can_write as
        (λ b. IsGood
        (cond b (cond (nat_le MOST_INPUTS (length d.journal))
        (answers view (Error command InputsFull None)) (enters view input))
        (answers view (Error command ReadOnly None)))) [
          | true ↦ full (nat_le MOST_INPUTS (length d.journal))
          | false ↦ refused ReadOnly
        ]

    saving_good : (command : List ℕ) (skip : Bool)
        → IsGood (saving_effect (limits_of rules d) view command skip)
    saving_good command skip =
        let refused : (kind : ErrorKind) → IsGood (answers view (Error command kind None)) =
        λ kind. same_good (Error command kind None ∷ []) (tt, tt) in
        let few : (b : Bool) → is_full (Some (named view.id)) d.saving.saves ≡ b
        → IsGood (cond b (answers view (Error command SavesFull None)) (awaits view skip)) =
        elim [
          | true ↦ λ full. refused SavesFull
          | false ↦ λ fits. record {
            id = refl;
            next = refl;
            kept = kept;
            inputs = tt;
            back =
                same_screen view view refl;
            frames = tt;
            saves =
                fits;
            screen = (λ _. true, all_kept view.screen);
          }
        ] in
        elim view.rights.can_write as
        (λ b. IsGood
        (cond b (cond (is_full (Some (named view.id)) d.saving.saves)
        (answers view (Error command SavesFull None)) (awaits view skip))
        (answers view (Error command ReadOnly None)))) [
          | true ↦ few (is_full (Some (named view.id)) d.saving.saves) refl
          | false ↦ refused ReadOnly
        ]

    key_good : (kind : KeyKind) (what : What)
        → IsGood (key_effect (limits_of rules d) view kind what)
    key_good Down what = input_good _ what
    key_good Up what = same_good [] tt

    mouse_good : (kind : MouseKind) (what : What)
        → IsGood (mouse_effect (limits_of rules d) view kind what)
    mouse_good ButtonDown what = input_good _ what
    mouse_good ButtonUp what = same_good [] tt
    mouse_good Move what = same_good [] tt

    asks_kept : (asked : List Place) → AllByRecursion (IsAsked (parts_of rules d.base)) asked
        → Pairwise (λ p q. p ≢ q) asked → length asked ≤ MOST_ASKED
        → ((x : Place) → is_among view.asked x ≡ true → is_among asked x ≡ true)
        → IsViewKept rules d (record view { asked = asked })
    asks_kept asked all once few still = record {
      part = kept.part;
      zoom = kept.zoom;
      seen = kept.seen;
      asked = all;
      asked_once = once;
      asked_few = few;
      screen = kept.screen;
      versions = kept.versions;
      wanted = weaker (λ shown. sees_or_asks rules d view shown.key ≡ true)
          (λ shown. sees_or_asks rules d (record view { asked = asked }) shown.key ≡ true)
          view.screen
          (λ shown e.
          let go : (a b c : Bool) → (b ≡ true → c ≡ true) → (a || b) ≡ true → (a || c) ≡ true =
          elim [ true ↦ λ b c imp e. refl | false ↦ λ b c imp e. imp e ] in
          go (is_among (visible rules d view) shown.key) (is_among view.asked shown.key)
          (is_among asked shown.key) (still shown.key) e) kept.wanted;
      window_few = kept.window_few;
      wids = kept.wids;
      wids_below = kept.wids_below;
    }

    asking_good : (command : List ℕ) (keys : Option (List Place))
        → IfSome keys (λ ks. AllByRecursion (IsAsked (parts_of rules d.base)) ks)
        → IsGood (asking_effect view command keys)
    asking_good command None named = same_good (Error command BadTile None ∷ []) (tt, tt)
    asking_good command (Some keys) named =
        let asked : List Place = asked_with_all view.asked keys in
        let all : AllByRecursion (IsAsked (parts_of rules d.base)) asked =
        all_asked (IsAsked (parts_of rules d.base)) view.asked keys kept.asked named in
        let go : (b : Bool) → nat_lt MOST_ASKED (length asked) ≡ b
        → IsGood (cond b (answers view (Error command AskedFull None))
        (becomes (record view { asked = asked }))) = elim [
          | true ↦ λ e. same_good (Error command AskedFull None ∷ []) (tt, tt)
          | false ↦ λ e. record {
            id = refl;
            next = refl;
            kept = asks_kept asked all (once_asked view.asked keys kept.asked_once)
                (ltb-false MOST_ASKED (length asked) e) (still_asked view.asked keys);
            inputs = tt;
            back = same_screen view (record view { asked = asked }) refl;
            frames = tt;
            saves = tt;
            screen = (λ _. true, all_kept view.screen);
          }
        ] in
        go (nat_lt MOST_ASKED (length asked)) refl

    seeing_good : (command : List ℕ) (changed : View) → changed.id ≡ view.id
        → changed.screen ≡ view.screen → changed.part < parts_of rules d.base
        → is_zoom changed.zoom ≡ true
        → changed.asked ≡ view.asked → changed.window ≡ view.window
        → changed.next_wid ≡ view.next_wid
        → IsGood (seeing_effect (size_of rules d.base) view command changed)
    seeing_good command changed id screen part zoom asked window next =
        let large : Bool = is_too_large changed.zoom (length (visible rules d changed)) in
        let go : (b : Bool) → large ≡ b
        → IsGood (cond b (answers view (Error command TooLarge None))
        (becomes (forgets (size_of rules d.base) changed))) = elim [
          | true ↦ λ e. same_good (Error command TooLarge None ∷ []) (tt, tt)
          | false ↦ λ e.
              forget_good changed id screen part zoom e
              (subst (AllByRecursion (IsAsked (parts_of rules d.base))) (sym asked) kept.asked)
              (subst (Pairwise (λ p q. p ≢ q)) (sym asked) kept.asked_once)
              (subst (λ ks. length ks ≤ MOST_ASKED) (sym asked) kept.asked_few) window next
        ] in
        go large refl

    zooming_good : (scale : Scale)
        → IsGood (zooming_effect (size_of rules d.base) view (zoom_of scale))
    zooming_good scale =
        let go : (b : Bool) → is_zoom scale ≡ b
        → IsGood (zooming_effect (size_of rules d.base) view (cond b (Some scale) None)) =
        elim [
          | true ↦ λ passes. seeing_good _
              (record view { zoom = scale }) refl refl kept.part passes refl refl refl
          | false ↦ λ fails. same_good _ (tt, tt)
        ] in
        go (is_zoom scale) refl

    going_good : (part : ℕ) → IsGood (going_effect (limits_of rules d) view part)
    going_good part =
        let refused : (command : List ℕ) → IsGood (answers view (Error command BadTile None)) =
        λ command. same_good (Error command BadTile None ∷ []) (tt, tt) in
        let go : (command : List ℕ) (b : Bool) → nat_lt part (parts_of rules d.base) ≡ b
        → IsGood (cond b
        (seeing_effect (size_of rules d.base) view command (record view { part = part }))
        (answers view (Error command BadTile None))) = λ command. elim [
          | true ↦ λ e. seeing_good command (record view { part = part }) refl refl
              (ltb-true part (parts_of rules d.base) e) kept.zoom refl refl refl
          | false ↦ λ e. refused command
        ] in
        go _ (nat_lt part (parts_of rules d.base)) refl

    cancel_good : IsGood (becomes (cancels (size_of rules d.base) view))
    cancel_good =
        let keep : Place → Bool = is_among (visible rules d view) in
        forget_good
        (record view { asked = filter keep view.asked }) refl refl kept.part kept.zoom kept.seen
        (all_filter (IsAsked (parts_of rules d.base)) keep view.asked kept.asked)
        (pairwise_filter (λ p q. p ≢ q) keep view.asked kept.asked_once)
        (omega (arith, filter_le keep view.asked, kept.asked_few)) refl refl

    acknowledged_good : (wids : List ℕ) → IsGood (becomes (acknowledged wids view))
    acknowledged_good wids =
        let keep : Sent → Bool = λ tile. not (list_any (λ wid. nat_eq wid tile.wid) wids) in
        record {
          id = refl;
          next = refl;
          kept = record {
            part = kept.part;
            zoom = kept.zoom;
            seen = kept.seen;
            asked = kept.asked;
            asked_once = kept.asked_once;
            asked_few = kept.asked_few;
            screen = kept.screen;
            versions = kept.versions;
            wanted = kept.wanted;
            window_few = omega (arith, filter_le keep view.window, kept.window_few);
            wids = pairwise_filter (λ a b. a.wid < b.wid) keep view.window kept.wids;
            wids_below =
                all_filter (λ tile. tile.wid < view.next_wid) keep view.window kept.wids_below;
          };
          inputs = tt;
          back = same_screen view (acknowledged wids view) refl;
          frames = tt;
          saves = tt;
          screen = (λ _. true, all_kept view.screen);
        }

    message_good : (message : ClientMessage)
        → IsGood (message_effect (limits_of rules d) view message)
    message_good CoolClient = same_good _ (tt, tt)
    message_good (Load url) = same_good _ (tt, tt)
    message_good (Key kind chr code) = key_good kind _
    message_good (Mouse kind x y clicks buttons modifier) = mouse_good kind _
    message_good (AskTile words) =
        asking_good _ (keys_of (parts_of rules d.base) (AskTile words))
        (keys_are (parts_of rules d.base) (AskTile words))
    message_good (TileCombine words) =
        asking_good _ (keys_of (parts_of rules d.base) (TileCombine words))
        (keys_are (parts_of rules d.base) (TileCombine words))
    message_good CancelTiles = cancel_good
    message_good (VisibleArea area) =
        seeing_good _ (record view { area = area }) refl refl kept.part kept.zoom refl refl refl
    message_good (Zoom pixel_w pixel_h twip_w twip_h nviewid) =
        zooming_good
        (record {
          pixel_w = pixel_w;
          pixel_h = pixel_h;
          twip_w = twip_w;
          twip_h =
              twip_h;
          nviewid = nviewid;
        })
    message_good (SetPart part) = going_good part
    message_good (TileProcessed wids) = acknowledged_good wids
    message_good (Save keep skip) = saving_good _ skip
    message_good UnoSave = saving_good _ false

    reading_good : (text : List ℕ) (read : Result ClientMessage MessageFault)
        → IsGood (reading_effect (limits_of rules d) view text read)
    reading_good text (Err why) = same_good _ (tt, tt)
    reading_good text (Ok message) = message_good message

    pub effect_good : (text : List ℕ) → IsGood (effect rules d view text)
    effect_good text = reading_good text (reading text)
