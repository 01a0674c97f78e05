-- What a view's screen has of a key is the version of the last tile of it that the view was sent.
use Rattle.std.proofs.Common.{◌≡◌, ◌≢◌, ◌⊎◌, ℕ, ◌<◌, Bool, true, false, not, ◌&&◌, ◌||◌, cond, nat_eq, List, [], ◌∷◌, ◌++◌, length, map, filter, Option, None, Some, refl, ap, sym, subst, ◌∙◌, arith, inl, inr}
use Rattle.std.specs.Prelude.{nat_lt, nat_le, Result, Ok, Err}
use Rattle.std.specs.List.{flat_map, AllByRecursion}
use Rattle.std.proofs.lemmas.Bool.{cases_Bool, eqb-true}
use Rattle.std.proofs.lemmas.Bool.Decides.{nat_tests}
use Rattle.cool_base.specs.declared.ids.ViewId.{ViewId}
use Rattle.cool_frame.specs.declared.frame.Frame.{Frame}
use Rattle.cool_frame.specs.declared.frame.Frame.TheVariants.{Server, Status as StatusFrame, Invalidate, SaveDone, Error, Tile}
use Rattle.cool_frame.specs.declared.kind.ErrorKind.TheVariants.{InputsFull, ReadOnly, AskedFull, BadTile, SavesFull, TooLarge}
use Rattle.cool_message.specs.Asked.{keys_of}
use Rattle.cool_message.specs.Reading.{reading}
use Rattle.cool_message.specs.declared.fault.MessageFault.{MessageFault}
use Rattle.cool_message.specs.declared.message.ClientMessage.{ClientMessage}
use Rattle.cool_message.specs.declared.message.ClientMessage.TheVariants.{CoolClient, Load, Key, Mouse, Tile as AskTile, TileCombine, CancelTiles, VisibleArea, Zoom, SetPart, TileProcessed, Save, UnoSave}
use Rattle.cool_message.specs.declared.message.KeyKind.{KeyKind}
use Rattle.cool_message.specs.declared.message.KeyKind.TheVariants.{Input as Down, Up}
use Rattle.cool_message.specs.declared.message.MouseKind.{MouseKind}
use Rattle.cool_message.specs.declared.message.MouseKind.TheVariants.{ButtonDown, ButtonUp, Move}
use Rattle.document_machine.specs.Kept.{IsKept, IsViewKept}
use Rattle.document_laws.proofs.Heard.{IsPlain, effect_good, heard_is, keeps}
use Rattle.document_laws.proofs.KeptViews.{map_ids}
use Rattle.document_laws.proofs.KeyOrder.{same_is}
use Rattle.document_laws.proofs.Rising.{find_map, find_push, find_without, offered_id}
use Rattle.document_laws.proofs.SaveFrames.{ending_all, unmodified_all}
use Rattle.document_laws.proofs.Sending.{with_same, screen_other}
use Rattle.document_laws.proofs.Views.{found_other, found_view, found_with}
use Rattle.document_machine.specs.Due.{takes, tile_frame, sent, version_of, without_version, screen_after, seen_keys, wants, visible, is_current, asked_after}
use Rattle.document_machine.specs.Event.{Event, Joined, Left, Said, Turned, Painted, PutAnswered}
use Rattle.document_machine.specs.Keys.{Pairwise, is_among}
use Rattle.document_machine.specs.Message.{Limits, Effect, limits_of, becomes, answers, awaits, enters, saving_effect, asked_with_all, input_effect, key_effect, mouse_effect, asking_effect, forgets, seeing_effect, zooming_effect, going_effect, message_effect, reading_effect, effect, heard}
use Rattle.document_machine.specs.Outputs.{named, outs_of}
use Rattle.document_machine.specs.Saves.{ending_frame, ending_frames, receipt_of, unmodified_frames}
use Rattle.document_machine.specs.State.{Shown, View, Job, Document, opening_view, find_view, with_view, without_view, find_job}
use Rattle.document_machine.specs.Step.{JoinsWhere, Works, TurnsTo, Paints, Step, status, told, offered, views_offered, tile_for, tiles_for}
use Rattle.document_machine.specs.declared.limits.TheConstants.{MOST_ASKED, MOST_INPUTS, MOST_VIEWS}
use Rattle.document_machine.specs.declared.outs.Outs.{Outs}
use Rattle.document_machine.specs.declared.outs.Turned.{Turned as TurnAnswer}
use Rattle.document_machine.specs.declared.outs.Turned.TheVariants.{Worked, Idle}
use Rattle.document_machine.specs.declared.rights.Rights.{Rights}
use Rattle.kit_trait.specs.Rules.{Rules, doc, shown}
use Rattle.kit_trait.specs.declared.values.Damage.{Damage}
use Rattle.kit_trait.specs.declared.values.Input.{Input}
use Rattle.kit_trait.specs.declared.values.What.{What}
use Rattle.outside.specs.declared.errands.Receipt.{Receipt}
use Rattle.outside.specs.declared.faults.StoreFault.{StoreFault}
use Rattle.save_core.specs.Saving.{answers as answers_to, is_full, unmodified}
use Rattle.save_core.specs.declared.values.SaveAnswer.{SaveAnswer}
use Rattle.tile_key.specs.Places.{Place, Scale, same_place, zoom_of}
use Rattle.tile_key.specs.Visible.{is_too_large}
use Rattle.script_laws.specs.LastTiles.{tile_in, later_one, last_tile}

-- the last tile of two lists of frames
pub last_append : (id : ℕ) (key : Place) (xs ys : List (ViewId × Frame)) → last_tile id key (xs ++ ys) ≡ later_one (last_tile id key ys) (last_tile id key xs)
last_append id key [] ys = elim (last_tile id key ys) as (λ o. o ≡ later_one o None) [ None ↦ refl | Some t ↦ refl ]
last_append id key (x ∷ xs) ys =
    ap (λ (o : Option (ℕ × List ℕ)). later_one o (tile_in id key x)) (last_append id key xs ys)
    ∙ elim (last_tile id key ys) as (λ o. later_one (later_one o (last_tile id key xs)) (tile_in id key x) ≡ later_one o (later_one (last_tile id key xs) (tile_in id key x))) [ None ↦ refl | Some t ↦ refl ]

none_of : (id : ℕ) (key : Place) (xs ys : List (ViewId × Frame)) → last_tile id key xs ≡ None → last_tile id key ys ≡ None → last_tile id key (xs ++ ys) ≡ None
none_of id key xs ys a b = last_append id key xs ys ∙ ap (λ (o : Option (ℕ × List ℕ)). later_one o (last_tile id key xs)) b ∙ a

-- The frames tell the view's screen: each version that the view has of a key behind them is that of the last tile of the
-- key among them, or there is none and the view had that version before.
abbrev pub Tells : ℕ → (old new : List Shown) → List (ViewId × Frame) → Type 0
Tells id old new frames = (key : Place) (version : ℕ) → version_of new key ≡ Some version
    → ((rgba : List ℕ) × (last_tile id key frames ≡ Some (version, rgba))) ⊎ ((last_tile id key frames ≡ None) × (version_of old key ≡ Some version))

-- the frames have no tile to the view
abbrev NoTile : ℕ → List (ViewId × Frame) → Type 0
NoTile id frames = (key : Place) → last_tile id key frames ≡ None

-- a screen has nothing that it hadn't
abbrev Stays : (old new : List Shown) → Type 0
Stays old new = (key : Place) (version : ℕ) → version_of new key ≡ Some version → version_of old key ≡ Some version

none_tells : (id : ℕ) (old new : List Shown) (frames : List (ViewId × Frame)) → NoTile id frames → Stays old new → Tells id old new frames
none_tells id old new frames none stays key version on = inr (none key, stays key version on)

-- one behind the other
then_tells : (id : ℕ) (old mid new : List Shown) (xs ys : List (ViewId × Frame)) → Tells id old mid xs → Tells id mid new ys → Tells id old new (xs ++ ys)
then_tells id old mid new xs ys a b key version on =
    let both : last_tile id key (xs ++ ys) ≡ later_one (last_tile id key ys) (last_tile id key xs) = last_append id key xs ys in
    elim (b key version on) [
      | inl last ↦ inl (last.0, both ∙ ap (λ (o : Option (ℕ × List ℕ)). later_one o (last_tile id key xs)) last.1)
      | inr before ↦
          let first : last_tile id key (xs ++ ys) ≡ last_tile id key xs = both ∙ ap (λ (o : Option (ℕ × List ℕ)). later_one o (last_tile id key xs)) before.0 in
          elim (a key version before.1) [
            | inl last ↦ inl (last.0, first ∙ last.1)
            | inr none ↦ inr (first ∙ none.0, none.1)
          ]
    ]

same_stays : (screen : List Shown) → Stays screen screen
same_stays screen key version on = on

-- frames that are no tiles
one_told : (id : ℕ) (key : Place) (view : View) (damage : List Damage) → last_tile id key (map (λ d. (named view.id, Invalidate d.part d.rect)) damage) ≡ None
one_told id key view [] = refl
one_told id key view (d ∷ ds) = ap (λ (o : Option (ℕ × List ℕ)). later_one o None) (one_told id key view ds)

all_told : (id : ℕ) (key : Place) (views : List View) (damage : List Damage) → last_tile id key (told views damage) ≡ None
all_told id key [] damage = refl
all_told id key (view ∷ views) damage = none_of id key (map (λ d. (named view.id, Invalidate d.part d.rect)) damage) (told views damage) (one_told id key view damage) (all_told id key views damage)

none_all : (id : ℕ) (key : Place) (frames : List (ViewId × Frame)) → AllByRecursion (λ given. tile_in id key given ≡ None) frames → last_tile id key frames ≡ None
none_all id key [] all = refl
none_all id key (given ∷ frames) all = none_of id key (given ∷ []) frames all.0 (none_all id key frames all.1)

all_unmodified : (id : ℕ) (key : Place) (views : List View) (number : ℕ) (ids : List ViewId) → last_tile id key (unmodified_frames views number ids) ≡ None
all_unmodified id key views number ids = none_all id key (unmodified_frames views number ids) (unmodified_all (λ given. tile_in id key given ≡ None) views number ids (λ to. refl))

no_ending : (id : ℕ) (key : Place) (to : ViewId) (number : ℕ) (result : Result Receipt StoreFault) → tile_in id key (to, ending_frame result number) ≡ None
no_ending id key to number (Ok receipt) = refl
no_ending id key to number (Err fault) = refl

all_ended : (id : ℕ) (key : Place) (views : List View) (result : Result Receipt StoreFault) (given : List SaveAnswer) → last_tile id key (ending_frames views result given) ≡ None
all_ended id key views result given =
    none_all id key (ending_frames views result given) (ending_all (λ shown. tile_in id key shown ≡ None) views result given (λ to number. no_ending id key to number result))

plain_one : (id : ℕ) (key : Place) (to : ViewId) (frame : Frame) → IsPlain frame → tile_in id key (to, frame) ≡ None
plain_one id key to (Tile shown version wid rgba) plain = absurd plain
plain_one id key to Server plain = refl
plain_one id key to (StatusFrame kit parts size view readonly) plain = refl
plain_one id key to (Invalidate part rect) plain = refl
plain_one id key to (SaveDone inputs put) plain = absurd plain
plain_one id key to (Error command kind code) plain = refl

replied : (id to : ℕ) (frames : List Frame) → AllByRecursion IsPlain frames → NoTile id (map (λ frame. (named to, frame)) frames)
replied id to [] plain key = refl
replied id to (frame ∷ frames) plain key =
    none_of id key ((named to, frame) ∷ []) (map (λ frame. (named to, frame)) frames) (plain_one id key (named to) frame plain.0) (replied id to frames plain.1 key)

-- a screen that has forgotten some keys
gone : (f : Place → Bool) (screen : List Shown) (key : Place) → f key ≡ false → version_of (filter (λ shown. f shown.key) screen) key ≡ None
gone f [] key off = refl
gone f (shown ∷ screen) key off =
    let go : (b : Bool) → f shown.key ≡ b → version_of (cond b (shown ∷ filter (λ s. f s.key) screen) (filter (λ s. f s.key) screen)) key ≡ None = elim [
      | true ↦ λ on.
          let away : same_place shown.key key ≡ false = elim (cases_Bool (same_place shown.key key)) [
            | inl same ↦ absurd (let is : f shown.key ≡ f key = ap f (same_is shown.key key same) in cc)
            | inr apart ↦ apart
          ] in
          rw away (gone f screen key off)
      | false ↦ λ on. gone f screen key off
    ] in
    go (f shown.key) refl

forgotten : (f : Place → Bool) (screen : List Shown) → Stays screen (filter (λ shown. f shown.key) screen)
forgotten f [] key version e = e
forgotten f (shown ∷ screen) key version e =
    let go : (a b : Bool) → same_place shown.key key ≡ a → f shown.key ≡ b → version_of (cond b (shown ∷ filter (λ s. f s.key) screen) (filter (λ s. f s.key) screen)) key ≡ Some version → cond a (Some shown.version) (version_of screen key) ≡ Some version = elim [
      | true ↦ elim [
        | true ↦ λ same on e. rw same at e
        | false ↦ λ same off e.
            let is : f key ≡ false = ap f (sym (same_is shown.key key same)) ∙ off in
            let none = gone f screen key is in
            absurd (cc)
      ]
      | false ↦ elim [
        | true ↦ λ apart on e. forgotten f screen key version (rw apart at e)
        | false ↦ λ apart off e. forgotten f screen key version e
      ]
    ] in
    go (same_place shown.key key) (f shown.key) refl refl e

-- the key whose entry was taken out
without_same : (screen : List Shown) (key : Place) → version_of (without_version screen key) key ≡ None
without_same [] key = refl
without_same (shown ∷ screen) key =
    let go : (b : Bool) → same_place shown.key key ≡ b → version_of (cond (not b) (shown ∷ without_version screen key) (without_version screen key)) key ≡ None = elim [
      | true ↦ λ same. without_same screen key
      | false ↦ λ apart. rw apart (without_same screen key)
    ] in
    go (same_place shown.key key) refl

module _ {C B S : Type 0} (rules : Rules C B) (d : Document S) (n : ℕ) where
  -- a tile that is sent, on the screen of its view
  abbrev Pixels_of : Place → List ℕ
  Pixels_of key = (shown rules (doc rules d.base d.journal n) key).rgba

  after_tells : (view : View) (key : Place) (wanted : Bool) → Tells view.id view.screen (screen_after view.screen key n wanted) (tile_frame rules d n key view ∷ [])
  after_tells view key wanted k version on =
      let mine : nat_eq view.id view.id ≡ true = grind arith in
      let tile : Bool → Option (ℕ × List ℕ) = λ b. cond (nat_eq view.id view.id && b) (Some (n, Pixels_of key)) None in
      let go : (b : Bool) → same_place key k ≡ b
      → ((rgba : List ℕ) × (tile b ≡ Some (version, rgba))) ⊎ ((tile b ≡ None) × (version_of view.screen k ≡ Some version)) = elim [
        | true ↦ λ same.
            let is : key ≡ k = same_is key k same in
            let here : version_of (screen_after view.screen key n wanted) key ≡ Some version = subst (λ (x : Place). version_of (screen_after view.screen key n wanted) x ≡ Some version) (sym is) on in
            let n_is : n ≡ version = (elim wanted as (λ w. version_of (screen_after view.screen key n w) key ≡ Some version → n ≡ version) [
              | true ↦ λ h. let e : Some n ≡ Some version = sym (with_same view.screen key n) ∙ h in cc
              | false ↦ λ h. absurd (let e : None ≡ Some version = sym (without_same view.screen key) ∙ h in cc)
            ]) here in
            inl (Pixels_of key, rw mine (ap (λ (v : ℕ). Some (v, Pixels_of key)) n_is))
        | false ↦ λ apart. inr (rw mine refl, sym (screen_other view.screen key n wanted k apart) ∙ on)
      ] in
      go (same_place key k) refl

  sent_tells : (view : View) (key : Place) → Tells view.id view.screen (sent rules d n key view).screen (tile_frame rules d n key view ∷ [])
  sent_tells view key = after_tells view key (is_among (visible rules d view) key || is_among (asked_after view.asked key (is_current rules d n key)) key)

  -- the tile of one view
  own_tile : (key : Place) (view : View) → Tells view.id view.screen (offered rules d n key view).screen (tile_for rules d n key view)
  own_tile key view =
      elim (takes rules d n key view) as (λ b. Tells view.id view.screen (cond b (sent rules d n key view) view).screen (cond b (tile_frame rules d n key view ∷ []) [])) [
        | true ↦ sent_tells view key
        | false ↦ none_tells view.id view.screen view.screen [] (λ k. refl) (same_stays view.screen)
      ]

  other_frame : (key : Place) (view : View) (id : ℕ) → nat_eq view.id id ≡ false → NoTile id (tile_frame rules d n key view ∷ [])
  other_frame key view id away k = rw away refl

  other_tile : (key : Place) (view : View) (id : ℕ) → nat_eq view.id id ≡ false → NoTile id (tile_for rules d n key view)
  other_tile key view id away =
      elim (takes rules d n key view) as (λ b. NoTile id (cond b (tile_frame rules d n key view ∷ []) [])) [
        | true ↦ other_frame key view id away
        | false ↦ λ k. refl
      ]

  others_tiles : (key : Place) (views : List View) (id : ℕ) → AllByRecursion (λ w. id < w.id) views → NoTile id (flat_map (tile_for rules d n key) views)
  others_tiles key [] id above k = refl
  others_tiles key (w ∷ ws) id above k =
      let lt : id < w.id = above.0 in
      let away : nat_eq w.id id ≡ false = grind (arith, nat_tests) in
      none_of id k (tile_for rules d n key w) (flat_map (tile_for rules d n key) ws) (other_tile key w id away k) (others_tiles key ws id above.1 k)

  append_none : (id : ℕ) (old new : List Shown) (xs ys : List (ViewId × Frame)) → Tells id old new xs → NoTile id ys → Tells id old new (xs ++ ys)
  append_none id old new xs ys a none = then_tells id old new new xs ys a (none_tells id new new ys none (same_stays new))

  none_append : (id : ℕ) (old new : List Shown) (xs ys : List (ViewId × Frame)) → NoTile id xs → Tells id old new ys → Tells id old new (xs ++ ys)
  none_append id old new xs ys none a = then_tells id old old new xs ys (none_tells id old old xs none (same_stays old)) a

  -- the tiles of one key
  key_tiles : (key : Place) (views : List View) (id : ℕ) (v : View) → Pairwise (λ v w. v.id < w.id) views → find_view views id ≡ Some v → Tells id v.screen (offered rules d n key v).screen (flat_map (tile_for rules d n key) views)
  key_tiles key [] id v order live = absurd (cc)
  key_tiles key (w ∷ ws) id v order live =
      let go : (b : Bool) → nat_eq w.id id ≡ b → cond b (Some w) (find_view ws id) ≡ Some v → Tells id v.screen (offered rules d n key v).screen (flat_map (tile_for rules d n key) (w ∷ ws)) = elim [
        | true ↦ λ here is.
            let same : w ≡ v = cc in
            let id_is : w.id ≡ id = eqb-true w.id id here in
            let rest : NoTile id (flat_map (tile_for rules d n key) ws) = others_tiles key ws id (subst (λ m. AllByRecursion (λ x. m < x.id) ws) id_is order.0) in
            let moved : Tells id w.screen (offered rules d n key w).screen (tile_for rules d n key w) = subst (λ (m : ℕ). Tells m w.screen (offered rules d n key w).screen (tile_for rules d n key w)) id_is (own_tile key w) in
            subst (λ (x : View). Tells id x.screen (offered rules d n key x).screen (flat_map (tile_for rules d n key) (w ∷ ws))) same
            (append_none id w.screen (offered rules d n key w).screen (tile_for rules d n key w) (flat_map (tile_for rules d n key) ws) moved rest)
        | false ↦ λ away is.
            none_append id v.screen (offered rules d n key v).screen (tile_for rules d n key w) (flat_map (tile_for rules d n key) ws) (other_tile key w id away) (key_tiles key ws id v order.1 is)
      ] in
      go (nat_eq w.id id) refl live

  -- the tiles of all keys
  all_tiles : (keys : List Place) (views : List View) (id : ℕ) (v w : View) → Pairwise (λ v w. v.id < w.id) views → find_view views id ≡ Some v → find_view (views_offered rules d n keys views) id ≡ Some w → Tells id v.screen w.screen (tiles_for rules d n keys views)
  all_tiles [] views id v w order live later =
      let e : Some v ≡ Some w = sym live ∙ later in
      let same : v ≡ w = cc in
      subst (λ (x : View). Tells id v.screen x.screen []) same (none_tells id v.screen v.screen [] (λ k. refl) (same_stays v.screen))
  all_tiles (key ∷ keys) views id v w order live later =
      then_tells id v.screen (offered rules d n key v).screen w.screen (flat_map (tile_for rules d n key) views) (tiles_for rules d n keys (map (offered rules d n key) views))
      (key_tiles key views id v order live)
      (all_tiles keys (map (offered rules d n key) views) id (offered rules d n key v) w (map_ids views (offered rules d n key) (offered_id rules d n key) order) (find_map rules d n key views id v live) later)

-- what a message does to its view's screen: it has nothing after it that it hadn't before
module _ (limits : Limits) (view : View) where
  abbrev IsStaying : Effect → Type 0
  IsStaying e = Stays view.screen e.view.screen

  input_stays : (command : List ℕ) (what : What) → IsStaying (input_effect limits view command what)
  input_stays command what =
      let input : Input = record { view = record { 0 = view.id }; part = view.part; what = what } in
      let full : (b : Bool) → IsStaying (cond b (answers view (Error command InputsFull None)) (enters view input)) = elim [ true ↦ same_stays view.screen | false ↦ same_stays view.screen ] in
      elim view.rights.can_write as (λ b. IsStaying (cond b (cond (nat_le MOST_INPUTS limits.inputs) (answers view (Error command InputsFull None)) (enters view input)) (answers view (Error command ReadOnly None)))) [
        | true ↦ full (nat_le MOST_INPUTS limits.inputs)
        | false ↦ same_stays view.screen
      ]

  key_stays : (kind : KeyKind) (what : What) → IsStaying (key_effect limits view kind what)
  key_stays Down what = input_stays _ what
  key_stays Up what = same_stays view.screen

  mouse_stays : (kind : MouseKind) (what : What) → IsStaying (mouse_effect limits view kind what)
  mouse_stays ButtonDown what = input_stays _ what
  mouse_stays ButtonUp what = same_stays view.screen
  mouse_stays Move what = same_stays view.screen

  saving_stays : (command : List ℕ) (skip : Bool) → IsStaying (saving_effect limits view command skip)
  saving_stays command skip =
      let full : (b : Bool) → IsStaying (cond b (answers view (Error command SavesFull None)) (awaits view skip)) = elim [ true ↦ same_stays view.screen | false ↦ same_stays view.screen ] in
      elim view.rights.can_write as (λ b. IsStaying (cond b (cond (is_full (Some (named view.id)) limits.saves) (answers view (Error command SavesFull None)) (awaits view skip)) (answers view (Error command ReadOnly None)))) [
        | true ↦ full (is_full (Some (named view.id)) limits.saves)
        | false ↦ same_stays view.screen
      ]

  asking_stays : (command : List ℕ) (keys : Option (List Place)) → IsStaying (asking_effect view command keys)
  asking_stays command None = same_stays view.screen
  asking_stays command (Some keys) =
      let asked : List Place = asked_with_all view.asked keys in
      elim (nat_lt MOST_ASKED (length asked)) as (λ b. IsStaying (cond b (answers view (Error command AskedFull None)) (becomes (record view { asked = asked })))) [
        | true ↦ same_stays view.screen
        | false ↦ same_stays view.screen
      ]

  seeing_stays : (command : List ℕ) (changed : View) → changed.screen ≡ view.screen → IsStaying (seeing_effect limits.sizes view command changed)
  seeing_stays command changed same =
      elim (is_too_large changed.zoom (length (seen_keys limits.sizes changed))) as (λ b. IsStaying (cond b (answers view (Error command TooLarge None)) (becomes (forgets limits.sizes changed)))) [
        | true ↦ same_stays view.screen
        | false ↦ subst (λ (screen : List Shown). Stays view.screen (filter (λ shown. wants limits.sizes changed shown.key) screen)) (sym same) (forgotten (wants limits.sizes changed) view.screen)
      ]

  zooming_stays : (zoom : Option Scale) → IsStaying (zooming_effect limits.sizes view zoom)
  zooming_stays None = same_stays view.screen
  zooming_stays (Some zoom) = seeing_stays _ (record view { zoom = zoom }) refl

  going_stays : (part : ℕ) → IsStaying (going_effect limits view part)
  going_stays part =
      let go : (command : List ℕ) (b : Bool) → IsStaying (cond b (seeing_effect limits.sizes view command (record view { part = part })) (answers view (Error command BadTile None))) = λ command. elim [
        | true ↦ seeing_stays command (record view { part = part }) refl
        | false ↦ same_stays view.screen
      ] in
      go _ (nat_lt part limits.parts)

  message_stays : (message : ClientMessage) → IsStaying (message_effect limits view message)
  message_stays CoolClient = same_stays view.screen
  message_stays (Load url) = same_stays view.screen
  message_stays (Key kind chr code) = key_stays kind _
  message_stays (Mouse kind x y clicks buttons modifier) = mouse_stays kind _
  message_stays (AskTile words) = asking_stays _ (keys_of limits.parts (AskTile words))
  message_stays (TileCombine words) = asking_stays _ (keys_of limits.parts (TileCombine words))
  message_stays CancelTiles = forgotten (wants limits.sizes (record view { asked = filter (is_among (seen_keys limits.sizes view)) view.asked })) view.screen
  message_stays (VisibleArea area) = seeing_stays _ (record view { area = area }) refl
  message_stays (Zoom pixel_w pixel_h twip_w twip_h nviewid) = zooming_stays (zoom_of (record { pixel_w = pixel_w; pixel_h = pixel_h; twip_w = twip_w; twip_h = twip_h; nviewid = nviewid }))
  message_stays (SetPart part) = going_stays part
  message_stays (TileProcessed wids) = same_stays view.screen
  message_stays (Save keep skip) = saving_stays _ skip
  message_stays UnoSave = saving_stays _ false

  reading_stays : (text : List ℕ) (read : Result ClientMessage MessageFault) → IsStaying (reading_effect limits view text read)
  reading_stays text (Err why) = same_stays view.screen
  reading_stays text (Ok message) = message_stays message

unchanged : (views : List View) (id : ℕ) (v w : View) → find_view views id ≡ Some v → find_view views id ≡ Some w → Stays v.screen w.screen
unchanged views id v w live later =
    let e : Some v ≡ Some w = sym live ∙ later in
    let eq : v ≡ w = cc in
    subst (λ (x : View). Stays v.screen x.screen) eq (same_stays v.screen)

module _ {C B S : Type 0} (rules : Rules C B) (cut : C → Place → S) where
  abbrev AllTell : List View → Outs S → Document S → Type 0
  AllTell views outs new = (id : ℕ) (v w : View) → find_view views id ≡ Some v → find_view new.views id ≡ Some w → Tells id v.screen w.screen outs.frames

  -- an event gives out these frames and leaves these views
  gives : (views now : List View) (frames : List (ViewId × Frame)) (outs : Outs S) (new : Document S) → outs.frames ≡ frames → new.views ≡ now
      → ((id : ℕ) (v w : View) → find_view views id ≡ Some v → find_view now id ≡ Some w → Tells id v.screen w.screen frames) → AllTell views outs new
  gives views now frames outs new frames_are views_are all id v w live later =
      subst (Tells id v.screen w.screen) (sym frames_are) (all id v w live (ap (λ vs. find_view vs id) (sym views_are) ∙ later))

  -- and none of the frames is a tile
  no_tile : (views now : List View) (frames : List (ViewId × Frame)) (outs : Outs S) (new : Document S) → outs.frames ≡ frames → new.views ≡ now
      → ((id : ℕ) → NoTile id frames) → ((id : ℕ) (v w : View) → find_view views id ≡ Some v → find_view now id ≡ Some w → Stays v.screen w.screen) → AllTell views outs new
  no_tile views now frames outs new frames_are views_are none stays =
      gives views now frames outs new frames_are views_are (λ id v w live later. none_tells id v.screen w.screen frames (none id) (stays id v w live later))

  heard_stays : (old : Document S) (to : ℕ) (view : View) (e : Effect) → find_view old.views to ≡ Some view → e.view.id ≡ view.id → Stays view.screen e.view.screen
      → (id : ℕ) (v w : View) → find_view old.views id ≡ Some v → find_view (heard old to e).views id ≡ Some w → Stays v.screen w.screen
  heard_stays old to view e there same stays id v w live later =
      let now : find_view (with_view old.views to (keeps e.view)) id ≡ Some w = ap (λ (d : Document S). find_view d.views id) (sym (heard_is old to view e there same)) ∙ later in
      elim (cases_Bool (nat_eq id to)) [
        | inl here ↦
            let is : id ≡ to = eqb-true id to here in
            let found : find_view (with_view old.views to (keeps e.view)) to ≡ Some (keeps e.view view) = found_with old.views to (keeps e.view) view (λ v. refl) there in
            let a : Some view ≡ Some v = sym there ∙ ap (find_view old.views) (sym is) ∙ live in
            let b : Some (keeps e.view view) ≡ Some w = sym found ∙ ap (find_view (with_view old.views to (keeps e.view))) (sym is) ∙ now in
            let first : view ≡ v = cc in
            let last : keeps e.view view ≡ w = cc in
            subst (λ (x : View). Stays x.screen w.screen) first (subst (λ (x : View). Stays view.screen x.screen) last stays)
        | inr away ↦
            let apart : id ≢ to = λ is. absurd (let yes : nat_eq id to ≡ true = grind (arith, nat_tests) in cc) in
            let e : Some v ≡ Some w = sym live ∙ sym (found_other old.views to id (keeps e.view) (λ v. refl) apart) ∙ now in
            let eq : v ≡ w = cc in
            subst (λ (x : View). Stays v.screen x.screen) eq (same_stays v.screen)
      ]

  send_tells : (old : Document S) (view : View) (key : Place) (version : ℕ) → find_view old.views view.id ≡ Some view
      → (id : ℕ) (v w : View) → find_view old.views id ≡ Some v → find_view (with_view old.views view.id (sent rules old version key)) id ≡ Some w → Tells id v.screen w.screen (tile_frame rules old version key view ∷ [])
  send_tells old view key version there id v w live later =
      elim (cases_Bool (nat_eq view.id id)) [
        | inl here ↦
            let is : view.id ≡ id = eqb-true view.id id here in
            let found : find_view (with_view old.views view.id (sent rules old version key)) view.id ≡ Some (sent rules old version key view) = found_with old.views view.id (sent rules old version key) view (λ v. refl) there in
            let a : Some view ≡ Some v = sym there ∙ ap (find_view old.views) is ∙ live in
            let b : Some (sent rules old version key view) ≡ Some w = sym found ∙ ap (find_view (with_view old.views view.id (sent rules old version key))) is ∙ later in
            let first : view ≡ v = cc in
            let last : sent rules old version key view ≡ w = cc in
            subst (λ (m : ℕ). Tells m v.screen w.screen (tile_frame rules old version key view ∷ [])) is
            (subst (λ (x : View). Tells view.id x.screen w.screen (tile_frame rules old version key view ∷ [])) first
            (subst (λ (x : View). Tells view.id view.screen x.screen (tile_frame rules old version key view ∷ [])) last (sent_tells rules old version view key)))
        | inr away ↦
            let apart : id ≢ view.id = λ is. absurd (let yes : nat_eq view.id id ≡ true = grind (arith, nat_tests) in cc) in
            let e : Some v ≡ Some w = sym live ∙ sym (found_other old.views view.id id (sent rules old version key) (λ v. refl) apart) ∙ later in
            let eq : v ≡ w = cc in
            none_tells id v.screen w.screen (tile_frame rules old version key view ∷ []) (other_frame rules old version key view id away) (subst (λ (x : View). Stays v.screen x.screen) eq (same_stays v.screen))
      ]

  works_tell : (old new : Document S) (outs : Outs S) → Works rules cut old outs new → AllTell old.views outs new
  works_tell old new outs works =
      elim works [
        | inl serves ↦ no_tile old.views old.views (unmodified_frames old.views old.applied (unmodified old.applied old.saving)) outs new (ap (λ o. o.frames) serves.outs_are) (ap (λ e. e.views) serves.new_is)
            (λ id key. all_unmodified id key old.views old.applied (unmodified old.applied old.saving)) (unchanged old.views)
        | inr more ↦ elim more [
          | inl applies ↦ no_tile old.views old.views (told old.views (rules.hurt (doc rules old.base old.journal old.applied) applies.input)) outs new (ap (λ o. o.frames) applies.outs_are) (ap (λ e. e.views) applies.new_is)
              (λ id key. all_told id key old.views (rules.hurt (doc rules old.base old.journal old.applied) applies.input)) (unchanged old.views)
          | inr other ↦ elim other [
            | inl sends ↦ gives old.views (with_view old.views sends.view.id (sent rules old sends.version sends.key)) (tile_frame rules old sends.version sends.key sends.view ∷ []) outs new (ap (λ o. o.frames) sends.outs_are) (ap (λ e. e.views) sends.new_is)
                (send_tells old sends.view sends.key sends.version sends.live)
            | inr cuts ↦ no_tile old.views old.views [] outs new (ap (λ o. o.frames) cuts.outs_are) (ap (λ e. e.views) cuts.new_is) (λ id key. refl) (unchanged old.views)
          ]
        ]
      ]

  join_tells : (old new : Document S) (rights : Rights) (outs : Outs S) (b : Bool) → JoinsWhere b rules old rights outs new → AllTell old.views outs new
  join_tells old new rights outs true joins =
      no_tile old.views (old.views ++ opening_view old.next_view rights ∷ []) ((named old.next_view, status rules old old.next_view rights) ∷ []) outs new (ap (λ o. o.frames) joins.0) (ap (λ e. e.views) joins.1) (λ id key. refl)
      (λ id v w live later. unchanged (old.views ++ opening_view old.next_view rights ∷ []) id v w (find_push old.views (opening_view old.next_view rights ∷ []) id v live) later)
  join_tells old new rights outs false joins = no_tile old.views old.views [] outs new (ap (λ o. o.frames) joins.0) (ap (λ e. e.views) joins.1) (λ id key. refl) (unchanged old.views)

  paints_tell : (old new : Document S) (ticket : ℕ) (scene : S) (outs : Outs S) (job : Option (Job S)) → IsKept rules cut old → Paints rules old ticket scene outs new job → AllTell old.views outs new
  paints_tell old new ticket scene outs None kept paint = no_tile old.views old.views [] outs new (ap (λ o. o.frames) paint.0) (ap (λ e. e.views) paint.1) (λ id key. refl) (unchanged old.views)
  paints_tell old new ticket scene outs (Some job) kept paint =
      elim paint [
        | inl other ↦ no_tile old.views old.views [] outs new (ap (λ o. o.frames) other.1) (ap (λ e. e.views) other.2) (λ id key. refl) (unchanged old.views)
        | inr taken ↦ gives old.views (views_offered rules old job.number job.keys old.views) (tiles_for rules old job.number job.keys old.views) outs new (ap (λ o. o.frames) taken.1) (ap (λ e. e.views) taken.2)
            (λ id v w live later. all_tiles rules old job.number job.keys old.views id v w kept.ids live later)
      ]

  turn_tells : (old new : Document S) (outs : Outs S) (turned : TurnAnswer S) → TurnsTo rules cut old turned new → outs ≡ outs_of turned → AllTell old.views outs new
  turn_tells old new outs (Worked given) works are = subst (λ (o : Outs S). AllTell old.views o new) (sym are) (works_tell old new given works)
  turn_tells old new outs Idle idle are = no_tile old.views old.views [] outs new (ap (λ o. o.frames) are) (ap (λ e. e.views) idle.1) (λ id key. refl) (unchanged old.views)

  pub steps_tell : (old new : Document S) (event : Event S) (outs : Outs S) → IsKept rules cut old → Step rules cut old event outs new → AllTell old.views outs new
  steps_tell old new (Joined rights) outs kept step = join_tells old new rights outs (nat_lt (length old.views) MOST_VIEWS) step
  steps_tell old new (Left view) outs kept step =
      no_tile old.views (without_view old.views view) [] outs new (ap (λ o. o.frames) step.0) (ap (λ e. e.views) step.1) (λ id key. refl)
      (λ id v w live later. unchanged old.views id v w live (find_without old.views view id w kept.ids later))
  steps_tell old new (Said to text) outs kept step =
      let e : Effect = effect rules old step.view text in
      let good = effect_good rules old step.view (found_view (IsViewKept rules old) old.views to step.view kept.each step.live) text in
      no_tile old.views (heard old to e).views (map (λ frame. (named to, frame)) e.frames) outs new (ap (λ o. o.frames) step.outs_are) (ap (λ d. d.views) step.new_is)
      (λ id. replied id to e.frames good.frames) (heard_stays old to step.view e step.live good.id (reading_stays (limits_of rules old) step.view text (reading text)))
  steps_tell old new Turned outs kept step = turn_tells old new outs step.0 step.1 step.2
  steps_tell old new (Painted ticket scene) outs kept step = paints_tell old new ticket scene outs (find_job old.jobs ticket) kept step
  steps_tell old new (PutAnswered ticket result) outs kept step =
      no_tile old.views old.views (ending_frames old.views result (answers_to ticket (receipt_of result) old.saving)) outs new (ap (λ o. o.frames) step.0) (ap (λ e. e.views) step.1)
      (λ id key. all_ended id key old.views result (answers_to ticket (receipt_of result) old.saving)) (unchanged old.views)
