-- Why a tile is what its view's screen then has, and why versions of tiles never go down.
use Rattle.std.proofs.Common.{◌≡◌, ℕ, ◌<◌, ◌≤◌, Bool, true, false, ◌&&◌, ◌||◌, cond, nat_eq, List, [], ◌∷◌, ◌++◌, length, map, Option, None, Some, Ok, Err, refl, ap, sym, subst, ◌∙◌, arith, inl, inr, append_assoc, append-nil}
use Rattle.std.specs.Prelude.{◌⊎◌, nat_lt, Result}
use Rattle.std.specs.List.{flat_map, AllByRecursion}
use Rattle.std.proofs.lemmas.Bool.{cases_Bool, and_parts, eqb-true, leb-true}
use Rattle.std.proofs.lemmas.Bool.Decides.{nat_tests}
use Rattle.cool_base.specs.declared.ids.ViewId.{ViewId}
use Rattle.cool_frame.specs.declared.frame.Frame.{Frame}
use Rattle.cool_frame.specs.declared.frame.Frame.TheVariants.{Server, Status, Invalidate, SaveDone, Error, Tile}
use Rattle.kit_trait.specs.Rules.{Rules, doc}
use Rattle.kit_trait.specs.declared.values.Damage.{Damage}
use Rattle.outside.specs.declared.errands.Receipt.{Receipt}
use Rattle.outside.specs.declared.faults.StoreFault.{StoreFault}
use Rattle.save_core.specs.Saving.{answers, unmodified}
use Rattle.save_core.specs.declared.values.SaveAnswer.{SaveAnswer}
use Rattle.tile_key.specs.Places.{Place, same_place}
use Rattle.document_machine.specs.Due.{parts_of, has_room, is_current, is_due, is_newer, is_not_back, takes, visible, version_of, asked_after, screen_after, sees_or_asks, sent, tile_frame}
use Rattle.document_machine.specs.Event.{Event, Joined, Left, Said, Turned, Painted, PutAnswered}
use Rattle.document_machine.specs.Keys.{Pairwise, is_among}
use Rattle.document_machine.specs.Kept.{IsKept, IsViewKept}
use Rattle.document_machine.specs.Message.{Effect, effect}
use Rattle.document_machine.specs.Outputs.{named, outs_of}
use Rattle.document_machine.specs.Run.{Run}
use Rattle.document_machine.specs.Saves.{ending_frame, ending_frames, receipt_of, unmodified_frames}
use Rattle.document_machine.specs.State.{View, Job, Document, find_view, with_view, find_job}
use Rattle.document_machine.specs.Step.{JoinsWhere, Works, TurnsTo, Paints, Step, told, offered, views_offered, tile_for, tiles_for}
use Rattle.document_machine.specs.declared.limits.TheConstants.{MOST_VIEWS}
use Rattle.document_machine.specs.declared.outs.Outs.{Outs}
use Rattle.document_machine.specs.declared.outs.Turned.{Turned as TurnAnswer}
use Rattle.document_machine.specs.declared.outs.Turned.TheVariants.{Worked, Idle}
use Rattle.document_machine.specs.declared.rights.Rights.{Rights}
use Rattle.document_laws.specs.Tiles.{IsOnScreen, AreDelivered, HasKey, StepsWith, version_in, versions_to}
use Rattle.document_laws.proofs.Heard.{IsGood, IsPlain, effect_good}
use Rattle.document_laws.proofs.KeyOrder.{same_is}
use Rattle.document_laws.proofs.KeptViews.{asked_still, map_ids}
use Rattle.document_laws.proofs.Ordered.{all_both, weaker}
use Rattle.document_laws.proofs.SaveFrames.{ending_all, none_by, unmodified_all}
use Rattle.document_laws.proofs.Rising.{Follows, back_before, find_map, find_offers, newer_not_back, offered_follows, offered_id, offers_to, steps_rise, without_same}
use Rattle.document_laws.proofs.Sending.{with_same, screen_other}
use Rattle.document_laws.proofs.Kept.{steps_keep}
use Rattle.document_laws.proofs.Views.{found_view, found_with}

-- versions in two lists of frames
versions_append : (id : ℕ) (key : Place) (xs ys : List (ViewId × Frame))
    → versions_to id key (xs ++ ys) ≡ versions_to id key xs ++ versions_to id key ys
versions_append id key [] ys = refl
versions_append id key (x ∷ xs) ys =
    ap (λ ns. version_in id key x ++ ns) (versions_append id key xs ys)
    ∙ sym (append_assoc (version_in id key x) (versions_to id key xs) (versions_to id key ys))

-- frames that are no tiles
one_told : (id : ℕ) (key : Place) (view : View) (damage : List Damage)
    → versions_to id key (map (λ d. (named view.id, Invalidate d.part d.rect)) damage) ≡ []
one_told id key view [] = refl
one_told id key view (d ∷ ds) = one_told id key view ds

all_told : (id : ℕ) (key : Place) (views : List View) (damage : List Damage)
    → versions_to id key (told views damage) ≡ []
all_told id key [] damage = refl
all_told id key (view ∷ views) damage =
    versions_append id key (map (λ d. (named view.id, Invalidate d.part d.rect)) damage)
    (told views damage)
    ∙ ap (λ ns. ns ++ versions_to id key (told views damage)) (one_told id key view damage)
    ∙ all_told id key views damage

all_replied : (id : ℕ) (key : Place) (to : ℕ) (frames : List Frame) → AllByRecursion IsPlain frames
    → versions_to id key (map (λ frame. (named to, frame)) frames) ≡ []
all_replied id key to [] plain = refl
all_replied id key to (Tile shown version wid rgba ∷ frames) plain = absurd (plain.0)
all_replied id key to (Server ∷ frames) plain = all_replied id key to frames plain.1
all_replied id key to (Status kit parts size view readonly ∷ frames) plain =
    all_replied id key to frames plain.1
all_replied id key to (Invalidate part rect ∷ frames) plain = all_replied id key to frames plain.1
all_replied id key to (SaveDone inputs put ∷ frames) plain = all_replied id key to frames plain.1
all_replied id key to (Error command kind code ∷ frames) plain =
    all_replied id key to frames plain.1

-- saves are answered by no tile
no_version : (id : ℕ) (key : Place) (view : ViewId) (number : ℕ)
    (result : Result Receipt StoreFault) → version_in id key (view, ending_frame result number) ≡ []
no_version id key view number (Ok receipt) = refl
no_version id key view number (Err fault) = refl

unmodified_none : (id : ℕ) (key : Place) (views : List View) (number : ℕ) (ids : List ViewId)
    → versions_to id key (unmodified_frames views number ids) ≡ []
unmodified_none id key views number ids =
    none_by (version_in id key) (unmodified_frames views number ids)
    (unmodified_all (λ frame. version_in id key frame ≡ []) views number ids (λ view. refl))

ending_none : (id : ℕ) (key : Place) (views : List View) (result : Result Receipt StoreFault)
    (given : List SaveAnswer) → versions_to id key (ending_frames views result given) ≡ []
ending_none id key views result given =
    none_by (version_in id key) (ending_frames views result given)
    (ending_all (λ frame. version_in id key frame ≡ []) views result given
    (λ view number. no_version id key view number result))

module _ {C B S : Type 0} (rules : Rules C B) (d : Document S) (n : ℕ) where
  -- a tile that was sent is on the screen, and stays there while others are offered
  held_here : (key : Place) (u : View) → IsOnScreen rules d (sent rules d n key u) key n
  held_here key u =
      let go : (wanted : Bool) → sees_or_asks rules d (sent rules d n key u) key ≡ wanted
      → (version_of (screen_after u.screen key n wanted) key ≡ Some n)
      ⊎ ((version_of (screen_after u.screen key n wanted) key ≡ None) × (wanted ≡ false)) =
      elim [
        | true ↦ λ e. inl (with_same u.screen key n)
        | false ↦ λ e. inr (without_same u.screen key, refl)
      ] in
      go (sees_or_asks rules d (sent rules d n key u) key) refl

  held_other : (k key : Place) (u : View) → same_place k key ≡ false → IsOnScreen rules d u key n
      → IsOnScreen rules d (sent rules d n k u) key n
  held_other k key u away held =
      let wanted : Bool =
      is_among (visible rules d u) k
      || is_among (asked_after u.asked k (is_current rules d n k)) k in
      let same : version_of (screen_after u.screen k n wanted) key ≡ version_of u.screen key =
      screen_other u.screen k n wanted key away in
      let asked : is_among (asked_after u.asked k (is_current rules d n k)) key
      ≡ is_among u.asked key = asked_still u.asked k (is_current rules d n k) key away in
      elim held [
        | inl now ↦ inl (same ∙ now)
        | inr out ↦
            inr (same ∙ out.0, ap (λ b. is_among (visible rules d u) key || b) asked ∙ out.1)
      ]

  held_sent : (k key : Place) (u : View) → IsOnScreen rules d u key n
      → IsOnScreen rules d (sent rules d n k u) key n
  held_sent k key u held =
      elim (cases_Bool (same_place k key)) [
        | inl same ↦
            subst (λ x. IsOnScreen rules d (sent rules d n x u) key n) (sym (same_is k key same))
            (held_here key u)
        | inr away ↦ held_other k key u away held
      ]

  held_offered : (k key : Place) (u : View) → IsOnScreen rules d u key n
      → IsOnScreen rules d (offered rules d n k u) key n
  held_offered k key u held =
      elim (takes rules d n k u) as
      (λ b. IsOnScreen rules d (cond b (sent rules d n k u) u) key n) [
        | true ↦ held_sent k key u held
        | false ↦ held
      ]

  held_offers : (keys : List Place) (key : Place) (u : View) → IsOnScreen rules d u key n
      → IsOnScreen rules d (offers_to rules d n keys u) key n
  unfolding offers_to
  held_offers [] key u held = held
  held_offers (k ∷ keys) key u held =
      held_offers keys key (offered rules d n k u) (held_offered k key u held)

  -- the tiles of one key to one view, of all that go to the views
  other_versions : (k key : Place) (view : View) (id : ℕ) → nat_eq view.id id ≡ false
      → versions_to id key (tile_for rules d n k view) ≡ []
  other_versions k key view id away =
      elim (takes rules d n k view) as
      (λ b. versions_to id key (cond b (tile_frame rules d n k view ∷ []) []) ≡ []) [
        | true ↦ rw away refl
        | false ↦ refl
      ]

  others_versions : (k key : Place) (views : List View) (id : ℕ)
      → AllByRecursion (λ w. id < w.id) views
      → versions_to id key (flat_map (tile_for rules d n k) views) ≡ []
  others_versions k key [] id above = refl
  others_versions k key (w ∷ ws) id above =
      let lt : id < w.id = above.0 in
      let away : nat_eq w.id id ≡ false = grind (arith, nat_tests) in
      versions_append id key (tile_for rules d n k w) (flat_map (tile_for rules d n k) ws)
      ∙ ap (λ ns. ns ++ versions_to id key (flat_map (tile_for rules d n k) ws))
      (other_versions k key w id away)
      ∙ others_versions k key ws id above.1

  own_versions : (k key : Place) (views : List View) (id : ℕ) (u : View)
      → Pairwise (λ v w. v.id < w.id) views → find_view views id ≡ Some u
      → versions_to id key (flat_map (tile_for rules d n k) views)
      ≡ versions_to id key (tile_for rules d n k u)
  own_versions k key [] id u order live = absurd (cc)
  own_versions k key (w ∷ ws) id u order live =
      let go : (b : Bool) → nat_eq w.id id ≡ b → cond b (Some w) (find_view ws id) ≡ Some u
      → versions_to id key (flat_map (tile_for rules d n k) (w ∷ ws))
      ≡ versions_to id key (tile_for rules d n k u) = elim [
        | true ↦ λ here is.
            let same : w ≡ u = cc in
            let id_is : w.id ≡ id = eqb-true w.id id here in
            let rest : versions_to id key (flat_map (tile_for rules d n k) ws) ≡ [] =
            others_versions k key ws id
            (subst (λ m. AllByRecursion (λ x. m < x.id) ws) id_is order.0) in
            versions_append id key (tile_for rules d n k w) (flat_map (tile_for rules d n k) ws)
            ∙ ap (λ ns. versions_to id key (tile_for rules d n k w) ++ ns) rest
            ∙ append-nil (versions_to id key (tile_for rules d n k w))
            ∙ ap (λ x. versions_to id key (tile_for rules d n k x)) same
        | false ↦ λ away is.
            versions_append id key (tile_for rules d n k w) (flat_map (tile_for rules d n k) ws)
            ∙ ap (λ ns. ns ++ versions_to id key (flat_map (tile_for rules d n k) ws))
            (other_versions k key w id away)
            ∙ own_versions k key ws id u order.1 is
      ] in
      go (nat_eq w.id id) refl live

  -- a version of the key is no step back on the screen as it was, and is what the screen then has
  abbrev IsDelivered : (v later : View) → Place → ℕ → Type 0
  IsDelivered v later key m = (is_not_back (version_of v.screen key) m ≡ true)
      × IsOnScreen rules d later key m

  one_delivered : (v : View) (k key : Place) (keys : List Place) (u : View) (id : ℕ)
      → Follows rules d n v key u
      → AllByRecursion (IsDelivered v (offers_to rules d n keys (offered rules d n k u)) key)
      (versions_to id key (tile_for rules d n k u))
  one_delivered v k key keys u id follows =
      let go : (b : Bool) → takes rules d n k u ≡ b
      → AllByRecursion
      (IsDelivered v (offers_to rules d n keys (cond b (sent rules d n k u) u)) key)
      (versions_to id key (cond b (tile_frame rules d n k u ∷ []) [])) = elim [
        | true ↦ λ taken.
            let parts =
            and_parts (is_newer (version_of u.screen k) n (is_among u.asked k))
            (is_due rules d u k && has_room u) taken in
            let not_back : is_not_back (version_of u.screen k) n ≡ true =
            newer_not_back (version_of u.screen k) n (is_among u.asked k) parts.0 in
            let due : is_due rules d u k
            ≡ true = (and_parts (is_due rules d u k) (has_room u) parts.1).0 in
            let there : (a b : Bool) → same_place k key ≡ b
            → AllByRecursion (IsDelivered v (offers_to rules d n keys (sent rules d n k u)) key)
            (cond (a && b) (n ∷ []) [] ++ []) = elim [
              | true ↦ elim [
                | true ↦ λ same.
                    let is : k ≡ key = same_is k key same in
                    let first : is_not_back (version_of u.screen key) n ≡ true =
                    ap (λ x. is_not_back (version_of u.screen x) n) (sym is) ∙ not_back in
                    let owed : is_due rules d u key ≡ true = ap (is_due rules d u) (sym is) ∙ due in
                    let now : IsOnScreen rules d (sent rules d n k u) key n =
                    subst (λ x. IsOnScreen rules d (sent rules d n x u) key n) (sym is)
                    (held_here key u) in (
                      (
                        back_before rules d n v key u first owed follows,
                        held_offers keys key
                            (sent rules d n k u) now,
                      ),
                      tt,
                    )
                | false ↦ λ away. tt
              ]
              | false ↦ λ b e. tt
            ] in
            there (nat_eq u.id id) (same_place k key) refl
        | false ↦ λ not_taken. tt
      ] in
      go (takes rules d n k u) refl

  all_delivered : (v : View) (keys : List Place) (views : List View) (id : ℕ) (u : View)
      (key : Place) → Pairwise (λ v w. v.id < w.id) views → find_view views id ≡ Some u
      → Follows rules d n v key u
      → AllByRecursion (IsDelivered v (offers_to rules d n keys u) key)
      (versions_to id key (tiles_for rules d n keys views))
  unfolding offers_to
  all_delivered v [] views id u key order live follows = tt
  all_delivered v (k ∷ keys) views id u key order live follows =
      let P : ℕ → Type 0 = IsDelivered v (offers_to rules d n keys (offered rules d n k u)) key in
      let first : AllByRecursion P (versions_to id key (flat_map (tile_for rules d n k) views)) =
      subst (AllByRecursion P) (sym (own_versions k key views id u order live))
      (one_delivered v k key keys u id follows) in
      let rest : AllByRecursion P
      (versions_to id key (tiles_for rules d n keys (map (offered rules d n k) views))) =
      all_delivered v keys (map (offered rules d n k) views) id (offered rules d n k u) key
      (map_ids views (offered rules d n k) (offered_id rules d n k) order)
      (find_map rules d n k views id u live) (offered_follows rules d n v k key u follows) in
      subst (AllByRecursion P)
      (sym (versions_append id key (flat_map (tile_for rules d n k) views)
      (tiles_for rules d n keys (map (offered rules d n k) views))))
      (all_both P (versions_to id key (flat_map (tile_for rules d n k) views))
      (versions_to id key (tiles_for rules d n keys (map (offered rules d n k) views))) first
      rest)

  -- painted tiles go to no view that isn't there
  nobody_there : (views : List View) (k key : Place) (id : ℕ) → find_view views id ≡ None
      → versions_to id key (flat_map (tile_for rules d n k) views) ≡ []
  nobody_there [] k key id none = refl
  nobody_there (w ∷ ws) k key id none =
      let go : (b : Bool) → nat_eq w.id id ≡ b → cond b (Some w) (find_view ws id) ≡ None
      → versions_to id key (flat_map (tile_for rules d n k) (w ∷ ws)) ≡ [] = elim [
        | true ↦ λ here is. absurd (cc)
        | false ↦ λ away is.
            versions_append id key (tile_for rules d n k w) (flat_map (tile_for rules d n k) ws)
            ∙ ap (λ ns. ns ++ versions_to id key (flat_map (tile_for rules d n k) ws))
            (other_versions k key w id away)
            ∙ nobody_there ws k key id is
      ] in
      go (nat_eq w.id id) refl none

  still_nobody : (views : List View) (k : Place) (id : ℕ) → find_view views id ≡ None
      → find_view (map (offered rules d n k) views) id ≡ None
  still_nobody [] k id none = refl
  still_nobody (w ∷ ws) k id none =
      let go : (b : Bool) → nat_eq w.id id ≡ b → cond b (Some w) (find_view ws id) ≡ None
      → find_view (map (offered rules d n k) (w ∷ ws)) id ≡ None = elim [
        | true ↦ λ here is. absurd (cc)
        | false ↦ λ away is.
            let off : nat_eq (offered rules d n k w).id id ≡ false =
            ap (λ m. nat_eq m id) (offered_id rules d n k w) ∙ away in
            rw off (still_nobody ws k id is)
      ] in
      go (nat_eq w.id id) refl none

  none_delivered : (keys : List Place) (views : List View) (id : ℕ) (key : Place)
      → find_view views id ≡ None → versions_to id key (tiles_for rules d n keys views) ≡ []
  none_delivered [] views id key none = refl
  none_delivered (k ∷ keys) views id key none =
      versions_append id key (flat_map (tile_for rules d n k) views)
      (tiles_for rules d n keys (map (offered rules d n k) views))
      ∙ ap (λ ns. ns ++ versions_to id key
      (tiles_for rules d n keys (map (offered rules d n k) views)))
      (nobody_there views k key id none)
      ∙ none_delivered keys (map (offered rules d n k) views) id key (still_nobody views k id none)

module _ {C B S : Type 0} (rules : Rules C B) (cut : C → Place → S) where
  -- the tiles of a step are delivered
  abbrev pub AllDelivered : Document S → Outs S → Document S → Type 0
  AllDelivered old outs new =
      (id : ℕ) (key : Place)
      → (versions_to id key outs.frames ≡ [])
      ⊎ AreDelivered rules old new id key (versions_to id key outs.frames)

  no_tiles : (old new : Document S) (frames : List (ViewId × Frame)) (outs : Outs S)
      → outs.frames ≡ frames → ((id : ℕ) (key : Place) → versions_to id key frames ≡ [])
      → AllDelivered old outs new
  no_tiles old new frames outs frames_are none id key =
      inl (ap (versions_to id key) frames_are ∙ none id key)

  send_delivers : (old new : Document S) (view : View) (k : Place) (version : ℕ) (outs : Outs S)
      → find_view old.views view.id ≡ Some view
      → is_not_back (version_of view.screen k) version ≡ true
      → outs.frames ≡ tile_frame rules old version k view ∷ []
      → new ≡ record old { views = with_view old.views view.id (sent rules old version k) }
      → AllDelivered old outs new
  send_delivers old new view k version outs live not_back frames_are new_is id key =
      let go : (a b : Bool) → nat_eq view.id id ≡ a → same_place k key ≡ b
      → versions_to id key outs.frames ≡ cond (a && b) (version ∷ []) []
      → (versions_to id key outs.frames ≡ [])
      ⊎ AreDelivered rules old new id key (versions_to id key outs.frames) = elim [
        | true ↦ elim [
          | true ↦ λ here same are.
              let id_is : view.id ≡ id = eqb-true view.id id here in
              let is : k ≡ key = same_is k key same in
              let after : View = sent rules old version k view in
              let found : find_view (with_view old.views view.id (sent rules old version k)) view.id
              ≡ Some after =
              found_with old.views view.id (sent rules old version k) view (λ v. refl) live in
              let there : find_view new.views id ≡ Some after =
              ap (λ (e : Document S). find_view e.views id) new_is
              ∙ ap (find_view (with_view old.views view.id (sent rules old version k)))
              (sym id_is) ∙ found in
              let first : is_not_back (version_of view.screen key) version ≡ true =
              ap (λ x. is_not_back (version_of view.screen x) version) (sym is) ∙ not_back in
              let on : IsOnScreen rules old after key version =
              subst (λ x. IsOnScreen rules old (sent rules old version x view) key version)
              (sym is) (held_here rules old version key view) in
              let now : IsOnScreen rules new after key version =
              subst (λ (e : Document S). IsOnScreen rules e after key version)
              (sym new_is) on in
              inr (record {
                before = view;
                later = after;
                was = ap (find_view old.views) (sym id_is) ∙ live;
                is = there;
                no_step_back =
                    subst (AllByRecursion (λ m. is_not_back (version_of view.screen key) m ≡ true))
                    (sym are) (first, tt);
                on_screen =
                    subst (AllByRecursion (IsOnScreen rules new after key)) (sym are) (now, tt);
              })
          | false ↦ λ here away are. inl are
        ]
        | false ↦ λ b away e are. inl are
      ] in
      go (nat_eq view.id id) (same_place k key) refl refl
      (ap (versions_to id key) frames_are
      ∙ append-nil (cond (nat_eq view.id id && same_place k key) (version ∷ []) []))

  paint_delivers : (old new : Document S) (number : ℕ) (keys : List Place) (jobs : List (Job S))
      (outs : Outs S) → Pairwise (λ v w. v.id < w.id) old.views
      → outs.frames ≡ tiles_for rules old number keys old.views
      → new ≡ record old { jobs = jobs; views = views_offered rules old number keys old.views }
      → AllDelivered old outs new
  paint_delivers old new number keys jobs outs order frames_are new_is id key =
      let go : (o : Option View) → find_view old.views id ≡ o
      → (versions_to id key outs.frames ≡ [])
      ⊎ AreDelivered rules old new id key (versions_to id key outs.frames) = elim [
        | None ↦ λ none. inl
            (ap (versions_to id key) frames_are
            ∙ none_delivered rules old number keys old.views id key none)
        | Some v ↦ λ live.
            let after : View = offers_to rules old number keys v in
            let all : AllByRecursion (IsDelivered rules old number v after key)
            (versions_to id key outs.frames) =
            subst (λ frames. AllByRecursion (IsDelivered rules old number v after key)
            (versions_to id key frames)) (sym frames_are)
            (all_delivered rules old number v keys old.views id v key order live (inl refl)) in
            let there : find_view new.views id ≡ Some after =
            ap (λ (e : Document S). find_view e.views id) new_is
            ∙ find_offers rules old number keys old.views id v live in
            let on : AllByRecursion (IsOnScreen rules old after key)
            (versions_to id key outs.frames) =
            weaker (IsDelivered rules old number v after key) (IsOnScreen rules old after key)
            (versions_to id key outs.frames) (λ m p. p.1) all in
            inr (record {
              before = v;
              later = after;
              was = live;
              is = there;
              no_step_back =
                  weaker (IsDelivered rules old number v after key)
                  (λ m. is_not_back (version_of v.screen key) m ≡ true)
                  (versions_to id key outs.frames) (λ m p. p.0) all;
              on_screen =
                  subst (λ (e : Document S). AllByRecursion (IsOnScreen rules e after key)
                  (versions_to id key outs.frames)) (sym new_is) on;
            })
      ] in
      go (find_view old.views id) refl

  works_deliver : (old new : Document S) (outs : Outs S) → Works rules cut old outs new
      → AllDelivered old outs new
  works_deliver old new outs works =
      elim works [
        | inl serves ↦
            no_tiles old new
            (unmodified_frames old.views old.applied (unmodified old.applied old.saving)) outs
            (ap (λ o. o.frames) serves.outs_are)
            (λ id key. unmodified_none id key old.views old.applied
            (unmodified old.applied old.saving))
        | inr later ↦ elim later [
          | inl applies ↦
              no_tiles old new
              (told old.views
              (rules.hurt (doc rules old.base old.journal old.applied) applies.input)) outs
              (ap (λ o. o.frames) applies.outs_are)
              (λ id key. all_told id key old.views
              (rules.hurt (doc rules old.base old.journal old.applied) applies.input))
          | inr other ↦ elim other [
            | inl sends ↦
                send_delivers old new sends.view sends.key sends.version outs sends.live
                sends.not_back (ap (λ o. o.frames) sends.outs_are) sends.new_is
            | inr cuts ↦
                no_tiles old new [] outs (ap (λ o. o.frames) cuts.outs_are) (λ id key. refl)
          ]
        ]
      ]

  turn_delivers : (old new : Document S) (turned : TurnAnswer S) (outs : Outs S)
      → TurnsTo rules cut old turned new → outs ≡ outs_of turned → AllDelivered old outs new
  turn_delivers old new (Worked given) outs turn are =
      subst (λ (o : Outs S). AllDelivered old o new) (sym are) (works_deliver old new given turn)
  turn_delivers old new Idle outs turn are =
      no_tiles old new [] outs (ap (λ o. o.frames) are) (λ id key. refl)

  join_delivers : (old new : Document S) (rights : Rights) (outs : Outs S) (b : Bool)
      → JoinsWhere b rules old rights outs new → AllDelivered old outs new
  join_delivers old new rights outs true joins id key =
      inl (ap (λ o. versions_to id key o.frames) joins.0)
  join_delivers old new rights outs false joins id key =
      inl (ap (λ o. versions_to id key o.frames) joins.0)

  paints_deliver : (old new : Document S) (ticket : ℕ) (scene : S) (outs : Outs S)
      (job : Option (Job S)) → IsKept rules cut old → Paints rules old ticket scene outs new job
      → AllDelivered old outs new
  paints_deliver old new ticket scene outs None kept paint =
      no_tiles old new [] outs (ap (λ o. o.frames) paint.0) (λ id key. refl)
  paints_deliver old new ticket scene outs (Some job) kept paint =
      elim paint [
        | inl other ↦ no_tiles old new [] outs (ap (λ o. o.frames) other.1) (λ id key. refl)
        | inr taken ↦
            paint_delivers old new job.number job.keys _ outs kept.ids
            (ap (λ o. o.frames) taken.1) taken.2
      ]

  -- each tile that a step gives to a view is no step back on its screen, and is what its screen
  -- then has
  pub steps_deliver : (old new : Document S) (event : Event S) (outs : Outs S)
      → IsKept rules cut old → Step rules cut old event outs new → AllDelivered old outs new
  steps_deliver old new (Joined rights) outs kept step =
      join_delivers old new rights outs (nat_lt (length old.views) MOST_VIEWS) step
  steps_deliver old new (Left view) outs kept step =
      no_tiles old new [] outs (ap (λ o. o.frames) step.0) (λ id key. refl)
  steps_deliver old new (Said to text) outs kept step =
      let e : Effect = effect rules old step.view text in
      let of_view : IsViewKept rules old step.view =
      found_view (IsViewKept rules old) old.views to step.view kept.each step.live in
      let good : IsGood rules old step.view e = effect_good rules old step.view of_view text in
      no_tiles old new (map (λ frame. (named to, frame)) e.frames) outs
      (ap (λ o. o.frames) step.outs_are) (λ id key. all_replied id key to e.frames good.frames)
  steps_deliver old new Turned outs kept step = turn_delivers old new step.0 outs step.1 step.2
  steps_deliver old new (Painted ticket scene) outs kept step =
      paints_deliver old new ticket scene outs (find_job old.jobs ticket) kept step
  steps_deliver old new (PutAnswered ticket result) outs kept step =
      no_tiles old new
      (ending_frames old.views result (answers ticket (receipt_of result) old.saving)) outs
      (ap (λ o. o.frames) step.0)
      (λ id key. ending_none id key old.views result
      (answers ticket (receipt_of result) old.saving))

  module _ (some : (base : List ℕ) → 0 < parts_of rules base) (id : ℕ) (key : Place) where
    -- while the screen of a view has a key, its version doesn't go down
    held_rises : (events : List (Event S)) (old new : Document S) (outs : Outs S) (v : View)
        (had : ℕ) → IsKept rules cut old → Run (StepsWith rules cut id key) old events outs new
        → find_view old.views id ≡ Some v → version_of v.screen key ≡ Some had
        → (w : View) × (has : ℕ) × (find_view new.views id ≡ Some w)
        × (version_of w.screen key ≡ Some has) × (had ≤ has)
    held_rises [] old new outs v had kept run live there =
        let same : had ≤ had = omega arith in
        (v, had, ap (λ (e : Document S). find_view e.views id) run.1 ∙ live, there, same)
    held_rises (event ∷ events) old new outs v had kept run live there =
        let mid : Document S = run.0 in
        let step : Step rules cut old event run.1 mid = run.3.0 in
        let held : HasKey id key mid = run.3.1 in
        let rises : had ≤ held.1 =
        steps_rise rules cut old mid event run.1 kept step id v held.0 live held.2 key had
        held.1 there held.3 in
        let rest = held_rises events mid new run.2 held.0 held.1
        (steps_keep rules cut some old mid event run.1 step kept) run.4 held.2 held.3 in
        (rest.0, rest.1, rest.2, rest.3, omega (arith, rises, rest.4))

    runs_with : (events : List (Event S)) (old new : Document S) (outs : Outs S)
        → IsKept rules cut old → Run (StepsWith rules cut id key) old events outs new
        → IsKept rules cut new
    runs_with [] old new outs kept run = subst (IsKept rules cut) (sym run.1) kept
    runs_with (event ∷ events) old new outs kept run =
        runs_with events run.0 new run.2
        (steps_keep rules cut some old run.0 event run.1 run.3.0 kept) run.4

    -- of two tiles of the key to the view between which its screen had the key, the later has no
    -- lower version
    pub frames_rise : (old mid late new : Document S) (first last : Event S)
        (between : List (Event S)) (outs held later : Outs S) → IsKept rules cut old
        → StepsWith rules cut id key old first outs mid
        → Run (StepsWith rules cut id key) mid between held late
        → Step rules cut late last later new
        → AllByRecursion (λ n. AllByRecursion (λ m. n ≤ m) (versions_to id key later.frames))
        (versions_to id key outs.frames)
    frames_rise old mid late new first last between outs held later kept one run two =
        let kept_mid : IsKept rules cut mid =
        steps_keep rules cut some old mid first outs one.0 kept in
        let has : HasKey id key mid = one.1 in
        let on = held_rises between mid late held has.0 has.1 kept_mid run has.2 has.3 in
        let P : ℕ → Type 0 = λ n. AllByRecursion (λ m. n ≤ m) (versions_to id key later.frames) in
        let none_later : versions_to id key later.frames ≡ [] → (n : ℕ) → P n =
        λ none n. subst (AllByRecursion (λ m. n ≤ m)) (sym none) tt in
        let kept_late : IsKept rules cut late = runs_with between mid late held kept_mid run in
        let ends : (n : ℕ) → n ≤ on.1 → P n = λ n le.
        elim (steps_deliver late new last later kept_late two id key) [
          | inl none ↦ none_later none n
          | inr given ↦
              let e : Some given.before ≡ Some on.0 = sym given.was ∙ on.2 in
              let same : given.before ≡ on.0 = cc in
              let had : version_of given.before.screen key ≡ Some on.1 =
              ap (λ x. version_of x.screen key) same ∙ on.3 in
              weaker (λ m. is_not_back (version_of given.before.screen key) m ≡ true) (λ m. n ≤ m)
              (versions_to id key later.frames)
              (λ m p. let above : on.1 ≤ m =
              leb-true on.1 m (ap (λ o. is_not_back o m) (sym had) ∙ p) in omega arith)
              given.no_step_back
        ] in
        elim (steps_deliver old mid first outs kept one.0 id key) [
          | inl none ↦ subst (AllByRecursion P) (sym none) tt
          | inr given ↦
              let e : Some given.later ≡ Some has.0 = sym given.is ∙ has.2 in
              let same : given.later ≡ has.0 = cc in
              let now : version_of given.later.screen key ≡ Some has.1 =
              ap (λ x. version_of x.screen key) same ∙ has.3 in
              weaker (IsOnScreen rules mid given.later key) P (versions_to id key outs.frames)
              (λ n p.
              let is : n ≡ has.1 = elim p [
                | inl some ↦ let f : Some n ≡ Some has.1 = sym some ∙ now in cc
                | inr out ↦ absurd (let none = out.0 in cc)
              ] in
              let le : n ≤ on.1 = omega (arith, is, on.4) in
              ends n le) given.on_screen
        ]
