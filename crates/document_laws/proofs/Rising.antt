-- Why versions on a screen never go down.
use Rattle.std.proofs.Common.{◌≡◌, ◌≢◌, ℕ, ◌<◌, Bool, true, false, not, ◌&&◌, ◌||◌, cond, nat_eq, List, [], ◌∷◌, ◌++◌, length, map, Option, None, Some, refl, ap, sym, subst, ◌∙◌, arith, inl, inr}
use Rattle.std.specs.Prelude.{◌⊎◌, nat_lt, nat_le}
use Rattle.std.specs.List.{AllByRecursion}
use Rattle.std.proofs.lemmas.Bool.{cases_Bool, and_parts, leb-true, eqb-true}
use Rattle.std.proofs.lemmas.Bool.Decides.{nat_tests}
use Rattle.kit_trait.specs.Rules.{Rules}
use Rattle.tile_key.specs.Places.{Place, same_place}
use Rattle.document_machine.specs.Due.{has_room, is_current, is_due, is_lacking, is_newer, is_not_back, takes, visible, version_of, without_version, asked_after, screen_after, sees_or_asks, sent}
use Rattle.document_machine.specs.Event.{Event, Joined, Left, Said, Turned, Painted, PutAnswered}
use Rattle.document_machine.specs.Keys.{Pairwise, is_among}
use Rattle.document_machine.specs.Kept.{IsKept, IsViewKept}
use Rattle.document_machine.specs.Message.{Effect, effect, heard}
use Rattle.document_machine.specs.State.{Shown, View, Job, Document, find_view, with_view, without_view, find_job}
use Rattle.document_machine.specs.Step.{JoinsWhere, Works, TurnsTo, Paints, Step, offered, views_offered}
use Rattle.document_machine.specs.declared.limits.TheConstants.{MOST_VIEWS}
use Rattle.document_machine.specs.declared.outs.Outs.{Outs}
use Rattle.document_machine.specs.declared.outs.Turned.{Turned as TurnAnswer}
use Rattle.document_machine.specs.declared.outs.Turned.TheVariants.{Worked, Idle}
use Rattle.document_machine.specs.declared.rights.Rights.{Rights}
use Rattle.document_laws.specs.Tiles.{IsNoStepBack}
use Rattle.document_laws.proofs.KeyOrder.{same_is}
use Rattle.document_laws.proofs.KeptViews.{asked_still}
use Rattle.document_laws.proofs.Forgetting.{same_screen}
use Rattle.document_laws.proofs.Heard.{IsGood, effect_good, heard_is, keeps}
use Rattle.document_laws.proofs.Sending.{with_same, screen_other}
use Rattle.document_laws.proofs.Views.{found_other, found_view, found_with}

-- the key whose entry was taken out
pub without_same : (screen : List Shown) (key : Place)
    → version_of (without_version screen key) key ≡ None
without_same [] key = refl
without_same (shown ∷ screen) key =
    let go : (b : Bool) → same_place shown.key key ≡ b
    → version_of
    (cond (not b) (shown ∷ without_version screen key) (without_version screen key)) key
    ≡ None = elim [
      | true ↦ λ same. without_same screen key
      | false ↦ λ apart. rw apart (without_same screen key)
    ] in
    go (same_place shown.key key) refl

-- a newer version is no step back
pub newer_not_back : (o : Option ℕ) (version : ℕ) (asked : Bool) → is_newer o version asked ≡ true
    → is_not_back o version ≡ true
newer_not_back None version asked e = refl
newer_not_back (Some had) version asked e =
    let go : (a b : Bool) → nat_lt had version ≡ a → nat_le had version ≡ b
    → (a || (asked && b)) ≡ true → b ≡ true = elim [
      | true ↦ elim [
        | true ↦ λ less le e. refl
        | false ↦ λ less le e. absurd (grind (arith, nat_tests))
      ]
      | false ↦ λ b less le e. (and_parts asked b e).1
    ] in
    go (nat_lt had version) (nat_le had version) refl refl e

module _ {C B S : Type 0} (rules : Rules C B) (d : Document S) (n : ℕ) (v : View) where
  -- what the screen of a view has of a key once tiles in version n were offered to it: what the
  -- view had, or nothing and it doesn't want the key, or version n where that is no step back
  abbrev pub Follows : Place → View → Type 0
  Follows key u =
      (version_of u.screen key ≡ version_of v.screen key)
      ⊎ (((version_of u.screen key ≡ None) × (sees_or_asks rules d u key ≡ false))
      ⊎ ((version_of u.screen key ≡ Some n) × (is_not_back (version_of v.screen key) n ≡ true)))

  -- a key that the view doesn't want is not due
  pub not_wanted_not_due : (key : Place) (u : View) → sees_or_asks rules d u key ≡ false
      → is_due rules d u key ≡ false
  not_wanted_not_due key u off =
      let go : (a b c : Bool) → (a || c) ≡ false → ((a && b) || c) ≡ false =
      elim [ true ↦ λ b c e. absurd (cc) | false ↦ λ b c e. e ] in
      go (is_among (visible rules d u) key) (is_lacking rules d key (version_of u.screen key))
      (is_among u.asked key) off

  -- a tile that is no step back for the view as it is now is none for the view as it was
  pub back_before : (key : Place) (u : View) → is_not_back (version_of u.screen key) n ≡ true
      → is_due rules d u key ≡ true → Follows key u → is_not_back (version_of v.screen key) n ≡ true
  back_before key u not_back due follows = elim follows [
    | inl same ↦ ap (λ o. is_not_back o n) (sym same) ∙ not_back
    | inr other ↦ elim other [
      | inl out ↦ absurd (let no = not_wanted_not_due key u out.1 in cc)
      | inr now ↦ now.1
    ]
  ]

  here_follows : (key : Place) (u : View) → is_not_back (version_of u.screen key) n ≡ true
      → is_due rules d u key ≡ true → Follows key u → Follows key (sent rules d n key u)
  here_follows key u not_back due follows =
      let back : is_not_back (version_of v.screen key) n ≡ true =
      back_before key u not_back due follows in
      let go : (wanted : Bool) → sees_or_asks rules d (sent rules d n key u) key ≡ wanted
      → (version_of (screen_after u.screen key n wanted) key ≡ version_of v.screen key)
      ⊎ (((version_of (screen_after u.screen key n wanted) key ≡ None) × (wanted ≡ false))
      ⊎ ((version_of (screen_after u.screen key n wanted) key ≡ Some n)
      × (is_not_back (version_of v.screen key) n ≡ true))) = elim [
        | true ↦ λ e. inr (inr (with_same u.screen key n, back))
        | false ↦ λ e. inr (inl (without_same u.screen key, refl))
      ] in
      go (sees_or_asks rules d (sent rules d n key u) key) refl

  other_follows : (k key : Place) (u : View) → same_place k key ≡ false → Follows key u
      → Follows key (sent rules d n k u)
  other_follows k key u away follows =
      let wanted : Bool =
      is_among (visible rules d u) k
      || is_among (asked_after u.asked k (is_current rules d n k)) k in
      let same : version_of (screen_after u.screen k n wanted) key ≡ version_of u.screen key =
      screen_other u.screen k n wanted key away in
      let asked : is_among (asked_after u.asked k (is_current rules d n k)) key
      ≡ is_among u.asked key = asked_still u.asked k (is_current rules d n k) key away in
      elim follows [
        | inl as_before ↦ inl (same ∙ as_before)
        | inr other ↦ elim other [
          | inl out ↦
              inr (inl (
                same ∙ out.0,
                ap (λ b. is_among (visible rules d u) key || b) asked
                    ∙ out.1,
              ))
          | inr now ↦ inr (inr (same ∙ now.0, now.1))
        ]
      ]

  sent_follows : (k key : Place) (u : View) → is_not_back (version_of u.screen k) n ≡ true
      → is_due rules d u k ≡ true → Follows key u → Follows key (sent rules d n k u)
  sent_follows k key u not_back due follows =
      elim (cases_Bool (same_place k key)) [
        | inl same ↦
            let is : k ≡ key = same_is k key same in
            subst (λ x. Follows key (sent rules d n x u)) (sym is)
            (here_follows key u
            (ap (λ x. is_not_back (version_of u.screen x) n) (sym is) ∙ not_back)
            (ap (is_due rules d u) (sym is) ∙ due) follows)
        | inr away ↦ other_follows k key u away follows
      ]

  pub offered_follows : (k key : Place) (u : View) → Follows key u
      → Follows key (offered rules d n k u)
  offered_follows k key u follows =
      let go : (b : Bool) → takes rules d n k u ≡ b → Follows key (cond b (sent rules d n k u) u) =
      elim [
        | true ↦ λ taken.
            let parts =
            and_parts (is_newer (version_of u.screen k) n (is_among u.asked k))
            (is_due rules d u k && has_room u) taken in
            sent_follows k key u
            (newer_not_back (version_of u.screen k) n (is_among u.asked k) parts.0)
            (and_parts (is_due rules d u k) (has_room u) parts.1).0 follows
        | false ↦ λ not_taken. follows
      ] in
      go (takes rules d n k u) refl

  no_step_back : (u : View) → ((key : Place) → Follows key u) → IsNoStepBack v u
  no_step_back u follows key had has a b =
      elim (follows key) [
        | inl same ↦ let e : Some has ≡ Some had = sym b ∙ same ∙ a in let eq : has ≡ had = cc in
            omega arith
        | inr other ↦ elim other [
          | inl out ↦ absurd (let none = out.0 in cc)
          | inr now ↦
              let e : Some has ≡ Some n = sym b ∙ now.0 in
              let eq : has ≡ n = cc in
              let le : nat_le had n ≡ true = ap (λ o. is_not_back o n) (sym a) ∙ now.1 in
              omega (arith, leb-true had n le)
        ]
      ]

module _ {C B S : Type 0} (rules : Rules C B) (d : Document S) (n : ℕ) where
  -- one view, to which painted tiles were offered key by key
  unfoldable pub offers_to : List Place → View → View
  offers_to [] view = view
  offers_to (key ∷ keys) view = offers_to keys (offered rules d n key view)

  offers_follow : (v : View) (keys : List Place) (u : View) (key : Place)
      → Follows rules d n v key u → Follows rules d n v key (offers_to keys u)
  unfolding offers_to
  offers_follow v [] u key follows = follows
  offers_follow v (k ∷ keys) u key follows =
      offers_follow v keys (offered rules d n k u) key (offered_follows rules d n v k key u follows)

  pub offered_id : (key : Place) (view : View) → (offered rules d n key view).id ≡ view.id
  offered_id key view =
      elim (takes rules d n key view) as
      (λ b. (cond b (sent rules d n key view) view).id ≡ view.id) [ true ↦ refl | false ↦ refl ]

  pub find_map : (key : Place) (views : List View) (id : ℕ) (v : View) → find_view views id ≡ Some v
      → find_view (map (offered rules d n key) views) id ≡ Some (offered rules d n key v)
  find_map key [] id v e = absurd (cc)
  find_map key (w ∷ ws) id v e =
      let go : (b : Bool) → nat_eq w.id id ≡ b → cond b (Some w) (find_view ws id) ≡ Some v
      → find_view (map (offered rules d n key) (w ∷ ws)) id ≡ Some (offered rules d n key v) =
      elim [
        | true ↦ λ here is.
            let same : w ≡ v = cc in
            let id_is : nat_eq (offered rules d n key w).id id ≡ true =
            ap (λ m. nat_eq m id) (offered_id key w) ∙ here in
            rw id_is (ap (λ x. Some (offered rules d n key x)) same)
        | false ↦ λ away is.
            let off : nat_eq (offered rules d n key w).id id ≡ false =
            ap (λ m. nat_eq m id) (offered_id key w) ∙ away in
            rw off (find_map key ws id v is)
      ] in
      go (nat_eq w.id id) refl e

  pub find_offers : (keys : List Place) (views : List View) (id : ℕ) (v : View)
      → find_view views id ≡ Some v
      → find_view (views_offered rules d n keys views) id ≡ Some (offers_to keys v)
  unfolding offers_to
  find_offers [] views id v e = e
  find_offers (key ∷ keys) views id v e =
      find_offers keys (map (offered rules d n key) views) id (offered rules d n key v)
      (find_map key views id v e)

  offers_rise : (keys : List Place) (views : List View) (id : ℕ) (v w : View)
      → find_view views id ≡ Some v → find_view (views_offered rules d n keys views) id ≡ Some w
      → IsNoStepBack v w
  offers_rise keys views id v w live later =
      let e : Some (offers_to keys v) ≡ Some w = sym (find_offers keys views id v live) ∙ later in
      let same : offers_to keys v ≡ w = cc in
      subst (IsNoStepBack v) same
      (no_step_back rules d n v (offers_to keys v)
      (λ key. offers_follow v keys v key (inl refl)))

-- views, one of which has changed
with_rise : (views : List View) (i : ℕ) (change : View → View) → ((v : View) → (change v).id ≡ v.id)
    → ((v : View) → find_view views i ≡ Some v → IsNoStepBack v (change v))
    → (id : ℕ) (v w : View) → find_view views id ≡ Some v
    → find_view (with_view views i change) id ≡ Some w → IsNoStepBack v w
with_rise views i change same rise id v w live later =
    elim (cases_Bool (nat_eq id i)) [
      | inl here ↦
          let is : id ≡ i = eqb-true id i here in
          let at : find_view views i ≡ Some v = ap (find_view views) (sym is) ∙ live in
          let found : find_view (with_view views i change) i ≡ Some (change v) =
          found_with views i change v same at in
          let e : Some (change v) ≡ Some w =
          sym found ∙ ap (find_view (with_view views i change)) (sym is) ∙ later in
          let eq : change v ≡ w = cc in
          subst (IsNoStepBack v) eq (rise v at)
      | inr away ↦
          let apart : id ≢ i =
          λ is. absurd (let yes : nat_eq id i ≡ true = grind (arith, nat_tests) in cc) in
          let e : Some v ≡ Some w =
          sym live ∙ sym (found_other views i id change same apart) ∙ later in
          let eq : v ≡ w = cc in
          same_screen v w (ap (λ x. x.screen) eq)
    ]

unchanged_rise : (views : List View) (id : ℕ) (v w : View) → find_view views id ≡ Some v
    → find_view views id ≡ Some w → IsNoStepBack v w
unchanged_rise views id v w live later =
    let e : Some v ≡ Some w = sym live ∙ later in
    let eq : v ≡ w = cc in
    same_screen v w (ap (λ x. x.screen) eq)

-- views, with one more
pub find_push : (views : List View) (more : List View) (id : ℕ) (v : View)
    → find_view views id ≡ Some v → find_view (views ++ more) id ≡ Some v
find_push [] more id v e = absurd (cc)
find_push (w ∷ ws) more id v e =
    let go : (b : Bool) → cond b (Some w) (find_view ws id) ≡ Some v
    → cond b (Some w) (find_view (ws ++ more) id) ≡ Some v =
    elim [ true ↦ λ is. is | false ↦ λ is. find_push ws more id v is ] in
    go (nat_eq w.id id) e

push_rise : (views more : List View) (id : ℕ) (v w : View) → find_view views id ≡ Some v
    → find_view (views ++ more) id ≡ Some w → IsNoStepBack v w
push_rise views more id v w live later =
    let e : Some v ≡ Some w = sym (find_push views more id v live) ∙ later in
    let eq : v ≡ w = cc in
    same_screen v w (ap (λ x. x.screen) eq)

-- views, without one
none_above : (views : List View) (id : ℕ) → AllByRecursion (λ w. id < w.id) views
    → find_view views id ≡ None
none_above [] id above = refl
none_above (w ∷ ws) id above =
    let lt : id < w.id = above.0 in
    let off : nat_eq w.id id ≡ false = grind (arith, nat_tests) in
    rw off (none_above ws id above.1)

pub find_without : (views : List View) (i id : ℕ) (w : View) → Pairwise (λ v w. v.id < w.id) views
    → find_view (without_view views i) id ≡ Some w → find_view views id ≡ Some w
find_without [] i id w order e = e
find_without (v ∷ vs) i id w order e =
    let go : (a b : Bool) → nat_eq v.id i ≡ a → nat_eq v.id id ≡ b
    → find_view (cond a vs (v ∷ without_view vs i)) id ≡ Some w
    → cond b (Some v) (find_view vs id) ≡ Some w = elim [
      | true ↦ elim [
        | true ↦ λ gone here is.
            let eq : v.id ≡ id = eqb-true v.id id here in
            let none : find_view vs id ≡ None =
            subst (λ m. find_view vs m ≡ None) eq (none_above vs v.id order.0) in
            absurd (cc)
        | false ↦ λ gone away is. is
      ]
      | false ↦ elim [
        | true ↦ λ left here is. rw here at is
        | false ↦ λ left away is. find_without vs i id w order.1 (rw away at is)
      ]
    ] in
    go (nat_eq v.id i) (nat_eq v.id id) refl refl e

without_rise : (views : List View) (i id : ℕ) (v w : View) → Pairwise (λ v w. v.id < w.id) views
    → find_view views id ≡ Some v → find_view (without_view views i) id ≡ Some w → IsNoStepBack v w
without_rise views i id v w order live later =
    unchanged_rise views id v w live (find_without views i id w order later)

module _ {C B S : Type 0} (rules : Rules C B) (cut : C → Place → S) where
  -- no view's screen takes a step back
  abbrev AllRise : List View → Document S → Type 0
  AllRise views new = (id : ℕ) (v w : View) → find_view views id ≡ Some v
      → find_view new.views id ≡ Some w → IsNoStepBack v w

  heard_rise : (old : Document S) (id : ℕ) (view : View) (e : Effect)
      → find_view old.views id ≡ Some view → IsGood rules old view e
      → AllRise old.views (heard old id e)
  heard_rise old id view e live good =
      subst (AllRise old.views) (sym (heard_is old id view e live good.id))
      (with_rise old.views id (keeps e.view) (λ v. refl)
      (λ v there.
      let f : Some view ≡ Some v = sym live ∙ there in
      let same : view ≡ v = cc in
      subst (λ w. IsNoStepBack w (keeps e.view w)) same good.back))

  works_rise : (old new : Document S) (outs : Outs S) → Works rules cut old outs new
      → AllRise old.views new
  works_rise old new outs works =
      elim works [
        | inl serves ↦ subst (AllRise old.views) (sym serves.new_is) (unchanged_rise old.views)
        | inr later ↦ elim later [
          | inl applies ↦ subst (AllRise old.views) (sym applies.new_is) (unchanged_rise old.views)
          | inr other ↦ elim other [
            | inl sends ↦
                let change : View → View = sent rules old sends.version sends.key in
                subst (AllRise old.views) (sym sends.new_is)
                (with_rise old.views sends.view.id change (λ v. refl)
                (λ v live.
                let e : Some sends.view ≡ Some v = sym sends.live ∙ live in
                let eq : sends.view ≡ v = cc in
                subst (λ x. IsNoStepBack x (change x)) eq
                (no_step_back rules old sends.version sends.view (change sends.view)
                (λ key. sent_follows rules old sends.version sends.view sends.key key sends.view
                sends.not_back sends.due (inl refl)))))
            | inr cuts ↦ subst (AllRise old.views) (sym cuts.new_is) (unchanged_rise old.views)
          ]
        ]
      ]

  turn_rises : (old new : Document S) (turned : TurnAnswer S) → TurnsTo rules cut old turned new
      → AllRise old.views new
  turn_rises old new (Worked outs) turn = works_rise old new outs turn
  turn_rises old new Idle turn = subst (AllRise old.views) (sym turn.1) (unchanged_rise old.views)

  join_rises : (old new : Document S) (rights : Rights) (outs : Outs S) (b : Bool)
      → JoinsWhere b rules old rights outs new → AllRise old.views new
  join_rises old new rights outs true joins =
      subst (AllRise old.views) (sym joins.1) (push_rise old.views _)
  join_rises old new rights outs false joins =
      subst (AllRise old.views) (sym joins.1) (unchanged_rise old.views)

  paints_rise : (old new : Document S) (ticket : ℕ) (scene : S) (outs : Outs S)
      (job : Option (Job S)) → Paints rules old ticket scene outs new job → AllRise old.views new
  paints_rise old new ticket scene outs None paint =
      subst (AllRise old.views) (sym paint.1) (unchanged_rise old.views)
  paints_rise old new ticket scene outs (Some job) paint =
      elim paint [
        | inl other ↦ subst (AllRise old.views) (sym other.2) (unchanged_rise old.views)
        | inr taken ↦
            subst (AllRise old.views) (sym taken.2)
            (offers_rise rules old job.number job.keys old.views)
      ]

  pub steps_rise : (old new : Document S) (event : Event S) (outs : Outs S) → IsKept rules cut old
      → Step rules cut old event outs new → AllRise old.views new
  steps_rise old new (Joined rights) outs kept step =
      join_rises old new rights outs (nat_lt (length old.views) MOST_VIEWS) step
  steps_rise old new (Left view) outs kept step =
      subst (AllRise old.views) (sym step.1) (λ id v w. without_rise old.views view id v w kept.ids)
  steps_rise old new (Said id text) outs kept step =
      let of_view : IsViewKept rules old step.view =
      found_view (IsViewKept rules old) old.views id step.view kept.each step.live in
      subst (AllRise old.views) (sym step.new_is)
      (heard_rise old id step.view (effect rules old step.view text) step.live
      (effect_good rules old step.view of_view text))
  steps_rise old new Turned outs kept step =
      turn_rises old new step.0 step.1
  steps_rise old new (Painted ticket scene) outs kept step =
      paints_rise old new ticket scene outs (find_job old.jobs ticket) step
  steps_rise old new (PutAnswered ticket result) outs kept step =
      subst (AllRise old.views) (sym step.1) (unchanged_rise old.views)
