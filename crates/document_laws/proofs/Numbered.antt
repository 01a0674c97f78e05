-- Why a view's tiles are numbered one after the other.
use Rattle.std.proofs.Common.{◌≡◌, ◌≢◌, ℕ, zero, suc, ◌+◌, ◌<◌, Bool, true, false, cond, nat_eq, List, [], ◌∷◌, ◌++◌, length, map, Option, None, Some, Ok, Err, refl, ap, sym, subst, ◌∙◌, arith, inl, inr, append_assoc}
use Rattle.std.specs.Prelude.{nat_lt, Result}
use Rattle.std.specs.List.{flat_map, AllByRecursion}
use Rattle.std.proofs.lemmas.Bool.{cases_Bool, eqb-true}
use Rattle.std.proofs.lemmas.Bool.Decides.{nat_tests}
use Rattle.cool_base.specs.declared.ids.ViewId.{ViewId}
use Rattle.cool_frame.specs.declared.frame.Frame.{Frame}
use Rattle.cool_frame.specs.declared.frame.Frame.TheVariants.{Server, Status, Invalidate, SaveDone, Error, Tile}
use Rattle.kit_trait.specs.Rules.{Rules, doc}
use Rattle.kit_trait.specs.declared.values.Damage.{Damage}
use Rattle.outside.specs.declared.errands.Receipt.{Receipt}
use Rattle.outside.specs.declared.faults.StoreFault.{StoreFault}
use Rattle.save_core.specs.Saving.{answers, unmodified}
use Rattle.save_core.specs.declared.values.SaveAnswer.{SaveAnswer}
use Rattle.tile_key.specs.Places.{Place}
use Rattle.document_machine.specs.Due.{takes, tile_frame, sent}
use Rattle.document_machine.specs.Event.{Event, Joined, Left, Said, Turned, Painted, PutAnswered}
use Rattle.document_machine.specs.Keys.{Pairwise}
use Rattle.document_machine.specs.Kept.{IsKept, IsViewKept}
use Rattle.document_machine.specs.Message.{Effect, effect, heard}
use Rattle.document_machine.specs.Outputs.{named, outs_of}
use Rattle.document_machine.specs.Saves.{ending_frame, ending_frames, receipt_of, unmodified_frames}
use Rattle.document_machine.specs.State.{View, Job, Document, opening_view, find_view, with_view, without_view, find_job}
use Rattle.document_machine.specs.Step.{JoinsWhere, Works, TurnsTo, Paints, Step, status, told, offered, views_offered, tile_for, tiles_for}
use Rattle.document_machine.specs.declared.limits.TheConstants.{MOST_VIEWS}
use Rattle.document_machine.specs.declared.outs.Outs.{Outs}
use Rattle.document_machine.specs.declared.outs.Turned.{Turned as TurnAnswer}
use Rattle.document_machine.specs.declared.outs.Turned.TheVariants.{Worked, Idle}
use Rattle.document_machine.specs.declared.rights.Rights.{Rights}
use Rattle.document_laws.specs.Tiles.{number_in, numbers_to, counted, AreNumbered}
use Rattle.document_laws.proofs.Heard.{IsGood, IsPlain, effect_good, heard_is, keeps}
use Rattle.document_laws.proofs.KeptViews.{map_ids}
use Rattle.document_laws.proofs.SaveFrames.{ending_all, none_by, unmodified_all}
use Rattle.document_laws.proofs.Rising.{find_map, find_push, find_without, offered_id}
use Rattle.document_laws.proofs.Views.{found_other, found_view, found_with}

-- numbers of two lists of frames
numbers_append : (id : ℕ) (xs ys : List (ViewId × Frame))
    → numbers_to id (xs ++ ys) ≡ numbers_to id xs ++ numbers_to id ys
numbers_append id [] ys = refl
numbers_append id (x ∷ xs) ys =
    ap (λ ns. number_in id x ++ ns) (numbers_append id xs ys)
    ∙ sym (append_assoc (number_in id x) (numbers_to id xs) (numbers_to id ys))

counted_more : (from n m : ℕ) → counted from n ++ counted (from + n) m ≡ counted from (n + m)
counted_more from zero m = let e : from + zero ≡ from = omega arith in let f : zero + m ≡ m =
    omega arith in rw (e, f) refl
counted_more from (suc n) m =
    let e : from + suc n ≡ (from + 1) + n = omega arith in
    let f : suc n + m ≡ suc (n + m) = omega arith in
    rw (e, f) (ap (λ ns. from ∷ ns) (counted_more (from + 1) n m))

-- nothing for the view
none_for : (id : ℕ) (old new : View) (frames : List (ViewId × Frame)) → numbers_to id frames ≡ []
    → new.next_wid ≡ old.next_wid → AreNumbered id old new frames
none_for id old new frames none same = record { count = 0; numbers = none; next = omega arith }

-- one behind the other
then_numbered : (id : ℕ) (old mid new : View) (xs ys : List (ViewId × Frame))
    → AreNumbered id old mid xs → AreNumbered id mid new ys → AreNumbered id old new (xs ++ ys)
then_numbered id old mid new xs ys a b = record {
  count = a.count + b.count;
  numbers = numbers_append id xs ys ∙ ap (λ ns. ns ++ numbers_to id ys) a.numbers
      ∙ ap (λ ns. counted old.next_wid a.count ++ ns)
      (b.numbers ∙ ap (λ n. counted n b.count) a.next) ∙ counted_more old.next_wid a.count b.count;
  next = let p = a.next in let q = b.next in omega arith;
}

-- frames that are no tiles
one_told : (id : ℕ) (view : View) (damage : List Damage)
    → numbers_to id (map (λ d. (named view.id, Invalidate d.part d.rect)) damage) ≡ []
one_told id view [] = refl
one_told id view (d ∷ ds) = one_told id view ds

all_told : (id : ℕ) (views : List View) (damage : List Damage)
    → numbers_to id (told views damage) ≡ []
all_told id [] damage = refl
all_told id (view ∷ views) damage =
    numbers_append id (map (λ d. (named view.id, Invalidate d.part d.rect)) damage)
    (told views damage)
    ∙ ap (λ ns. ns ++ numbers_to id (told views damage)) (one_told id view damage)
    ∙ all_told id views damage

all_replied : (id to : ℕ) (frames : List Frame) → AllByRecursion IsPlain frames
    → numbers_to id (map (λ frame. (named to, frame)) frames) ≡ []
all_replied id to [] plain = refl
all_replied id to (Tile key version wid rgba ∷ frames) plain = absurd (plain.0)
all_replied id to (Server ∷ frames) plain = all_replied id to frames plain.1
all_replied id to (Status kit parts size view readonly ∷ frames) plain =
    all_replied id to frames plain.1
all_replied id to (Invalidate part rect ∷ frames) plain = all_replied id to frames plain.1
all_replied id to (SaveDone inputs put ∷ frames) plain = all_replied id to frames plain.1
all_replied id to (Error command kind code ∷ frames) plain = all_replied id to frames plain.1

-- saves are answered by no tile
no_number : (id : ℕ) (view : ViewId) (number : ℕ) (result : Result Receipt StoreFault)
    → number_in id (view, ending_frame result number) ≡ []
no_number id view number (Ok receipt) = refl
no_number id view number (Err fault) = refl

unmodified_none : (id : ℕ) (views : List View) (number : ℕ) (ids : List ViewId)
    → numbers_to id (unmodified_frames views number ids) ≡ []
unmodified_none id views number ids =
    none_by (number_in id) (unmodified_frames views number ids)
    (unmodified_all (λ frame. number_in id frame ≡ []) views number ids (λ view. refl))

ending_none : (id : ℕ) (views : List View) (result : Result Receipt StoreFault)
    (given : List SaveAnswer) → numbers_to id (ending_frames views result given) ≡ []
ending_none id views result given =
    none_by (number_in id) (ending_frames views result given)
    (ending_all (λ frame. number_in id frame ≡ []) views result given
    (λ view number. no_number id view number result))

module _ {C B S : Type 0} (rules : Rules C B) (d : Document S) (n : ℕ) where
  -- the tile of one view
  own_tile : (key : Place) (view : View)
      → AreNumbered view.id view (offered rules d n key view) (tile_for rules d n key view)
  own_tile key view =
      elim (takes rules d n key view) as
      (λ b. AreNumbered view.id view (cond b (sent rules d n key view) view)
      (cond b (tile_frame rules d n key view ∷ []) [])) [
        | true ↦ record {
          count = 1;
          numbers = let mine : nat_eq view.id view.id ≡ true = grind arith in rw mine refl;
          next = refl;
        }
        | false ↦ none_for view.id view view [] refl refl
      ]

  other_tile : (key : Place) (view : View) (id : ℕ) → nat_eq view.id id ≡ false
      → numbers_to id (tile_for rules d n key view) ≡ []
  other_tile key view id away =
      elim (takes rules d n key view) as
      (λ b. numbers_to id (cond b (tile_frame rules d n key view ∷ []) []) ≡ []) [
        | true ↦ rw away refl
        | false ↦ refl
      ]

  others_tiles : (key : Place) (views : List View) (id : ℕ) → AllByRecursion (λ w. id < w.id) views
      → numbers_to id (flat_map (tile_for rules d n key) views) ≡ []
  others_tiles key [] id above = refl
  others_tiles key (w ∷ ws) id above =
      let lt : id < w.id = above.0 in
      let away : nat_eq w.id id ≡ false = grind (arith, nat_tests) in
      numbers_append id (tile_for rules d n key w) (flat_map (tile_for rules d n key) ws)
      ∙ ap (λ ns. ns ++ numbers_to id (flat_map (tile_for rules d n key) ws))
      (other_tile key w id away) ∙ others_tiles key ws id above.1

  append_none : (id : ℕ) (old new : View) (xs ys : List (ViewId × Frame))
      → AreNumbered id old new xs → numbers_to id ys ≡ [] → AreNumbered id old new (xs ++ ys)
  append_none id old new xs ys a none =
      then_numbered id old new new xs ys a (none_for id new new ys none refl)

  none_append : (id : ℕ) (old new : View) (xs ys : List (ViewId × Frame)) → numbers_to id xs ≡ []
      → AreNumbered id old new ys → AreNumbered id old new (xs ++ ys)
  none_append id old new xs ys none a =
      then_numbered id old old new xs ys (none_for id old old xs none refl) a

  -- the tiles of one key
  key_tiles : (key : Place) (views : List View) (id : ℕ) (v : View)
      → Pairwise (λ v w. v.id < w.id) views → find_view views id ≡ Some v
      → AreNumbered id v (offered rules d n key v) (flat_map (tile_for rules d n key) views)
  key_tiles key [] id v order live = absurd (cc)
  key_tiles key (w ∷ ws) id v order live =
      let go : (b : Bool) → nat_eq w.id id ≡ b → cond b (Some w) (find_view ws id) ≡ Some v
      → AreNumbered id v (offered rules d n key v)
      (flat_map (tile_for rules d n key) (w ∷ ws)) = elim [
        | true ↦ λ here is.
            let same : w ≡ v = cc in
            let id_is : w.id ≡ id = eqb-true w.id id here in
            let rest : numbers_to id (flat_map (tile_for rules d n key) ws) ≡ [] =
            others_tiles key ws id
            (subst (λ m. AllByRecursion (λ x. m < x.id) ws) id_is order.0) in
            let mine : AreNumbered w.id w (offered rules d n key w) (tile_for rules d n key w) =
            own_tile key w in
            let moved : AreNumbered id w (offered rules d n key w) (tile_for rules d n key w) =
            subst (λ m. AreNumbered m w (offered rules d n key w) (tile_for rules d n key w))
            id_is mine in
            subst (λ x. AreNumbered id x (offered rules d n key x)
            (flat_map (tile_for rules d n key) (w ∷ ws))) same
            (append_none id w (offered rules d n key w) (tile_for rules d n key w)
            (flat_map (tile_for rules d n key) ws) moved rest)
        | false ↦ λ away is.
            none_append id v (offered rules d n key v) (tile_for rules d n key w)
            (flat_map (tile_for rules d n key) ws) (other_tile key w id away)
            (key_tiles key ws id v order.1 is)
      ] in
      go (nat_eq w.id id) refl live

  -- the tiles of all keys
  all_tiles : (keys : List Place) (views : List View) (id : ℕ) (v w : View)
      → Pairwise (λ v w. v.id < w.id) views → find_view views id ≡ Some v
      → find_view (views_offered rules d n keys views) id ≡ Some w
      → AreNumbered id v w (tiles_for rules d n keys views)
  all_tiles [] views id v w order live later =
      let e : Some v ≡ Some w = sym live ∙ later in
      let same : w ≡ v = cc in
      none_for id v w [] refl (ap (λ x. x.next_wid) same)
  all_tiles (key ∷ keys) views id v w order live later =
      then_numbered id v (offered rules d n key v) w (flat_map (tile_for rules d n key) views)
      (tiles_for rules d n keys (map (offered rules d n key) views))
      (key_tiles key views id v order live)
      (all_tiles keys (map (offered rules d n key) views) id (offered rules d n key v) w
      (map_ids views (offered rules d n key) (offered_id rules d n key) order)
      (find_map rules d n key views id v live) later)

-- a view that stays has the same next number
unchanged : (views : List View) (id : ℕ) (v w : View) → find_view views id ≡ Some v
    → find_view views id ≡ Some w → w.next_wid ≡ v.next_wid
unchanged views id v w live later =
    let e : Some v ≡ Some w = sym live ∙ later in
    let eq : w ≡ v = cc in
    ap (λ x. x.next_wid) eq

module _ {C B S : Type 0} (rules : Rules C B) (cut : C → Place → S) where
  abbrev AllNumbered : List View → Outs S → Document S → Type 0
  AllNumbered views outs new = (id : ℕ) (v w : View) → find_view views id ≡ Some v
      → find_view new.views id ≡ Some w → AreNumbered id v w outs.frames

  -- an event gives out these frames and leaves these views
  gives : (views now : List View) (frames : List (ViewId × Frame)) (outs : Outs S)
      (new : Document S) → outs.frames ≡ frames → new.views ≡ now
      → ((id : ℕ) (v w : View) → find_view views id ≡ Some v → find_view now id ≡ Some w
      → AreNumbered id v w frames) → AllNumbered views outs new
  gives views now frames outs new frames_are views_are all id v w live later =
      subst (AreNumbered id v w) (sym frames_are)
      (all id v w live (ap (λ vs. find_view vs id) (sym views_are) ∙ later))

  -- and none of the frames is a tile
  no_tile : (views now : List View) (frames : List (ViewId × Frame)) (outs : Outs S)
      (new : Document S) → outs.frames ≡ frames → new.views ≡ now
      → ((id : ℕ) → numbers_to id frames ≡ [])
      → ((id : ℕ) (v w : View) → find_view views id ≡ Some v → find_view now id ≡ Some w
      → w.next_wid ≡ v.next_wid) → AllNumbered views outs new
  no_tile views now frames outs new frames_are views_are none same =
      gives views now frames outs new frames_are views_are
      (λ id v w live later. none_for id v w frames (none id) (same id v w live later))

  heard_same : (old : Document S) (to : ℕ) (view : View) (e : Effect)
      → find_view old.views to ≡ Some view → IsGood rules old view e
      → (id : ℕ) (v w : View) → find_view old.views id ≡ Some v
      → find_view (heard old to e).views id ≡ Some w → w.next_wid ≡ v.next_wid
  heard_same old to view e there good id v w live later =
      let found : find_view (with_view old.views to (keeps e.view)) id ≡ Some w =
      ap (λ (d : Document S). find_view d.views id) (sym (heard_is old to view e there good.id))
      ∙ later in
      elim (cases_Bool (nat_eq id to)) [
        | inl here ↦
            let is : id ≡ to = eqb-true id to here in
            let at : Some view ≡ Some v = sym there ∙ ap (find_view old.views) (sym is) ∙ live in
            let same : v ≡ view = cc in
            let now : find_view (with_view old.views to (keeps e.view)) to
            ≡ Some (keeps e.view view) =
            found_with old.views to (keeps e.view) view (λ v. refl) there in
            let f : Some (keeps e.view view) ≡ Some w =
            sym now ∙ ap (find_view (with_view old.views to (keeps e.view))) (sym is) ∙ found in
            let eq : w ≡ keeps e.view view = cc in
            ap (λ x. x.next_wid) eq ∙ good.next ∙ ap (λ x. x.next_wid) (sym same)
        | inr away ↦
            let apart : id ≢ to =
            λ is. absurd (let yes : nat_eq id to ≡ true = grind (arith, nat_tests) in cc) in
            let f : Some v ≡ Some w =
            sym live ∙ sym (found_other old.views to id (keeps e.view) (λ v. refl) apart)
            ∙ found in
            let eq : w ≡ v = cc in
            ap (λ x. x.next_wid) eq
      ]

  send_numbered : (old : Document S) (view : View) (key : Place) (version : ℕ)
      → find_view old.views view.id ≡ Some view
      → (id : ℕ) (v w : View) → find_view old.views id ≡ Some v
      → find_view (with_view old.views view.id (sent rules old version key)) id ≡ Some w
      → AreNumbered id v w (tile_frame rules old version key view ∷ [])
  send_numbered old view key version there id v w live later =
      elim (cases_Bool (nat_eq view.id id)) [
        | inl here ↦
            let is : view.id ≡ id = eqb-true view.id id here in
            let found : find_view (with_view old.views view.id (sent rules old version key)) view.id
            ≡ Some (sent rules old version key view) =
            found_with old.views view.id (sent rules old version key) view (λ v. refl) there in
            let a : Some view ≡ Some v = sym there ∙ ap (find_view old.views) is ∙ live in
            let b : Some (sent rules old version key view) ≡ Some w =
            sym found ∙ ap
            (find_view (with_view old.views view.id (sent rules old version key))) is ∙ later in
            let first : v ≡ view = cc in
            let last : w ≡ sent rules old version key view = cc in
            record {
              count = 1;
              numbers = rw here (ap (λ x. x.next_wid ∷ []) (sym first));
              next = ap (λ x. x.next_wid) last ∙ ap (λ x. x.next_wid + 1) (sym first);
            }
        | inr away ↦
            let apart : id ≢ view.id =
            λ is. absurd
            (let yes : nat_eq view.id id ≡ true = grind (arith, nat_tests) in cc) in
            let e : Some v ≡ Some w =
            sym live ∙ sym
            (found_other old.views view.id id (sent rules old version key) (λ v. refl) apart)
            ∙ later in
            let eq : w ≡ v = cc in
            none_for id v w (tile_frame rules old version key view ∷ []) (rw away refl)
            (ap (λ x. x.next_wid) eq)
      ]

  works_numbered : (old new : Document S) (outs : Outs S) → Works rules cut old outs new
      → AllNumbered old.views outs new
  works_numbered old new outs works =
      elim works [
        | inl serves ↦
            no_tile old.views old.views
            (unmodified_frames old.views old.applied (unmodified old.applied old.saving)) outs new
            (ap (λ o. o.frames) serves.outs_are) (ap (λ e. e.views) serves.new_is)
            (λ id. unmodified_none id old.views old.applied (unmodified old.applied old.saving))
            (unchanged old.views)
        | inr later ↦ elim later [
          | inl applies ↦
              no_tile old.views old.views
              (told old.views
              (rules.hurt (doc rules old.base old.journal old.applied) applies.input)) outs new
              (ap (λ o. o.frames) applies.outs_are) (ap (λ e. e.views) applies.new_is)
              (λ id. all_told id old.views
              (rules.hurt (doc rules old.base old.journal old.applied) applies.input))
              (unchanged old.views)
          | inr other ↦ elim other [
            | inl sends ↦
                gives old.views
                (with_view old.views sends.view.id (sent rules old sends.version sends.key))
                (tile_frame rules old sends.version sends.key sends.view ∷ []) outs new
                (ap (λ o. o.frames) sends.outs_are) (ap (λ e. e.views) sends.new_is)
                (send_numbered old sends.view sends.key sends.version sends.live)
            | inr cuts ↦
                no_tile old.views old.views [] outs new (ap (λ o. o.frames) cuts.outs_are)
                (ap (λ e. e.views) cuts.new_is) (λ id. refl) (unchanged old.views)
          ]
        ]
      ]

  turn_numbered : (old new : Document S) (turned : TurnAnswer S) (outs : Outs S)
      → TurnsTo rules cut old turned new → outs ≡ outs_of turned → AllNumbered old.views outs new
  turn_numbered old new (Worked given) outs turn are =
      subst (λ (o : Outs S). AllNumbered old.views o new) (sym are)
      (works_numbered old new given turn)
  turn_numbered old new Idle outs turn are =
      no_tile old.views old.views [] outs new (ap (λ o. o.frames) are) (ap (λ e. e.views) turn.1)
      (λ id. refl) (unchanged old.views)

  join_numbered : (old new : Document S) (rights : Rights) (outs : Outs S) (b : Bool)
      → JoinsWhere b rules old rights outs new → AllNumbered old.views outs new
  join_numbered old new rights outs true joins =
      no_tile old.views (old.views ++ opening_view old.next_view rights ∷ [])
      ((named old.next_view, status rules old old.next_view rights) ∷ []) outs new
      (ap (λ o. o.frames) joins.0) (ap (λ e. e.views) joins.1) (λ id. refl)
      (λ id v w live later.
      let e : Some v ≡ Some w =
      sym (find_push old.views (opening_view old.next_view rights ∷ []) id v live) ∙ later in
      let eq : w ≡ v = cc in
      ap (λ x. x.next_wid) eq)
  join_numbered old new rights outs false joins =
      no_tile old.views old.views [] outs new (ap (λ o. o.frames) joins.0)
      (ap (λ e. e.views) joins.1) (λ id. refl) (unchanged old.views)

  paints_numbered : (old new : Document S) (ticket : ℕ) (scene : S) (outs : Outs S)
      (job : Option (Job S)) → IsKept rules cut old → Paints rules old ticket scene outs new job
      → AllNumbered old.views outs new
  paints_numbered old new ticket scene outs None kept paint =
      no_tile old.views old.views [] outs new (ap (λ o. o.frames) paint.0)
      (ap (λ e. e.views) paint.1) (λ id. refl) (unchanged old.views)
  paints_numbered old new ticket scene outs (Some job) kept paint =
      elim paint [
        | inl other ↦
            no_tile old.views old.views [] outs new (ap (λ o. o.frames) other.1)
            (ap (λ e. e.views) other.2) (λ id. refl) (unchanged old.views)
        | inr taken ↦
            gives old.views (views_offered rules old job.number job.keys old.views)
            (tiles_for rules old job.number job.keys old.views) outs new
            (ap (λ o. o.frames) taken.1) (ap (λ e. e.views) taken.2)
            (λ id v w live later. all_tiles rules old job.number job.keys old.views id v w kept.ids
            live later)
      ]

  pub steps_numbered : (old new : Document S) (event : Event S) (outs : Outs S)
      → IsKept rules cut old → Step rules cut old event outs new → AllNumbered old.views outs new
  steps_numbered old new (Joined rights) outs kept step =
      join_numbered old new rights outs (nat_lt (length old.views) MOST_VIEWS) step
  steps_numbered old new (Left view) outs kept step =
      no_tile old.views (without_view old.views view) [] outs new (ap (λ o. o.frames) step.0)
      (ap (λ e. e.views) step.1) (λ id. refl)
      (λ id v w live later. unchanged old.views id v w live
      (find_without old.views view id w kept.ids later))
  steps_numbered old new (Said to text) outs kept step =
      let e : Effect = effect rules old step.view text in
      let of_view : IsViewKept rules old step.view =
      found_view (IsViewKept rules old) old.views to step.view kept.each step.live in
      let good : IsGood rules old step.view e = effect_good rules old step.view of_view text in
      no_tile old.views (heard old to e).views (map (λ frame. (named to, frame)) e.frames) outs new
      (ap (λ o. o.frames) step.outs_are) (ap (λ e. e.views) step.new_is)
      (λ id. all_replied id to e.frames good.frames) (heard_same old to step.view e step.live good)
  steps_numbered old new Turned outs kept step = turn_numbered old new step.0 outs step.1 step.2
  steps_numbered old new (Painted ticket scene) outs kept step =
      paints_numbered old new ticket scene outs (find_job old.jobs ticket) kept step
  steps_numbered old new (PutAnswered ticket result) outs kept step =
      no_tile old.views old.views
      (ending_frames old.views result (answers ticket (receipt_of result) old.saving)) outs new
      (ap (λ o. o.frames) step.0) (ap (λ e. e.views) step.1)
      (λ id. ending_none id old.views result (answers ticket (receipt_of result) old.saving))
      (unchanged old.views)
