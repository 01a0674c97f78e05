-- Through a whole run a screen has of each key the version of the last tile that its view was sent, and in a quiet
-- document that tile is the document from scratch.
use Rattle.std.proofs.Common.{◌≡◌, ℕ, ◌<◌, Bool, true, false, ◌&&◌, cond, nat_eq, List, [], ◌∷◌, ◌++◌, length, map, Option, None, Some, refl, ap, sym, subst, ◌∙◌, arith, inl, inr, append_assoc, append-nil}
use Rattle.std.specs.Prelude.{nat_lt}
use Rattle.std.specs.List.{AllByRecursion}
use Rattle.std.proofs.lemmas.Bool.{and_parts}
use Rattle.std.proofs.lemmas.Bool.Decides.{nat_tests}
use Rattle.cool_base.specs.declared.ids.ViewId.{ViewId}
use Rattle.cool_frame.specs.declared.frame.Frame.{Frame}
use Rattle.cool_frame.specs.declared.frame.Frame.TheVariants.{Status, Invalidate, Server, Error, SaveDone, Tile}
use Rattle.document_laws.specs.Tiles.{IsShown}
use Rattle.document_machine.specs.Kept.{IsKept, IsViewKept}
use Rattle.document_laws.proofs.Heard.{effect_good, heard_is, keeps}
use Rattle.document_laws.proofs.KeyOrder.{same_is}
use Rattle.document_laws.proofs.Rising.{find_without, offered_id}
use Rattle.document_laws.proofs.Views.{found_view}
use Rattle.document_machine.specs.Due.{version_of, sent, keys}
use Rattle.document_machine.specs.Event.{Event, Joined, Left, Said, Turned, Painted, PutAnswered}
use Rattle.document_machine.specs.Keys.{Pairwise}
use Rattle.document_machine.specs.Message.{Effect, effect, heard}
use Rattle.document_machine.specs.Quiet.{IsRight, AllRight}
use Rattle.document_machine.specs.Run.{Segment}
use Rattle.document_machine.specs.State.{Shown, View, Job, Document, opening, opening_view, find_view, with_view, find_job}
use Rattle.document_machine.specs.Step.{JoinsWhere, Works, TurnsTo, Paints, Step, offered, views_offered}
use Rattle.document_machine.specs.declared.limits.TheConstants.{MOST_VIEWS}
use Rattle.document_machine.specs.declared.outs.Outs.{Outs}
use Rattle.document_machine.specs.declared.outs.Turned.{Turned as TurnAnswer}
use Rattle.document_machine.specs.declared.outs.Turned.TheVariants.{Worked, Idle}
use Rattle.document_machine.specs.declared.rights.Rights.{Rights}
use Rattle.kit_trait.specs.Rules.{Rules, doc, shown}
use Rattle.kit_trait.specs.declared.values.Input.{Input}
use Rattle.kit_trait.specs.declared.values.Pixels.{Pixels}
use Rattle.tile_key.specs.Places.{Place, same_place}
use Rattle.script_laws.specs.LastTiles.{tile_in, later_one, last_tile, IsPainted}
use Rattle.script_laws.proofs.Screens.{last_append, steps_tell}

no_first : (b : Bool) (v : View) (rest : Option View) → cond b (Some v) rest ≡ None → (b ≡ false) × (rest ≡ None)
no_first true v rest none = absurd (cc)
no_first false v rest none = (refl, none)

-- a view that isn't there isn't there once another was changed
no_with : (views : List View) (i : ℕ) (change : View → View) → ((v : View) → (change v).id ≡ v.id) → (id : ℕ) → find_view views id ≡ None → find_view (with_view views i change) id ≡ None
no_with [] i change same id none = refl
no_with (v ∷ vs) i change same id none =
    let apart = no_first (nat_eq v.id id) v (find_view vs id) none in
    elim (nat_eq v.id i) as (λ b. find_view (cond b (change v ∷ vs) (v ∷ with_view vs i change)) id ≡ None) [
      | true ↦ rw (ap (λ (m : ℕ). nat_eq m id) (same v) ∙ apart.0) apart.1
      | false ↦ rw apart.0 (no_with vs i change same id apart.1)
    ]

no_map : (views : List View) (change : View → View) → ((v : View) → (change v).id ≡ v.id) → (id : ℕ) → find_view views id ≡ None → find_view (map change views) id ≡ None
no_map [] change same id none = refl
no_map (v ∷ vs) change same id none =
    let apart = no_first (nat_eq v.id id) v (find_view vs id) none in
    rw (ap (λ (m : ℕ). nat_eq m id) (same v) ∙ apart.0) (no_map vs change same id apart.1)

-- the one that was put behind the others
the_last : (views : List View) (v w : View) (id : ℕ) → find_view views id ≡ None → find_view (views ++ v ∷ []) id ≡ Some w → v ≡ w
the_last [] v w id none found = (elim (nat_eq v.id id) as (λ b. cond b (Some v) None ≡ Some w → v ≡ w) [ true ↦ λ e. cc | false ↦ λ e. absurd (cc) ]) found
the_last (u ∷ views) v w id none found =
    let apart = no_first (nat_eq u.id id) u (find_view views id) none in
    the_last views v w id apart.1 (rw apart.0 at found)

-- a view whose screen is empty
abbrev IsNew : Option View → Type 0
IsNew None = Unit {0}
IsNew (Some w) = w.screen ≡ []

new_none : (o : Option View) → o ≡ None → IsNew o
new_none o is = subst IsNew (sym is) tt

module _ {C B S : Type 0} (rules : Rules C B) (d : Document S) (n : ℕ) where
  no_offered : (keys : List Place) (views : List View) (id : ℕ) → find_view views id ≡ None → find_view (views_offered rules d n keys views) id ≡ None
  no_offered [] views id none = none
  no_offered (key ∷ keys) views id none = no_offered keys (map (offered rules d n key) views) id (no_map views (offered rules d n key) (offered_id rules d n key) id none)

module _ {C B S : Type 0} (rules : Rules C B) (cut : C → Place → S) where
  -- a view that wasn't there before a step is new behind it
  abbrev Newcomers : Document S → Document S → Type 0
  Newcomers old new = (id : ℕ) → find_view old.views id ≡ None → IsNew (find_view new.views id)

  none_new : (old new : Document S) (now : List View) → new.views ≡ now → ((id : ℕ) → find_view old.views id ≡ None → find_view now id ≡ None) → Newcomers old new
  none_new old new now is none id lacks = new_none (find_view new.views id) (ap (λ (vs : List View). find_view vs id) is ∙ none id lacks)

  heard_new : (old : Document S) (to : ℕ) (view : View) (e : Effect) → find_view old.views to ≡ Some view → e.view.id ≡ view.id → (id : ℕ) → find_view old.views id ≡ None → find_view (heard old to e).views id ≡ None
  heard_new old to view e live same id none =
      ap (λ (d : Document S). find_view d.views id) (heard_is old to view e live same) ∙ no_with old.views to (keeps e.view) (λ v. refl) id none

  works_new : (old new : Document S) (outs : Outs S) → Works rules cut old outs new → Newcomers old new
  works_new old new outs works =
      elim works [
        | inl serves ↦ none_new old new old.views (ap (λ e. e.views) serves.new_is) (λ id none. none)
        | inr more ↦ elim more [
          | inl applies ↦ none_new old new old.views (ap (λ e. e.views) applies.new_is) (λ id none. none)
          | inr other ↦ elim other [
            | inl sends ↦ none_new old new (with_view old.views sends.view.id (sent rules old sends.version sends.key)) (ap (λ e. e.views) sends.new_is) (λ id none. no_with old.views sends.view.id (sent rules old sends.version sends.key) (λ v. refl) id none)
            | inr cuts ↦ none_new old new old.views (ap (λ e. e.views) cuts.new_is) (λ id none. none)
          ]
        ]
      ]

  join_new : (old new : Document S) (rights : Rights) (outs : Outs S) (b : Bool) → JoinsWhere b rules old rights outs new → Newcomers old new
  join_new old new rights outs true joins id none =
      let now : List View = old.views ++ opening_view old.next_view rights ∷ [] in
      let go : (o : Option View) → find_view now id ≡ o → IsNew o = elim [
        | None ↦ λ is. tt
        | Some w ↦ λ is. ap (λ (x : View). x.screen) (sym (the_last old.views (opening_view old.next_view rights) w id none is))
      ] in
      subst (λ (vs : List View). IsNew (find_view vs id)) (sym (ap (λ e. e.views) joins.1)) (go (find_view now id) refl)
  join_new old new rights outs false joins id none = none_new old new old.views (ap (λ e. e.views) joins.1) (λ id none. none) id none

  paints_new : (old new : Document S) (ticket : ℕ) (scene : S) (outs : Outs S) (job : Option (Job S)) → Paints rules old ticket scene outs new job → Newcomers old new
  paints_new old new ticket scene outs None paint = none_new old new old.views (ap (λ e. e.views) paint.1) (λ id none. none)
  paints_new old new ticket scene outs (Some job) paint =
      elim paint [
        | inl other ↦ none_new old new old.views (ap (λ e. e.views) other.2) (λ id none. none)
        | inr taken ↦ none_new old new (views_offered rules old job.number job.keys old.views) (ap (λ e. e.views) taken.2) (λ id none. no_offered rules old job.number job.keys old.views id none)
      ]

  turn_new : (old new : Document S) (turned : TurnAnswer S) → TurnsTo rules cut old turned new → Newcomers old new
  turn_new old new (Worked outs) works = works_new old new outs works
  turn_new old new Idle idle = none_new old new old.views (ap (λ e. e.views) idle.1) (λ id none. none)

  steps_new : (old new : Document S) (event : Event S) (outs : Outs S) → IsKept rules cut old → Step rules cut old event outs new → Newcomers old new
  steps_new old new (Joined rights) outs kept step id none = join_new old new rights outs (nat_lt (length old.views) MOST_VIEWS) step id none
  steps_new old new (Left view) outs kept step id none =
      let go : (o : Option View) → find_view new.views id ≡ o → IsNew o = elim [
        | None ↦ λ is. tt
        | Some w ↦ λ is. absurd (let there : find_view old.views id ≡ Some w = find_without old.views view id w kept.ids (ap (λ (e : Document S). find_view e.views id) (sym step.1) ∙ is) in cc)
      ] in
      go (find_view new.views id) refl
  steps_new old new (Said to text) outs kept step id none =
      let good = effect_good rules old step.view (found_view (IsViewKept rules old) old.views to step.view kept.each step.live) text in
      none_new old new (heard old to (effect rules old step.view text)).views (ap (λ e. e.views) step.new_is) (λ id none. heard_new old to step.view (effect rules old step.view text) step.live good.id id none) id none
  steps_new old new Turned outs kept step id none = turn_new old new step.0 step.1 id none
  steps_new old new (Painted ticket scene) outs kept step id none = paints_new old new ticket scene outs (find_job old.jobs ticket) step id none
  steps_new old new (PutAnswered ticket result) outs kept step id none = none_new old new old.views (ap (λ e. e.views) step.1) (λ id none. none) id none

  -- each version on a screen is that of the last tile of its key among the frames
  abbrev pub AreTold : List (ViewId × Frame) → Document S → Type 0
  AreTold frames d = (id : ℕ) (w : View) (key : Place) (version : ℕ) → find_view d.views id ≡ Some w → version_of w.screen key ≡ Some version → (rgba : List ℕ) × (last_tile id key frames ≡ Some (version, rgba))

  step_told : (frames : List (ViewId × Frame)) (old new : Document S) (event : Event S) (outs : Outs S) → IsKept rules cut old → AreTold frames old → Step rules cut old event outs new → AreTold (frames ++ outs.frames) new
  step_told frames old new event outs kept told step id w key version live on =
      let both : last_tile id key (frames ++ outs.frames) ≡ later_one (last_tile id key outs.frames) (last_tile id key frames) = last_append id key frames outs.frames in
      let go : (o : Option View) → find_view old.views id ≡ o → (rgba : List ℕ) × (last_tile id key (frames ++ outs.frames) ≡ Some (version, rgba)) = elim [
        | None ↦ λ none.
            let empty : w.screen ≡ [] = subst IsNew live (steps_new old new event outs kept step id none) in
            absurd (let odd : None ≡ Some version = ap (λ (s : List Shown). version_of s key) (sym empty) ∙ on in cc)
        | Some v ↦ λ there.
            elim (steps_tell rules cut old new event outs kept step id v w there live key version on) [
              | inl last ↦ (last.0, both ∙ ap (λ (o : Option (ℕ × List ℕ)). later_one o (last_tile id key frames)) last.1)
              | inr before ↦
                  let had = told id v key version there before.1 in
                  (had.0, both ∙ ap (λ (o : Option (ℕ × List ℕ)). later_one o (last_tile id key frames)) before.0 ∙ had.1)
            ]
      ] in
      go (find_view old.views id) refl

  run_told : (keeps : (old new : Document S) (event : Event S) (outs : Outs S) → Step rules cut old event outs new → IsKept rules cut old → IsKept rules cut new)
      → (events : List (Event S)) (frames : List (ViewId × Frame)) (old new : Document S) (outs : Outs S) → IsKept rules cut old → AreTold frames old → Segment rules cut old events outs new → AreTold (frames ++ outs.frames) new
  run_told keeps [] frames old new outs kept told run =
      subst (λ (o : Outs S). AreTold (frames ++ o.frames) new) (sym run.0)
      (subst (AreTold (frames ++ [])) (sym run.1) (subst (λ (x : List (ViewId × Frame)). AreTold x old) (sym (append-nil frames)) told))
  run_told keeps (event ∷ events) frames old new outs kept told run =
      let first : AreTold (frames ++ run.1.frames) run.0 = step_told frames old run.0 event run.1 kept told run.3 in
      let all : AreTold ((frames ++ run.1.frames) ++ run.2.frames) new = run_told keeps events (frames ++ run.1.frames) run.0 new run.2 (keeps old run.0 event run.1 run.3 kept) first run.4 in
      subst (λ (o : Outs S). AreTold (frames ++ o.frames) new) (sym run.5) (subst (λ (x : List (ViewId × Frame)). AreTold x new) (append_assoc frames run.1.frames run.2.frames) all)

-- what a tile shows that is among the frames
module _ {C B : Type 0} (rules : Rules C B) (base : List ℕ) (journal : List Input) (most : ℕ) where
  abbrev ShowsAt : Place → Option (ℕ × List ℕ) → Type 0
  ShowsAt key None = Unit {0}
  ShowsAt key (Some tile) = tile.1 ≡ (shown rules (doc rules base journal tile.0) key).rgba

  tile_shows : (id : ℕ) (key other : Place) (to version : ℕ) (rgba : List ℕ) → rgba ≡ (shown rules (doc rules base journal version) other).rgba → ShowsAt key (cond (nat_eq to id && same_place other key) (Some (version, rgba)) None)
  tile_shows id key other to version rgba is =
      let go : (b : Bool) → (nat_eq to id && same_place other key) ≡ b → ShowsAt key (cond b (Some (version, rgba)) None) = elim [
        | true ↦ λ hit.
            let same : other ≡ key = same_is other key (and_parts (nat_eq to id) (same_place other key) hit).1 in
            subst (λ (x : Place). rgba ≡ (shown rules (doc rules base journal version) x).rgba) same is
        | false ↦ λ miss. tt
      ] in
      go (nat_eq to id && same_place other key) refl

  frame_shows : (id : ℕ) (key : Place) (given : ViewId × Frame) → IsShown rules base journal most given → ShowsAt key (tile_in id key given)
  frame_shows id key (to, Tile other version wid rgba) is = tile_shows id key other to.0 version rgba is.1
  frame_shows id key (to, Server) is = tt
  frame_shows id key (to, Status kit parts size view readonly) is = tt
  frame_shows id key (to, Invalidate part rect) is = tt
  frame_shows id key (to, SaveDone inputs put) is = tt
  frame_shows id key (to, Error command kind code) is = tt

  later_shows : (key : Place) (later earlier : Option (ℕ × List ℕ)) → ShowsAt key later → ShowsAt key earlier → ShowsAt key (later_one later earlier)
  later_shows key None earlier a b = b
  later_shows key (Some tile) earlier a b = a

  pub last_shows : (id : ℕ) (key : Place) (frames : List (ViewId × Frame)) → AllByRecursion (IsShown rules base journal most) frames → ShowsAt key (last_tile id key frames)
  last_shows id key [] all = tt
  last_shows id key (given ∷ frames) all = later_shows key (last_tile id key frames) (tile_in id key given) (last_shows id key frames all.1) (frame_shows id key given all.0)

module _ {C B S : Type 0} (rules : Rules C B) (cut : C → Place → S) (d : Document S) (frames : List (ViewId × Frame)) (told : AreTold rules cut frames d) (shows : AllByRecursion (IsShown rules d.base d.journal (length d.journal)) frames) where
  -- a pair that is right
  right_painted : (view : View) (key : Place) → find_view d.views view.id ≡ Some view → IsRight rules d view key → IsPainted rules d frames view key
  right_painted view key live right =
      let last = told view.id view key right.0 live right.1 in
      let is : last.0 ≡ (shown rules (doc rules d.base d.journal right.0) key).rgba = subst (ShowsAt rules d.base d.journal (length d.journal) key) last.1 (last_shows rules d.base d.journal (length d.journal) view.id key frames shows) in
      (right.0, last.0, last.1, is ∙ ap (λ (p : Pixels). p.rgba) right.2)

  pairs_painted : (view : View) (pairs : List Place) → find_view d.views view.id ≡ Some view → AllByRecursion (IsRight rules d view) pairs → AllByRecursion (IsPainted rules d frames view) pairs
  pairs_painted view [] live right = tt
  pairs_painted view (key ∷ pairs) live right = (right_painted view key live right.0, pairs_painted view pairs live right.1)

  views_painted : (views : List View) → AllByRecursion (λ (view : View). find_view d.views view.id ≡ Some view) views → AllByRecursion (λ (view : View). AllByRecursion (IsRight rules d view) (keys rules d view)) views
      → AllByRecursion (λ (view : View). AllByRecursion (IsPainted rules d frames view) (keys rules d view)) views
  views_painted [] live right = tt
  views_painted (view ∷ views) live right = (pairs_painted view (keys rules d view) live.0 right.0, views_painted views live.1 right.1)

-- each view is found by its id
found_self : (view : View) (views : List View) → find_view (view ∷ views) view.id ≡ Some view
found_self view views = let mine : nat_eq view.id view.id ≡ true = grind arith in rw mine refl

found_behind : (first view : View) (views : List View) → first.id < view.id → find_view views view.id ≡ Some view → find_view (first ∷ views) view.id ≡ Some view
found_behind first view views less found = let away : nat_eq first.id view.id ≡ false = grind (arith, nat_tests) in rw away found

all_behind : (first : View) (all views : List View) → AllByRecursion (λ (w : View). first.id < w.id) views → AllByRecursion (λ (view : View). find_view all view.id ≡ Some view) views → AllByRecursion (λ (view : View). find_view (first ∷ all) view.id ≡ Some view) views
all_behind first all [] above found = tt
all_behind first all (view ∷ views) above found = (found_behind first view all above.0 found.0, all_behind first all views above.1 found.1)

pub all_found : (views : List View) → Pairwise (λ v w. v.id < w.id) views → AllByRecursion (λ (view : View). find_view views view.id ≡ Some view) views
all_found [] order = tt
all_found (view ∷ views) order = (found_self view views, all_behind view views views order.0 (all_found views order.1))

-- a run's frames, in a quiet document
pub run_painted : {C B S : Type 0} (rules : Rules C B) (cut : C → Place → S) (keeps : (old new : Document S) (event : Event S) (outs : Outs S) → Step rules cut old event outs new → IsKept rules cut old → IsKept rules cut new)
    → (events : List (Event S)) (file : List ℕ) (d : Document S) (outs : Outs S) → IsKept rules cut (opening {S = S} file []) → Segment rules cut (opening file []) events outs d → IsKept rules cut d
    → AllByRecursion (IsShown rules d.base d.journal (length d.journal)) outs.frames → AllRight rules d
    → AllByRecursion (λ (view : View). AllByRecursion (IsPainted rules d outs.frames view) (keys rules d view)) d.views
run_painted {C} {B} {S} rules cut keeps events file d outs begins run kept shows right =
    let told : AreTold rules cut outs.frames d = run_told rules cut keeps events [] (opening file []) d outs begins (λ id w key version live on. absurd (cc)) run in
    views_painted rules cut d outs.frames told shows d.views (all_found d.views kept.ids) right
