-- What a turn does is a work of the machine, and the broker keeps what it kept.
use Rattle.std.proofs.Common.{◌≡◌, ℕ, zero, suc, ◌+◌, ◌<◌, ◌≤◌, true, false, cond, List, [], ◌∷◌, ◌++◌, length, map, drop, get_or, Option, Some, refl, sym, ap, subst, ◌∙◌, arith, append_assoc}
use Rattle.std.specs.Prelude.{nat_lt, slice_get}
use Rattle.std.specs.List.{AllByRecursion}
use Rattle.std.proofs.lemmas.Bool.Decides.{nat_tests}
use Rattle.std.proofs.lemmas.List.{drop_more}
use Rattle.cool_base.specs.declared.ids.ViewId.{ViewId}
use Rattle.cool_frame.specs.declared.frame.Frame.{Frame}
use Rattle.cool_frame.specs.declared.frame.Frame.TheVariants.{Invalidate}
use Rattle.kit_trait.specs.Rules.{Rules}
use Rattle.kit_trait.specs.declared.values.Damage.{Damage}
use Rattle.kit_trait.specs.declared.values.Input.{Input}
use Rattle.tile_cache.specs.Cached.{Cached}
use Rattle.tile_key.specs.Places.{Place}
use Rattle.document_machine.specs.Due.{parts_of, damage_of}
use Rattle.document_machine.specs.Event.{Event, Turned}
use Rattle.document_machine.specs.Goes.{Did, DoesNext, Goes, Moves, next_work}
use Rattle.document_machine.specs.Held.{Held, current_version, kept_by}
use Rattle.document_machine.specs.Kept.{IsHeld, IsKept, IsViewKept}
use Rattle.document_machine.specs.Next.{Work, Serve, Apply, next_pair, serving_next}
use Rattle.document_machine.specs.Outputs.{named, frames_only, outs_of}
use Rattle.document_machine.specs.Rank.{Lowers}
use Rattle.document_machine.specs.Saves.{has_ready_save}
use Rattle.document_machine.specs.State.{Document, View, Shown}
use Rattle.document_machine.specs.Step.{Applies, Does, told}
use Rattle.document_machine.specs.declared.outs.Outs.{Outs}
use Rattle.document_machine.specs.declared.outs.Turned.{Turned as TurnAnswer}
use Rattle.document_machine.specs.declared.outs.Turned.TheVariants.{Worked, Idle}
use Rattle.document_machine.proofs.Journal.{doc_more}
use Rattle.document_machine.proofs.Lists.{all_at}
use Rattle.document_machine.proofs.Turns.{does_turn}
use Rattle.view_session.specs.Viewing.{Entry}
use Rattle.broker_core.specs.Caching.{IsCacheOf, kept_tiles}
use Rattle.broker_core.specs.Held.{Holds, IsTracked}
use Rattle.broker_core.specs.Members.{shown_of, view_of, views_of}
use Rattle.broker_core.specs.Serving.{cache_damaged, marked_by}
use Rattle.broker_core.specs.declared.members.Member.{Member}
use Rattle.document_laws.proofs.Moving.{moves_keep}
use Rattle.document_laws.proofs.Rank.{work_lowers}
use Rattle.broker_core.proofs.Lists.{all_unmap, all_weaker}
use Rattle.broker_core.proofs.Marks.{damage_is, views_marked, all_marked}
use Rattle.broker_core.proofs.Noted.{cache_more, jobs_past, kept_noted, next_noted, tiles_past}

-- the element at a place
got : {X : Type 0} (xs : List X) (i : ℕ) (x : X) → i < length xs → get_or xs i x ≡ x → slice_get xs i ≡ Some x
got [] i x lt e = absurd (omega arith)
got (y ∷ ys) zero x lt e = ap Some e
got (y ∷ ys) (suc i) x lt e = got ys i x (omega arith) e

-- the versions on the members' screens are applied
versions_of : {C B S : Type 0} (rules : Rules C B) (cut : C → Place → S) (d : Document S) (members : List Member) → IsKept rules cut d → d.views ≡ views_of members → AllByRecursion (λ (m : Member). AllByRecursion (λ (e : Entry). e.version ≤ d.applied) m.view.screen) members
versions_of rules cut d members kept views =
    all_weaker (λ (m : Member). IsViewKept rules d (view_of m)) (λ m. AllByRecursion (λ (e : Entry). e.version ≤ d.applied) m.view.screen) members
    (λ m k. all_unmap (λ (s : Shown). s.version ≤ d.applied) shown_of m.view.screen k.versions)
    (all_unmap (IsViewKept rules d) view_of members (subst (λ vs. AllByRecursion (IsViewKept rules d) vs) views kept.each))

-- a document once its next input is applied, with its cache noted
abbrev pub applied_once : {S : Type 0} → Held S → List Member → Cached → Held S
applied_once held members noted = record {
  document = record (held.document) { applied = held.document.applied + 1; views = views_of members; next_ticket = noted.next };
  kept = kept_tiles noted.tiles;
}

module _ {C B S : Type 0} (rules : Rules C B) (cut : C → Place → S) (IsSound : C → Type 0) (contents : C) (members : List Member) (cache : Cached) (held : Held S) (h : Holds rules cut IsSound contents members cache held) where
  -- the next input names one of the kit's parts
  pub input_part : (input : Input) → held.document.applied < length held.document.journal → get_or held.document.journal held.document.applied input ≡ input → input.part < rules.parts (rules.body contents)
  input_part input lt at =
      let d : Document S = held.document in
      let low : input.part < parts_of rules d.base = all_at (λ (i : Input). i.part < parts_of rules d.base) d.journal d.applied input h.kept.document.inputs lt at in
      omega (arith, low, h.parts_are)

  -- the next input is applied
  pub applies_by : (after : List Member) (input : Input) (damages : List Damage) (noted : Cached) (frames : List (ViewId × Frame))
      → has_ready_save held.document ≡ false → held.document.applied < length held.document.journal → get_or held.document.journal held.document.applied input ≡ input → damages ≡ rules.hurt contents input → after ≡ map (marked_by damages) members
      → noted ≡ cache_damaged damages (held.document.applied + 1) cache → frames ≡ told (views_of members) damages → DoesNext rules cut held (Worked (frames_only frames)) (applied_once held after noted)
  applies_by after input damages noted frames no_save lt at damages_are after_is noted_is frames_are =
      let d : Document S = held.document in
      let views_are : views_of after ≡ d.views = ap views_of after_is ∙ views_marked damages members ∙ sym h.views_are in
      let ticket_is : noted.next ≡ d.next_ticket = ap (λ (c : Cached). c.next) noted_is ∙ next_noted damages (d.applied + 1) cache ∙ sym h.ticket_is in
      let kept_is : kept_tiles noted.tiles ≡ held.kept = ap (λ (c : Cached). kept_tiles c.tiles) noted_is ∙ kept_noted damages (d.applied + 1) cache ∙ sym h.kept_are in
      let applies : Applies {S = S} rules d (frames_only frames) ((applied_once held after noted).document) = record {
        input = input;
        no_save = no_save;
        behind = got d.journal d.applied input lt at;
        new_is = λ i. record d { applied = d.applied + 1; views = views_are i; next_ticket = ticket_is i };
        outs_are = ap (λ (fs : List (ViewId × Frame)). frames_only fs)
            (frames_are ∙ ap (λ vs. told vs damages) (sym h.views_are) ∙ ap (λ (ds : List Damage). told d.views ds) (damages_are ∙ ap (λ c. rules.hurt c input) h.contents_are));
      } in
      let behind : nat_lt d.applied (length d.journal) ≡ true = grind (arith, nat_tests) in
      let next : Work = serving_next rules (current_version rules held) d (next_pair rules (current_version rules held) d) in
      let work_is : next_work rules held ≡ Apply = ap (λ b. cond b Serve (cond (nat_lt d.applied (length d.journal)) Apply next)) no_save ∙ ap (λ b. cond b Apply next) behind in
      subst (λ (work : Work). Does rules cut d work (Worked (frames_only frames)) ((applied_once held after noted).document) × (kept_tiles noted.tiles ≡ kept_by held.kept work)) (sym work_is) (applies, kept_is)

  pub holds_applied : ((base : List ℕ) → 0 < parts_of rules base) → (now : C) (after : List Member) (input : Input) (damages : List Damage) (noted : Cached)
      → has_ready_save held.document ≡ false → held.document.applied < length held.document.journal → get_or held.document.journal held.document.applied input ≡ input → damages ≡ rules.hurt contents input → after ≡ map (marked_by damages) members
      → noted ≡ cache_damaged damages (held.document.applied + 1) cache → now ≡ rules.step contents input
      → IsSound (rules.step contents input) → rules.parts (rules.body (rules.step contents input)) ≡ rules.parts (rules.body contents) → ((part : ℕ) → rules.size (rules.body (rules.step contents input)) part ≡ rules.size (rules.body contents) part)
      → Holds rules cut IsSound now after noted (applied_once held after noted)
  holds_applied some_part now after input damages noted no_save lt at damages_are after_is noted_is is sound same_parts same_sizes =
      let d : Document S = held.document in
      let new : Held S = applied_once held after noted in
      let outs : Outs S = frames_only (told (views_of members) damages) in
      let does : DoesNext rules cut held (Worked outs) new = applies_by after input damages noted (told (views_of members) damages) no_save lt at damages_are after_is noted_is refl in
      let moves : Moves rules cut held Turned outs new = (Worked outs, does, refl) in
      let damage : damages ≡ damage_of rules d.base d.journal d.applied =
      damages_are ∙ ap (λ c. rules.hurt c input) h.contents_are ∙ sym (damage_is rules d.base d.journal d.applied input (got d.journal d.applied input lt at)) in
      let marked : AllByRecursion (IsTracked rules d.base d.journal (d.applied + 1)) (map (marked_by damages) members) = all_marked rules d.base d.journal d.applied damages members damage (versions_of rules cut d members h.kept.document h.views_are) h.tracked in
      record {
        kept = moves_keep rules cut some_part held new Turned outs moves h.kept;
        views_are = refl;
        contents_are = is ∙ ap (λ c. rules.step c input) h.contents_are ∙ sym (doc_more rules d.base d.journal d.applied input lt at);
        sound = subst IsSound (sym is) sound;
        parts_are = ap (λ c. rules.parts (rules.body c)) is ∙ same_parts ∙ h.parts_are;
        sizes_are = λ part. ap (λ c. rules.size (rules.body c) part) is ∙ same_sizes part ∙ h.sizes_are part;
        some_part = h.some_part;
        tracked = subst (λ ms. AllByRecursion (IsTracked rules d.base d.journal (d.applied + 1)) ms) (sym after_is) marked;
        forms = h.forms;
        ticket_is = refl;
        kept_are = refl;
        cached = subst (λ (c : Cached). IsCacheOf rules d.base d.journal (d.applied + 1) d.jobs c) (sym noted_is)
            (cache_more rules d.base d.journal d.applied d.jobs damages cache damage (tiles_past rules cut held cache h.kept h.kept_are) (jobs_past rules cut held h.kept) h.cached);
      }

-- a work that was done lowers the rank
pub lowers_by : {C B S : Type 0} (rules : Rules C B) (cut : C → Place → S) (old new : Held S) (turned : TurnAnswer S) → IsHeld rules cut old → DoesNext rules cut old turned new → Lowers rules (Some old) turned (Some new)
lowers_by rules cut old new (Worked outs) kept does = work_lowers rules cut old.document new.document outs (does_turn rules cut old.document new.document (next_work rules old) (Worked outs) does.0) kept.document
lowers_by rules cut old new Idle kept does = tt

-- a move of a broker
pub moves_go : {C B S : Type 0} (rules : Rules C B) (cut : C → Place → S) (before after : Option (Held S)) (old new : Held S) (event : Event S) (outs : Outs S) → before ≡ Some old → after ≡ Some new → Moves rules cut old event outs new → Goes rules cut before event outs after
moves_go {C} {B} {S} rules cut before after old new event outs is now moves =
    subst (λ (b : Option (Held S)). Goes rules cut b event outs after) (sym is)
    (subst (λ (a : Option (Held S)). Goes rules cut (Some old) event outs a) (sym now) moves)

-- a turn of a broker that did the work that is next is a move, does it, and lowers the rank
pub turn_goes : {C B S : Type 0} (rules : Rules C B) (cut : C → Place → S) (before after : Option (Held S)) (old new : Held S) (turned : TurnAnswer S) → before ≡ Some old → after ≡ Some new → DoesNext rules cut old turned new → Goes rules cut before Turned (outs_of turned) after
turn_goes {C} {B} {S} rules cut before after old new turned is now does =
    subst (λ (b : Option (Held S)). Goes rules cut b Turned (outs_of turned) after) (sym is)
    (subst (λ (a : Option (Held S)). Goes rules cut (Some old) Turned (outs_of turned) a) (sym now) (turned, does, refl))

pub turn_did : {C B S : Type 0} (rules : Rules C B) (cut : C → Place → S) (before after : Option (Held S)) (old new : Held S) (turned : TurnAnswer S) → before ≡ Some old → after ≡ Some new → DoesNext rules cut old turned new → Did rules cut before turned after
turn_did {C} {B} {S} rules cut before after old new turned is now does =
    subst (λ (b : Option (Held S)). Did rules cut b turned after) (sym is)
    (subst (λ (a : Option (Held S)). Did rules cut (Some old) turned a) (sym now) does)

pub turn_lowers : {C B S : Type 0} (rules : Rules C B) (cut : C → Place → S) (before after : Option (Held S)) (old new : Held S) (turned : TurnAnswer S) → before ≡ Some old → after ≡ Some new → IsHeld rules cut old → DoesNext rules cut old turned new → Lowers rules before turned after
turn_lowers {C} {B} {S} rules cut before after old new turned is now kept does =
    subst (λ (b : Option (Held S)). Lowers rules b turned after) (sym is)
    (subst (λ (a : Option (Held S)). Lowers rules (Some old) turned a) (sym now) (lowers_by rules cut old new turned kept does))

-- one more view is told
pub told_more : (members : List Member) (i : ℕ) (member : Member) (damages : List Damage) (frames now whole : List (ViewId × Frame)) → i < length members → member ≡ get_or members i member
    → now ≡ frames ++ map (λ (d : Damage). (named member.id, Invalidate d.part d.rect)) damages → frames ++ told (views_of (drop i members)) damages ≡ whole
    → now ++ told (views_of (drop (i + 1) members)) damages ≡ whole
told_more members i member damages frames now whole lt is more before =
    let piece : List (ViewId × Frame) = map (λ (d : Damage). (named member.id, Invalidate d.part d.rect)) damages in
    let rest : List (ViewId × Frame) = told (views_of (drop (i + 1) members)) damages in
    let e : drop i members ≡ member ∷ drop (i + 1) members = drop_more members i member lt ∙ ap (λ (s : Member). s ∷ drop (i + 1) members) (sym is) in
    ap (λ fs. fs ++ rest) more ∙ append_assoc frames piece rest
    ∙ ap (λ (ms : List Member). frames ++ told (views_of ms) damages) (sym e) ∙ before
