-- A document after what one of its views said.
use Rattle.std.proofs.Common.{◌≡◌, ℕ, ◌<◌, ◌≤◌, List, ◌++◌, length, map, set, get_or, append-nil, refl, sym, ap, subst, ◌∙◌, arith}
use mathlib.Core.Path.{fun_ext}
use Rattle.std.specs.List.{AllByRecursion}
use Rattle.cool_base.specs.Points.{Extent}
use Rattle.cool_base.specs.declared.ids.ViewId.{ViewId}
use Rattle.cool_frame.specs.declared.frame.Frame.{Frame}
use Rattle.kit_trait.specs.Rules.{Rules, doc}
use Rattle.kit_trait.specs.declared.values.Input.{Input}
use Rattle.save_core.specs.Saving.{Saving}
use Rattle.tile_cache.specs.Cached.{Cached}
use Rattle.tile_key.specs.Places.{Place}
use Rattle.document_machine.specs.Due.{parts_of, seen_keys, size_of, touched}
use Rattle.document_machine.specs.Event.{Said}
use Rattle.document_machine.specs.Goes.{Moves}
use Rattle.document_machine.specs.Held.{Held}
use Rattle.document_machine.specs.Kept.{IsViewKept}
use Rattle.document_machine.specs.Message.{Effect, Limits, effect, effect_of, limits_of, heard as heard_of, reply, with_save, with_token}
use Rattle.document_machine.specs.Outputs.{named, frames_only}
use Rattle.document_machine.specs.State.{View, Document, find_view, with_view}
use Rattle.document_machine.specs.Step.{Says}
use Rattle.document_machine.specs.declared.rights.Rights.{Rights}
use Rattle.document_machine.proofs.Journal.{doc_same}
use Rattle.document_machine.proofs.Lists.{all_at}
use Rattle.view_session.specs.Viewing.{Entry}
use Rattle.broker_core.specs.Held.{Holds, IsTracked}
use Rattle.broker_core.specs.Hearing.{Hears, effect_in, frames_in, inputs_in, limits_in, save_in, sizes_in}
use Rattle.broker_core.specs.Members.{view_of, views_of}
use Rattle.broker_core.specs.Places.{IsPlace}
use Rattle.broker_core.specs.declared.hearing.Outcome.{Outcome}
use Rattle.broker_core.specs.declared.hearing.Outcome.TheVariants.{Nothing, Answer, Accepted, Waits}
use Rattle.broker_core.specs.declared.members.Member.{Member}
use Rattle.document_laws.proofs.Moving.{moves_keep}
use Rattle.broker_core.proofs.Lists.{all_kept, all_set, all_unmap, all_weaker}
use Rattle.broker_core.proofs.Noted.{cache_longer, jobs_past, tiles_past}
use Rattle.broker_core.proofs.Places.{place_changes, place_finds}
use Rattle.broker_core.proofs.Pushed.{touched_same}

-- what the applied inputs touched, with what came of a message behind the accepted ones
touched_heard : {C B : Type 0} (rules : Rules C B) (base : List ℕ) (journal : List Input) (outcome : Outcome) (version : ℕ) (key : Place) (n : ℕ) → n ≤ length journal → touched rules base (journal ++ inputs_in outcome) version key n ≡ touched rules base journal version key n
touched_heard rules base journal Nothing version key n le = ap (λ js. touched rules base js version key n) (append-nil journal)
touched_heard rules base journal (Answer frame) version key n le = ap (λ js. touched rules base js version key n) (append-nil journal)
touched_heard rules base journal (Accepted input) version key n le = touched_same rules base journal input version key n le
touched_heard rules base journal (Waits skip) version key n le = ap (λ js. touched rules base js version key n) (append-nil journal)

doc_heard : {C B : Type 0} (rules : Rules C B) (base : List ℕ) (journal : List Input) (outcome : Outcome) (n : ℕ) → n ≤ length journal → doc rules base journal n ≡ doc rules base (journal ++ inputs_in outcome) n
doc_heard rules base journal Nothing n le = ap (λ js. doc rules base js n) (sym (append-nil journal))
doc_heard rules base journal (Answer frame) n le = ap (λ js. doc rules base js n) (sym (append-nil journal))
doc_heard rules base journal (Accepted input) n le = doc_same rules base journal n input le
doc_heard rules base journal (Waits skip) n le = ap (λ js. doc rules base js n) (sym (append-nil journal))

marks_heard : {C B : Type 0} (rules : Rules C B) (base : List ℕ) (journal : List Input) (applied : ℕ) (outcome : Outcome) (screen : List Entry) → applied ≤ length journal → AllByRecursion (λ (e : Entry). e.stale ≡ touched rules base journal e.version e.key applied) screen → AllByRecursion (λ (e : Entry). e.stale ≡ touched rules base (journal ++ inputs_in outcome) e.version e.key applied) screen
marks_heard rules base journal applied outcome screen level all =
    all_weaker (λ (e : Entry). e.stale ≡ touched rules base journal e.version e.key applied) (λ e. e.stale ≡ touched rules base (journal ++ inputs_in outcome) e.version e.key applied) screen
    (λ e is. is ∙ sym (touched_heard rules base journal outcome e.version e.key applied level)) all

module _ {C B S : Type 0} (rules : Rules C B) (cut : C → Place → S) (IsSound : C → Type 0) (contents : C) (members : List Member) (cache : Cached) (held : Held S) (h : Holds rules cut IsSound contents members cache held) where
  -- the limits that the kit tells are those of the document
  limits_same : (count : ℕ) → count ≡ length held.document.journal → limits_in rules contents count held.document.saving.saves ≡ limits_of rules held.document
  limits_same count count_is =
      let sizes : sizes_in rules contents ≡ size_of rules held.document.base = fun_ext (λ part. h.sizes_are part) in
      λ i. record { inputs = count_is i; saves = held.document.saving.saves; parts = h.parts_are i; sizes = sizes i }

  -- a member that stands at a place sees the keys of its view, in one of the parts
  pub seen_at : (i : ℕ) (member : Member) → i < length members → get_or members i member ≡ member → member.view.visible ≡ seen_keys (sizes_in rules contents) (view_of member)
  seen_at i member lt is =
      let d : Document S = held.document in
      let t : IsTracked rules d.base d.journal d.applied member = all_at (IsTracked rules d.base d.journal d.applied) members i member h.tracked lt is in
      let sizes : sizes_in rules contents ≡ size_of rules d.base = fun_ext (λ part. h.sizes_are part) in
      t.seen ∙ ap (λ (s : ℕ → Extent). seen_keys s (view_of member)) (sym sizes)

  pub part_at : (i : ℕ) (member : Member) → i < length members → get_or members i member ≡ member → member.view.part < rules.parts (rules.body contents)
  part_at i member lt is =
      let d : Document S = held.document in
      let each : AllByRecursion (λ (m : Member). IsViewKept rules d (view_of m)) members = all_unmap (IsViewKept rules d) view_of members (subst (λ vs. AllByRecursion (IsViewKept rules d) vs) h.views_are h.kept.document.each) in
      let low : member.view.part < parts_of rules d.base = (all_at (λ (m : Member). IsViewKept rules d (view_of m)) members i member each lt is).part in
      omega (arith, low, h.parts_are)

-- a document once one of its members said something
abbrev pub heard_once : {S : Type 0} → Held S → List Member → Outcome → Saving → Held S
heard_once held members outcome saving = record {
  document = record (held.document) { journal = held.document.journal ++ inputs_in outcome; views = views_of members; saving = saving };
  kept = held.kept;
}

-- the saves once it did, by the token in these rights
abbrev pub saving_by : {S : Type 0} → Document S → (id : ℕ) → Outcome → Rights → Saving
saving_by d id outcome rights =
    with_save (save_in outcome) id (length d.journal) rights.token (with_token (inputs_in outcome) rights.token d.saving)

-- the same by the rights of the member
abbrev pub saving_heard : {S : Type 0} → Document S → (id : ℕ) → Member → Outcome → Saving
saving_heard d id now outcome = saving_by d id outcome now.view.rights

module _ {C B S : Type 0} (rules : Rules C B) (cut : C → Place → S) (IsSound : C → Type 0) (contents : C) (members : List Member) (cache : Cached) (held : Held S) (h : Holds rules cut IsSound contents members cache held)
    (id i count : ℕ) (member now : Member) (text : List ℕ) (outcome : Outcome) (place : IsPlace members id i) (is : get_or members i member ≡ member) (count_is : count ≡ length held.document.journal)
    (hears : Hears (sizes_in rules contents) member (effect_of (limits_in rules contents count held.document.saving.saves) (view_of member) text) outcome now) (saving : Saving) (saving_is : saving ≡ saving_heard held.document id now outcome) where
  -- one of the views said a text
  pub says_by : (frames : List (ViewId × Frame)) → frames ≡ map (λ frame. (named id, frame)) (frames_in outcome) → Moves rules cut held (Said id text) (frames_only frames) (heard_once held (set members i now) outcome saving)
  says_by frames frames_are =
      let d : Document S = held.document in
      let e_is : effect_in (view_of now) outcome ≡ effect rules d (view_of member) text = hears.is ∙ ap (λ (l : Limits). effect_of l (view_of member) text) (limits_same rules cut IsSound contents members cache held h count count_is) in
      let views_are : views_of (set members i now) ≡ with_view d.views id (λ _. view_of now) =
      place_changes members id i member now (λ _. view_of now) place is refl ∙ ap (λ vs. with_view vs id (λ _. view_of now)) (sym h.views_are) in
      let spoken : (heard_once held (set members i now) outcome saving).document ≡ heard_of d id (effect_in (view_of now) outcome) =
      λ j. record d { journal = d.journal ++ inputs_in outcome; views = views_are j; saving = saving_is j } in
      let says : Says {S = S} rules d id text (frames_only frames) ((heard_once held (set members i now) outcome saving).document) = record {
        view = view_of member;
        live = ap (λ vs. find_view vs id) h.views_are ∙ place_finds members id i member place is;
        outs_are = ap (λ (fs : List (ViewId × Frame)). frames_only fs) frames_are ∙ ap (λ (e : Effect). reply {S = S} id e) e_is;
        new_is = spoken ∙ ap (λ (e : Effect). heard_of d id e) e_is;
      } in
      (says, refl)

  pub holds_said : ((base : List ℕ) → 0 < parts_of rules base) → Holds rules cut IsSound contents (set members i now) cache (heard_once held (set members i now) outcome saving)
  holds_said some_part =
      let d : Document S = held.document in
      let new : Held S = heard_once held (set members i now) outcome saving in
      let moves : Moves rules cut held (Said id text) _ new = says_by _ refl in
      let journal : List Input = d.journal ++ inputs_in outcome in
      let level : d.applied ≤ length d.journal = h.kept.document.level in
      let old : IsTracked rules d.base d.journal d.applied member = all_at (IsTracked rules d.base d.journal d.applied) members i member h.tracked place.within is in
      let sizes : sizes_in rules contents ≡ size_of rules d.base = fun_ext (λ part. h.sizes_are part) in
      let mine : IsTracked rules d.base journal d.applied now = record {
        seen = hears.seen ∙ ap (λ (s : ℕ → Extent). seen_keys s (view_of now)) sizes;
        marks = subst (λ es. AllByRecursion (λ (e : Entry). e.stale ≡ touched rules d.base journal e.version e.key d.applied) es) (sym hears.screen_is)
            (all_kept (λ (e : Entry). e.stale ≡ touched rules d.base journal e.version e.key d.applied) hears.keeps member.view.screen (marks_heard rules d.base d.journal d.applied outcome member.view.screen level old.marks));
      } in
      let others : AllByRecursion (IsTracked rules d.base journal d.applied) members =
      all_weaker (IsTracked rules d.base d.journal d.applied) (IsTracked rules d.base journal d.applied) members
      (λ m t. record { seen = t.seen; marks = marks_heard rules d.base d.journal d.applied outcome m.view.screen level t.marks }) h.tracked in
      record {
        kept = moves_keep rules cut some_part held new (Said id text) _ moves h.kept;
        views_are = refl;
        contents_are = h.contents_are ∙ doc_heard rules d.base d.journal outcome d.applied level;
        sound = h.sound;
        parts_are = h.parts_are;
        sizes_are = h.sizes_are;
        some_part = h.some_part;
        tracked = all_set (IsTracked rules d.base journal d.applied) members i now others mine;
        forms = h.forms;
        ticket_is = h.ticket_is;
        kept_are = h.kept_are;
        cached = cache_longer rules d.base d.journal journal d.applied d.jobs cache level (touched_heard rules d.base d.journal outcome) (doc_heard rules d.base d.journal outcome)
            (tiles_past rules cut held cache h.kept h.kept_are) h.cached;
      }
