-- Each save that a run tells is done is earned.
use Rattle.std.proofs.Common.{◌≡◌, ◌∙◌, ℕ, List, [], ◌∷◌, ◌++◌, refl, sym, subst, append_assoc}
use Rattle.std.specs.Prelude.{true}
use Rattle.std.specs.List.{AllByRecursion}
use Rattle.cool_base.specs.declared.ids.ViewId.{ViewId}
use Rattle.cool_frame.specs.declared.frame.Frame.{Frame}
use Rattle.document_laws.specs.Saved.{FollowsItsSave}
use Rattle.document_machine.proofs.Runs.{nothing_last, segments}
use Rattle.document_machine.specs.Event.{Event}
use Rattle.document_machine.specs.Held.{Held}
use Rattle.document_machine.specs.Outputs.{nothing, joined}
use Rattle.document_machine.specs.Run.{Segment}
use Rattle.document_machine.specs.State.{Document, opening}
use Rattle.document_machine.specs.Step.{Step}
use Rattle.document_machine.specs.declared.outs.Outs.{Outs}
use Rattle.kit_trait.specs.Rules.{Rules}
use Rattle.tile_key.specs.Places.{Place}
use Rattle.script_laws.specs.Played.{IsRun}
use Rattle.script_laws.specs.Saves.{IsEarned}
use Rattle.script_laws.proofs.Shown.{steps_to}
use Rattle.script_laws.proofs.Views.{all_join}

module _ {C B S : Type 0} (rules : Rules C B) (cut : C → Place → S) where
  -- what a step behind a run from a loaded document tells of saves
  abbrev pub Law : Type 0
  Law = (file base : List ℕ) (events : List (Event S)) (given : Outs S) (d : Document S) (event : Event S) (outs : Outs S) (new : Document S)
      → rules.accepts base ≡ true → Segment rules cut (opening file base) events given d → Step rules cut d event outs new
      → AllByRecursion (FollowsItsSave rules cut (opening file base) events d event) outs.frames

  -- the frames of one event
  one_earned : (file : List ℕ) (events before : List (Event S)) (event : Event S) (after : List (Event S)) (given : Outs S) (d : Document S) (frames : List (ViewId × Frame))
      → events ≡ before ++ event ∷ after → Segment rules cut (opening file []) before given d → AllByRecursion (FollowsItsSave rules cut (opening file []) before d event) frames
      → AllByRecursion (IsEarned rules cut file events) frames
  one_earned file events before event after given d [] split reached all = tt
  one_earned file events before event after given d (frame ∷ frames) split reached all = (
    record { before = before; event = event; after = after; split = split; outs = given; d = d; reached = reached; follows = all.0 },
    one_earned file events before event after given d frames split reached all.1,
  )

  -- all frames behind a part of a run
  rest_earned : (law : Law) (file : List ℕ) → rules.accepts [] ≡ true → (events before after : List (Event S)) (given : Outs S) (d new : Document S) (outs : Outs S)
      → events ≡ before ++ after → Segment rules cut (opening file []) before given d → Segment rules cut d after outs new
      → AllByRecursion (IsEarned rules cut file events) outs.frames
  rest_earned law file accepted events before [] given d new outs split reached run = subst (λ (o : Outs S). AllByRecursion (IsEarned rules cut file events) o.frames) (sym run.0) tt
  rest_earned law file accepted events before (event ∷ after) given d new outs split reached run =
      let one : Segment rules cut d (event ∷ []) run.1 run.0 = (run.0, run.1, nothing, run.3, (refl, refl), sym (nothing_last run.1)) in
      let longer : Segment rules cut (opening file []) (before ++ event ∷ []) (joined given run.1) run.0 = segments rules cut (opening file []) before (event ∷ []) given run.1 d run.0 reached one in
      let same : events ≡ (before ++ event ∷ []) ++ after = split ∙ sym (append_assoc before (event ∷ []) after) in
      let here : AllByRecursion (IsEarned rules cut file events) run.1.frames = one_earned file events before event after given d run.1.frames split reached (law file [] before given d event run.1 run.0 accepted reached run.3) in
      let rest : AllByRecursion (IsEarned rules cut file events) run.2.frames = rest_earned law file accepted events (before ++ event ∷ []) after (joined given run.1) run.0 new run.2 same longer run.4 in
      subst (λ (o : Outs S). AllByRecursion (IsEarned rules cut file events) o.frames) (sym run.5) (all_join (IsEarned rules cut file events) run.1.frames run.2.frames here rest)

  -- all frames of a run
  pub run_earned : (law : Law) (frames : List (ViewId × Frame)) (held : Held S) (run : IsRun rules cut frames held) → AllByRecursion (IsEarned rules cut run.file run.events) frames
  run_earned law frames held run =
      subst (AllByRecursion (IsEarned rules cut run.file run.events)) (sym run.frames_are)
      (rest_earned law run.file run.accepted run.events [] run.events nothing (opening run.file []) held.document run.outs refl (refl, refl) (steps_to rules cut frames held run))
