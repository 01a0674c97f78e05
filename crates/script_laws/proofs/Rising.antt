-- A run that is cut at two of its events.
use Rattle.std.proofs.Common.{◌≡◌, ◌∙◌, ℕ, ◌<◌, List, [], ◌∷◌, ◌++◌, refl, ap, sym, subst, append_assoc}
use Rattle.cool_base.specs.declared.ids.ViewId.{ViewId}
use Rattle.cool_frame.specs.declared.frame.Frame.{Frame}
use Rattle.document_machine.specs.Kept.{IsKept}
use Rattle.document_laws.proofs.Screens.{frames_rise}
use Rattle.document_laws.proofs.Kept.{opening_keeps, runs_keep}
use Rattle.document_machine.specs.Due.{parts_of}
use Rattle.document_machine.specs.Event.{Event}
use Rattle.document_machine.specs.Held.{Held}
use Rattle.document_machine.specs.Outputs.{nothing, joined}
use Rattle.document_machine.specs.Run.{Segment}
use Rattle.document_machine.specs.State.{Document, opening}
use Rattle.document_machine.specs.declared.outs.Outs.{Outs}
use Rattle.kit_trait.specs.Rules.{Rules}
use Rattle.tile_key.specs.Places.{Place}
use Rattle.script_laws.specs.Played.{IsRun}
use Rattle.script_laws.specs.Rising.{Rises}
use Rattle.script_laws.proofs.Shown.{steps_to}

module _ {C B S : Type 0} (rules : Rules C B) (cut : C → Place → S) where
  -- what leads up to the middle of a run, and what follows
  pub record IsCutAt (old : Document S) (events more : List (Event S)) (outs : Outs S) (new : Document S) : Type 0 where
    pub mid : Document S
    pub here : Outs S
    pub later : Outs S
    pub begins : Segment rules cut old events here mid
    pub ends : Segment rules cut mid more later new
    pub frames_are : outs.frames ≡ here.frames ++ later.frames

  cut_at : (events more : List (Event S)) (old new : Document S) (outs : Outs S) → Segment rules cut old (events ++ more) outs new → IsCutAt old events more outs new
  cut_at [] more old new outs run = record {
    mid = old;
    here = nothing;
    later = outs;
    begins = (refl, refl);
    ends = run;
    frames_are = refl;
  }
  cut_at (event ∷ events) more old new outs run =
      let rest = cut_at events more run.0 new run.2 run.4 in
      let frames : outs.frames ≡ run.1.frames ++ run.2.frames = ap (λ (o : Outs S). o.frames) run.5 in
      record {
        mid = rest.mid;
        here = joined run.1 rest.here;
        later = rest.later;
        begins = (run.0, run.1, rest.here, run.3, rest.begins, refl);
        ends = rest.ends;
        frames_are = frames ∙ ap (λ (fs : List (ViewId × Frame)). run.1.frames ++ fs) rest.frames_are ∙ sym (append_assoc run.1.frames rest.here.frames rest.later.frames);
      }

  -- one event, and what follows
  frames_of : (first later outs : Outs S) → outs ≡ joined first later → outs.frames ≡ first.frames ++ later.frames
  frames_of first later outs is = ap (λ (o : Outs S). o.frames) is

  pub run_rises : ((base : List ℕ) → 0 < parts_of rules base) → (frames : List (ViewId × Frame)) (held : Held S) (run : IsRun rules cut frames held) (id : ℕ) (key : Place)
      (before : List (Event S)) (first : Event S) (between : List (Event S)) (last : Event S) (after : List (Event S))
      → run.events ≡ before ++ first ∷ (between ++ last ∷ after) → Rises rules cut run.file frames held.document id key before first between last after
  run_rises some frames held run id key before first between last after is =
      let d : Document S = held.document in
      let follows : Segment rules cut (opening run.file []) (before ++ first ∷ (between ++ last ∷ after)) run.outs d =
      subst (λ (es : List (Event S)). Segment rules cut (opening run.file []) es run.outs d) is (steps_to rules cut frames held run) in
      let a = cut_at before (first ∷ (between ++ last ∷ after)) (opening run.file []) d run.outs follows in
      let at = a.ends in
      let b = cut_at between (last ∷ after) at.0 d at.2 at.4 in
      let two = b.ends in
      let begins : IsKept rules cut (opening {S = S} run.file []) = opening_keeps rules cut run.file [] run.accepted in
      let whole : IsKept rules cut a.mid = runs_keep rules cut some before (opening run.file []) a.mid a.here a.begins begins in
      let behind : at.2.frames ≡ b.here.frames ++ (two.1.frames ++ two.2.frames) =
      b.frames_are ∙ ap (λ (fs : List (ViewId × Frame)). b.here.frames ++ fs) (frames_of two.1 two.2 b.later two.5) in
      let all : a.later.frames ≡ at.1.frames ++ (b.here.frames ++ (two.1.frames ++ two.2.frames)) =
      frames_of at.1 at.2 a.later at.5 ∙ ap (λ (fs : List (ViewId × Frame)). at.1.frames ++ fs) behind in
      record {
        old = a.mid;
        mid = at.0;
        late = b.mid;
        new = two.0;
        up_to = a.here;
        at_first = at.1;
        on_the_way = b.here;
        at_last = two.1;
        behind = two.2;
        begins = a.begins;
        one = at.3;
        goes_on = b.begins;
        two = two.3;
        ends = two.4;
        frames_are = run.frames_are ∙ a.frames_are ∙ ap (λ (fs : List (ViewId × Frame)). a.here.frames ++ fs) all;
        rises = λ has with_key. frames_rise rules cut some id key a.mid at.0 b.mid two.0 first last between at.1 b.here two.1 whole (at.3, has) with_key two.3;
      }
