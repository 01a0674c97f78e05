-- What befalls a document.
use Rattle.std.proofs.Common.{◌≡◌, ℕ, Bool, true, false, List, [], map, Result, Ok, Err}
use Rattle.std.proofs.Common.{IsErr, inr, refl, ap, sym, subst, ◌∙◌}
use Rattle.cool_base.specs.declared.ids.ViewId.{ViewId}
use Rattle.cool_base.specs.declared.want.Memory.{Memory}
use Rattle.cool_frame.specs.declared.frame.Frame.{Frame}
use Rattle.document_machine.specs.Outputs.{frames_only, nothing as none, outs_of}
use Rattle.document_machine.specs.declared.outs.Outs.{Outs as Given}
use Rattle.document_machine.specs.declared.outs.Turned.{Turned as TurnAnswer}
use Rattle.document_machine.specs.declared.outs.Turned.TheVariants.{Worked, Idle}
use Rattle.kit_trait.specs.declared.jobs.PaintJob.{PaintJob}
use Rattle.net_traits.specs.Nets.{LinkEvent}
use Rattle.poll_instance.specs.Instance.{did_work, given_out}
use Rattle.poll_machine.specs.Words.{Event, Left, Outs, Answer, PaintDone, PutDone, event_of}
use Rattle.poll_machine.specs.Words.{nothing}
use Rattle.poll_machine.specs.Words.{Ways, Turned as TurnMade}
use Rattle.poll_machine.specs.Agenda.{HeldDocument, HeldStep, Did, Todo, lock_after, todo_of}
use Rattle.poll_machine.specs.Agenda.{without_view}
use Rattle.poll_machine.specs.Told.{Heard}
use Rattle.poll_documents.specs.Befalling.{Befell, Broke, Befalls, Turns}
use Rattle.poll_documents.specs.Settling.{Passes, Stops, Settles, owing, give_of}
use Rattle.poll_documents.proofs.Settling.{passes_none}
use Rattle.poll_documents.proofs.Working.{owed_frames}

-- a view left
pub left_befell : {D J P L : Type 0} (w : Ways D J P) (carries : L → List LinkEvent)
    (id moment : ℕ) (old : HeldDocument D J P L) (view : ℕ) (new : HeldDocument D J P L)
    (s : Heard D J P L)
    → old.todo ≡ [] → w.Steps old.doc (Left view) nothing new.doc
    → new ≡ record old { doc = new.doc; views = without_view old.views view }
    → new.todo ≡ []
    → Befell w carries id moment old (Left view) s 0 new s
left_befell {D} {J} {P} {L} w carries id moment old view new s free step is settled = record {
  outs = nothing;
  mid = new;
  step = (
    new.doc,
    free,
    refl,
    step,
    ap (λ (h : HeldDocument D J P L). owing h []) is,
  );
  done = passes_none w carries id moment new [] s;
  settled = settled;
}

-- an answer is taken as the event that it is
did_take : {D J P L : Type 0} (w : Ways D J P) (moment : ℕ) (old mid : HeldDocument D J P L)
    (answer : Answer P) (outs : Outs J)
    → old.todo ≡ [] → w.Steps old.doc (event_of answer) outs mid.doc
    → mid ≡ record old {
      doc = mid.doc;
      lock = lock_after w moment old.doc (event_of answer) old.lock;
    }
    → HeldStep w moment old (Did (event_of answer) outs) (owing mid (todo_of outs))
did_take {D} {J} {P} {L} w moment old mid (PaintDone result) outs free step is = (
  mid.doc,
  free,
  refl,
  step,
  ap (λ (h : HeldDocument D J P L). owing h (todo_of outs)) is,
)
did_take {D} {J} {P} {L} w moment old mid (PutDone ticket answer) outs free step is = (
  mid.doc,
  free,
  refl,
  step,
  ap (λ (h : HeldDocument D J P L). owing h (todo_of outs)) is,
)

-- an answer befalls a document, and its frames are given
pub answer_befalls : {D S P L : Type 0} (w : Ways D (PaintJob S) P) (carries : L → List LinkEvent)
    (id moment : ℕ) (old mid : HeldDocument D (PaintJob S) P L) (answer : Answer P)
    (given : Given S) (frames : List (ViewId × Frame)) (before : Heard D (PaintJob S) P L)
    (result : Result ℕ Memory) (new : HeldDocument D (PaintJob S) P L)
    (after : Heard D (PaintJob S) P L)
    → old.todo ≡ []
    → w.Steps old.doc (event_of answer) (given_out given) mid.doc
    → mid ≡ record old {
      doc = mid.doc;
      lock = lock_after w moment old.doc (event_of answer) old.lock;
    }
    → given ≡ frames_only given.frames → frames ≡ given.frames
    → new.todo ≡ []
    → Settles w carries id moment mid (map give_of frames) before result new after
    → Befalls w carries id moment old (event_of answer) before result new after
answer_befalls {D} {S} {P} {L} w carries id moment old mid answer given frames before
    (Ok n) new after
    free step is alone same settled done = record {
      outs = given_out given;
      mid = mid;
      step = did_take w moment old mid answer (given_out given) free step is;
      done = subst
          (λ (todo : List (Todo
          (PaintJob S) P)). Passes w carries id moment mid todo before n new []
          after)
          (ap (λ (xs : List (ViewId × Frame)). map give_of xs) same ∙ sym (owed_frames given alone))
          done;
      settled = settled;
    }
answer_befalls {D} {S} {P} {L} w carries id moment old mid answer given frames before
    (Err memory) new
    after free step is alone same settled done =
    inr
    (record {
      event = event_of answer;
      outs = given_out given;
      mid = mid;
      step = did_take w moment old mid answer (given_out given) free step is;
      done = subst
          (λ (todo : List (Todo (PaintJob S) P)). Stops w carries id moment mid todo before after)
          (ap (λ (xs : List (ViewId × Frame)). map give_of xs) same ∙ sym (owed_frames given alone))
          done;
    })

-- the same, where its frames were given in part
pub answer_broke : {D S P L : Type 0} (w : Ways D (PaintJob S) P) (carries : L → List LinkEvent)
    (id moment : ℕ) (old mid : HeldDocument D (PaintJob S) P L) (answer : Answer P)
    (given : Given S) (frames : List (ViewId × Frame)) (before after : Heard D (PaintJob S) P L)
    → old.todo ≡ []
    → w.Steps old.doc (event_of answer) (given_out given) mid.doc
    → mid ≡ record old {
      doc = mid.doc;
      lock = lock_after w moment old.doc (event_of answer) old.lock;
    }
    → given ≡ frames_only given.frames → frames ≡ given.frames
    → Stops w carries id moment mid (map give_of frames) before after
    → Broke w carries id moment old before after
answer_broke {D} {S} {P} {L} w carries id moment old mid answer given frames before after free step
    is
    alone same done =
    inr
    (record {
      event = event_of answer;
      outs = given_out given;
      mid = mid;
      step = did_take w moment old mid answer (given_out given) free step is;
      done = subst
          (λ (todo : List (Todo (PaintJob S) P)). Stops w carries id moment mid todo before after)
          (ap (λ (xs : List (ViewId × Frame)). map give_of xs) same ∙ sym (owed_frames given alone))
          done;
    })

-- a call that broke off
pub befalls_broke : {D J P L : Type 0} (w : Ways D J P) (carries : L → List LinkEvent)
    (id moment : ℕ) (old : HeldDocument D J P L) (event : Event P) (before : Heard D J P L)
    (result : Result ℕ Memory) (new : HeldDocument D J P L) (after : Heard D J P L)
    → IsErr result → Broke w carries id moment old before after
    → Befalls w carries id moment old event before result new after
befalls_broke w carries id moment old event before (Ok n) new after none broke = cc
befalls_broke w carries id moment old event before (Err memory) new after none broke = broke

-- the same of a turn
pub turns_broke : {D J P L : Type 0} (w : Ways D J P) (carries : L → List LinkEvent)
    (id moment : ℕ) (old : HeldDocument D J P L) (before : Heard D J P L)
    (result : Result (Bool × ℕ) Memory) (new : HeldDocument D J P L) (after : Heard D J P L)
    → IsErr result → Broke w carries id moment old before after
    → Turns w carries id moment old before result new after
turns_broke w carries id moment old before (Ok p) new after none broke = cc
turns_broke w carries id moment old before (Err memory) new after none broke = broke

-- a turn that did a work, as a step
pub worked_step : {D S P L : Type 0} (w : Ways D (PaintJob S) P) (moment : ℕ)
    (old mid : HeldDocument D (PaintJob S) P L) (turned : TurnAnswer S) (given : Given S)
    → turned ≡ Worked given
    → HeldStep w moment old (Did (TurnMade (did_work turned)) (given_out (outs_of turned)))
    (owing mid (todo_of (given_out (outs_of turned))))
    → HeldStep w moment old (Did (TurnMade true) (given_out given))
    (owing mid (todo_of (given_out given)))
worked_step {D} {S} {P} {L} w moment old mid turned given is step =
    subst
    (λ (t : TurnAnswer S). HeldStep w moment old
    (Did (TurnMade (did_work t)) (given_out (outs_of t))) (owing mid (todo_of (given_out
    (outs_of t)))))
    is step

-- an idle one gave nothing out
pub idle_step : {D S P L : Type 0} (w : Ways D (PaintJob S) P) (carries : L → List LinkEvent)
    (id moment : ℕ) (old mid : HeldDocument D (PaintJob S) P L) (turned : TurnAnswer S)
    (s : Heard D (PaintJob S) P L)
    → turned ≡ Idle
    → HeldStep w moment old (Did (TurnMade (did_work turned)) (given_out (outs_of turned)))
    (owing mid (todo_of (given_out (outs_of turned))))
    → mid.todo ≡ []
    → Befell w carries id moment old (TurnMade false) s 0 mid s
idle_step {D} {S} {P} {L} w carries id moment old mid turned s is step settled = record {
  outs = given_out none;
  mid = mid;
  step = subst
      (λ (t : TurnAnswer S). HeldStep w moment old
      (Did (TurnMade (did_work t)) (given_out (outs_of t)))
      (owing mid (todo_of (given_out (outs_of t)))))
      is step;
  done = passes_none w carries id moment mid [] s;
  settled = settled;
}
