-- What a replay writes.
use Rattle.std.proofs.Common.{◌≡◌, ◌∙◌, ℕ, List, [], ◌++◌, Option, sym, subst, inl, inr, append-nil}
use Rattle.document_machine.specs.Held.{Held}
use Rattle.kit_trait.specs.Rules.{Rules}
use Rattle.tile_key.specs.Places.{Place}
use Rattle.script_lines.specs.Records.{IsFront}
use Rattle.script_run.specs.Transcript.{Runs, Writes, Cause, Ended}
use Rattle.script_run.specs.Uses.{SourceUse, SinkUse}
use Rattle.script_run.specs.declared.status.Status.{Status}
use Rattle.script_run.specs.declared.status.Status.TheVariants.{Done, WrongWords, FaultLine, ReadFault, WriteFault, Memory, NoEnd}
use Rattle.script_world.specs.Seats.{Seats}
use Rattle.script_world.proofs.Housed.{Keeps}
use Rattle.cool_script.specs.Replay.{code_of}
use Rattle.cool_script.specs.Script.{Standing, first, Acting, UnderWay}
use Rattle.script_laws.specs.Played.{IsPlayed}
use Rattle.script_laws.specs.Replayed.{IsReplayed, IsTail, IsTranscript}
use Rattle.script_laws.proofs.Lines.{script_played, script_acting, script_under_way}

-- all of it
all_of : (xs : List ℕ) → IsFront xs xs
all_of xs = record { behind = []; is = sym (append-nil xs) }

module _ {C B S : Type 0} (rules : Rules C B) (cut : C → Place → S) (keeps : Keeps rules cut)
    (right : (out : List ℕ) (seats : Seats) (document : Option (Held S)) → IsPlayed rules cut out seats document → IsTranscript rules cut out seats document) where
  abbrev Played : List ℕ → Type 0
  Played bytes = (seats : Seats) × (document : Option (Held S)) × IsPlayed rules cut bytes seats document

  -- the transcript goes on, and a front of that was written
  on_by : (written tail more : List ℕ) → Played (written ++ more) → IsFront tail more → IsTail rules cut written tail
  on_by written tail more played front = inl (more, played.0, played.1, right (written ++ more) played.0 played.1 played.2, front)

  module _ (lines : List (List ℕ)) (written : List ℕ) (s : Standing S) (runs : Runs (Acting rules cut) first lines written s) where
    nothing_more : (tail : List ℕ) → tail ≡ [] → IsTail rules cut written tail
    nothing_more tail is =
        on_by written tail [] (s.world.house.seats, s.world.house.document, subst (λ (x : List ℕ). IsPlayed rules cut x s.world.house.seats s.world.house.document) (sym (append-nil written)) (script_played rules cut keeps lines written s runs))
        (record { behind = []; is = sym (append-nil tail ∙ is) })

    half_way : (at_end : Type 0) (number : ℕ) (rest tail out : List ℕ) → IsFront tail out → Writes (λ (x : Standing S). x.position) (UnderWay rules cut) at_end s number rest out → IsTail rules cut written tail
    half_way at_end number rest tail out front (inl line) = on_by written tail out (script_under_way rules cut keeps lines line.0 written out s runs line.2) front
    half_way at_end number rest tail out front (inr refused) = inr (number, subst (IsFront tail) refused.1 front)

    caused : (status : Status) (at_end full : Type 0) (number : ℕ) (rest tail : List ℕ) → Cause (λ (x : Standing S). x.position) (Acting rules cut) (UnderWay rules cut) status at_end full s number rest tail → IsTail rules cut written tail
    caused Done at_end full number rest tail cause = nothing_more tail cause.3
    caused WrongWords at_end full number rest tail cause = absurd cause
    caused FaultLine at_end full number rest tail cause = inr (number, subst (IsFront tail) cause.1 (all_of tail))
    caused ReadFault at_end full number rest tail cause = nothing_more tail cause.1
    caused WriteFault at_end full number rest tail cause = half_way at_end number rest tail cause.0 (record { behind = cause.1.behind; is = cause.1.is }) cause.2
    caused Memory at_end full number rest tail (inl is) = nothing_more tail is.1
    caused Memory at_end full number rest tail (inr cut) = half_way at_end number rest tail cut.0 cut.1 cut.2
    caused NoEnd at_end full number rest tail (inl ended) = nothing_more tail ended.1
    caused NoEnd at_end full number rest tail (inr (inl spent)) = nothing_more tail spent.1
    caused NoEnd at_end full number rest tail (inr (inr last)) = on_by written tail tail (script_acting rules cut keeps lines rest written tail s last.0 runs last.3) (all_of tail)

  pub replayed : (source : SourceUse) (sink : SinkUse) (status : Status) (e : Ended (λ (x : Standing S). x.position) (Acting rules cut) (UnderWay rules cut) first source sink status)
      → IsReplayed rules cut e.written e.tail e.state.world.house
  replayed source sink status e =
      (right e.written e.state.world.house.seats e.state.world.house.document (script_played rules cut keeps e.lines e.written e.state e.runs), caused e.lines e.written e.state e.runs status _ _ _ e.rest e.tail e.cause)

-- a script that is done
pub done_by : {C B S : Type 0} (rules : Rules C B) (cut : C → Place → S) (status : Status) (source : SourceUse) (sink : SinkUse) → 0 ≡ code_of status
    → (e : Ended (λ (x : Standing S). x.position) (Acting rules cut) (UnderWay rules cut) first source sink status) → e.tail ≡ []
done_by rules cut Done source sink is e = e.cause.3
done_by rules cut WrongWords source sink is e = absurd (cc)
done_by rules cut FaultLine source sink is e = absurd (cc)
done_by rules cut ReadFault source sink is e = absurd (cc)
done_by rules cut WriteFault source sink is e = absurd (cc)
done_by rules cut Memory source sink is e = absurd (cc)
done_by rules cut NoEnd source sink is e = absurd (cc)
