use Rattle.std.proofs.Common.{◌∙◌, refl, arith}
use Rattle.script_run.proofs.Exits.{further_shown, source_failed, no_memory, budget_spent, too_long, whole_shown, last_shown}
use Rattle.script_run.proofs.program.run.Goals as goal

pub returns-in-Failed-clause-ended : goal.returns-in-Failed-clause-ended
returns-in-Failed-clause-ended g c = source_failed _ _ _ _ _ _ _ _ _ _ _ c.loop-room.invariant.reached c.in-Failed.ensures.read

pub returns-in-Memory-clause-ended : goal.returns-in-Memory-clause-ended
returns-in-Memory-clause-ended g c = no_memory _ _ _ _ _ _ _ _ _ _ _ c.loop-room.invariant.reached c.in-Memory.ensures.read

pub returns-in-Spent-clause-ended : goal.returns-in-Spent-clause-ended
returns-in-Spent-clause-ended g c = budget_spent _ _ _ _ _ _ _ _ _ _ c.next_line.new.room c.loop-room.invariant.reached c.in-Spent.ensures.read (c.in-Spent.ensures.spent refl)

pub returns-in-TooLong-clause-ended : goal.returns-in-TooLong-clause-ended
returns-in-TooLong-clause-ended g c =
    too_long _ _ _ _ _ (g.S.Source.left c.loop-room.source) _ (g.T.Sink.written c.loop-room.sink) (g.P.Play.state c.loop-room.player)
    c.loop-room.number c.loop-room.room c.next_line.new.room c.refuse.result
    c.loop-room.invariant.reached c.in-TooLong.ensures.read c.refuse.ensures.writes

pub returns-in-Last-clause-ended : goal.returns-in-Last-clause-ended
returns-in-Last-clause-ended g c =
    last_shown _ _ _ _ _ (g.S.Source.left c.loop-room.source) _ (g.T.Sink.written c.loop-room.sink) (g.P.Play.state c.loop-room.player) (g.P.Play.state c.last_answer.new.player)
    c.loop-room.number c.loop-room.room c.next_line.new.room c.last_answer.result c.next_line.new.line.items c.deref.result.now c.deref.ensures.value
    c.loop-room.invariant.reached c.in-Last.ensures.read c.in-Last.ensures.ended c.last_answer.ensures.answers

pub returns-in-Some-clause-ended : goal.returns-in-Some-clause-ended
returns-in-Some-clause-ended g c =
    whole_shown _ _ _ _ _ (g.S.Source.left c.loop-room.source) _ (g.T.Sink.written c.loop-room.sink) (g.P.Play.state c.loop-room.player) (g.P.Play.state c.answer.new.self)
    c.loop-room.number c.loop-room.room c.next_line.new.room c.in-Some.status c.next_line.new.line.items c.deref-in-loop-room.result.now c.deref-in-loop-room.ensures.value
    c.loop-room.invariant.reached c.in-Whole.ensures.read c.in-Some.ensures.answers

pub loop-room-preserved : goal.loop-room-preserved
loop-room-preserved g c = record {
  reached = further_shown g.P.Play.step _ _ (g.S.Source.left c.loop-room.source) _ _ (g.T.Sink.written c.loop-room.sink) _ (g.P.Play.state c.loop-room.player) (g.P.Play.state c.answer.new.self)
      c.loop-room.number c.loop-room.room c.next_line.new.room c.next_line.new.line.items c.deref-in-loop-room.result.now c.deref-in-loop-room.ensures.value
      c.loop-room.invariant.reached c.in-Whole.ensures.read c.in-None.ensures.answers;
  reads = c.in-Whole.ensures.cause.kept (λ e. cc) ∙ c.loop-room.invariant.reads;
  writes = c.in-None.ensures.cause.kept (λ e. cc) ∙ c.loop-room.invariant.writes;
  small = omega (arith, c.in-Whole.ensures.less refl);
}
