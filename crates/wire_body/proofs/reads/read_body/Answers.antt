use Rattle.std.proofs.Common.{◌≡◌, ◌<◌, false, take, length, arith, ◌∙◌, sym}
use Rattle.std.proofs.lemmas.Result.{err_from_is_err_and}
use Rattle.std.proofs.lemmas.Grind.{common_steps}
use Rattle.std.proofs.lemmas.List.{length-take-le}
use Rattle.wire_body.proofs.Gathers.{gathers_more, reads_piece_no_memory, goes_on, piece_small, speaks}
use Rattle.wire_body.proofs.Ranks.{run_falls}
use Rattle.wire_body.proofs.reads.read_body.Goals as goal

pub returns-in_err-place-in-Read-clause-says : goal.returns-in_err-place-in-Read-clause-says
returns-in_err-place-in-Read-clause-says g c =
    let p = err_from_is_err_and c.from_residual-in_err-place-in-Read.result c.from_residual-in_err-place-in-Read.ensures.1 in
    rw (p.1, p.2)
    (reads_piece_no_memory (g.W.Wire.talk c.args.wire.now) (g.W.Wire.talk c.loop-room.wire) (g.W.Wire.talk c.receive.new.self) c.args.start c.args.front.now c.loop-room.place.state c.loop-room.body.items (take c.in-Read.count c.receive.new.into) c.loop-room.place.framing
    c.loop-room.invariant.gathered c.in-Read.ensures.receives.2 (sym c.is_said.ensures ∙ c.loop-room-test.true)
    (piece_small c.in-Read.count c.receive.new.into c.in-Read.ensures.receives.1 (grind (arith, common_steps))))

pub loop-room-smaller : goal.loop-room-smaller
loop-room-smaller g c =
    let silent : speaks c.loop-room.place.framing c.loop-room.place.state.phase ≡ false = sym c.is_said.ensures ∙ c.loop-room-test.true in
    let some : 0 < length (take c.in-Read.count c.receive.new.into) = omega (arith, length-take-le c.in-Read.count c.receive.new.into c.in-Read.ensures.receives.1, c.in-Read.ensures.receives.0) in
    run_falls c.loop-room.place.state c.in_ok-place-in-Read.place.state c.loop-room.body.items c.feed-in-Read.new.body.items (take c.in-Read.count c.receive.new.into) (goes_on c.loop-room.place.framing c.loop-room.place.state.phase silent).1 some c.in_ok-place-in-Read.ensures.leads

pub loop-room-preserved : goal.loop-room-preserved
loop-room-preserved g c = record {
  gathered =
      gathers_more (g.W.Wire.talk c.args.wire.now) (g.W.Wire.talk c.loop-room.wire) (g.W.Wire.talk c.receive.new.self) c.args.start c.args.front.now c.loop-room.place.state c.in_ok-place-in-Read.place.state c.loop-room.body.items c.feed-in-Read.new.body.items (take c.in-Read.count c.receive.new.into) c.loop-room.place.framing c.in_ok-place-in-Read.place.framing
      c.loop-room.invariant.gathered c.in-Read.ensures.receives.2 c.in_ok-place-in-Read.ensures.leads c.in_ok-place-in-Read.ensures.counts
      (sym c.is_said.ensures ∙ c.loop-room-test.true) (piece_small c.in-Read.count c.receive.new.into c.in-Read.ensures.receives.1 (grind (arith, common_steps)));
  no_fault = c.in-Read.ensures.cause.kept (λ is. cc) ∙ c.loop-room.invariant.no_fault;
}
