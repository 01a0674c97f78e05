use Rattle.std.proofs.Common.{Ok, IsOk, rules, arith}
use Rattle.cool_base.specs.declared.want.Memory.{Memory}
use Rattle.poll_machine.specs.House.{Live as LiveSlot}
use Rattle.poll_machine.specs.Lobby.{adopts}
use Rattle.poll_machine.proofs.Lifted.{still_rises}
use Rattle.poll_documents.specs.Doing.{in_house}
use Rattle.poll_documents.specs.Outside.{with_net}
use Rattle.poll_documents.proofs.Packing.{does_short, adopts_next, adopts_none, no_answer}
use Rattle.poll_documents.proofs.Packing.{empty_list}
use Rattle.poll_documents.proofs.owned.OwnedDocument.adopt.Goals as goal

pub loop-preserved : goal.loop-preserved
loop-preserved g c = record {
  adopts = λ served id s house end front back result after rises later.
      c.loop.invariant.adopts served id s house end front back result after rises
      (adopts_next _ _ house front back id c.loop.self c.adopt_first.new.self
      (with_net s (g.N.Net.told c.loop.net)) (with_net s (g.N.Net.told c.adopt_first.new.net))
      (IsOk {T = Unit {0}} {E = Memory} result) end after
      (still_rises front id (LiveSlot c.args.self.now) (LiveSlot c.loop.self) back rises)
      (c.in_ok-adopt_first.ensures.adopts served id house.moment s) later);
  left = omega (arith, c.loop.invariant.left, c.in_ok-adopt_first.ensures.left);
  takes = search rules;
}

-- an adoption was cut off
pub returns-in_err-adopt_first-clause-adopts : goal.returns-in_err-adopt_first-clause-adopts
returns-in_err-adopt_first-clause-adopts g c = λ served id s house front back rises.
    c.loop.invariant.adopts served id s house _ front back c.from_residual.result _ rises
    (does_short _ _ (adopts id c.loop.self) house front back id house.ended c.loop.self
    (with_net s (g.N.Net.told c.loop.net)) (with_net s (g.N.Net.told c.adopt_first.new.net))
    (IsOk {T = Unit {0}} {E = Memory} c.from_residual.result) _
    (no_answer c.from_residual.result (search rules))
    (still_rises front id (LiveSlot c.args.self.now) (LiveSlot c.loop.self) back rises)
    (c.in_err-adopt_first.ensures.adopts served id house.moment s))

-- all were adopted
pub returns-clause-adopts : goal.returns-clause-adopts
returns-clause-adopts g c = λ served id s house front back rises.
    c.loop.invariant.adopts served id s house _ front back (Ok tt) _ rises
    (adopts_none _ _ c.loop.self id
    (in_house house front (id, LiveSlot c.loop.self) back house.ended)
    (with_net s (g.N.Net.told c.loop.net)) (IsOk {T = Unit {0}} {E = Memory} (Ok tt))
    (empty_list c.loop.self.packed (omega (arith, c.loop.invariant.left))))
