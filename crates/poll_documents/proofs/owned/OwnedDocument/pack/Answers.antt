use Rattle.std.proofs.Common.{◌+◌, ℕ, Ok, IsOk, length, ap, refl, rules, arith}
use Rattle.cool_base.specs.declared.want.Memory.{Memory}
use Rattle.poll_machine.specs.House.{Live as LiveSlot}
use Rattle.poll_machine.proofs.Lifted.{still_rises}
use Rattle.poll_documents.specs.Doing.{in_house}
use Rattle.poll_documents.specs.Links.{packs}
use Rattle.poll_documents.specs.Outside.{with_net}
use Rattle.poll_documents.proofs.Packing.{does_begin, does_short, packs_more, packs_one, packs_none}
use Rattle.poll_documents.proofs.Packing.{no_answer, empty_list}
use Rattle.poll_documents.proofs.owned.OwnedDocument.pack.Goals as goal

pub loop-init : goal.loop-init
loop-init g c = record {
  packs = λ served id s house end front back result after rises later.
      does_begin _ _ (packs id c.args.self.now) house front back (id, LiveSlot c.args.self.now)
      (with_net s (g.N.Net.told c.args.net.now)) (IsOk {T = ℕ} {E = Memory} result) end after later;
  left = omega
      (arith, c.count-end.ensures, ap (λ (h : _). length h.views) c.self.view_is);
  takes = refl;
}

pub loop-preserved : goal.loop-preserved
loop-preserved g c = record {
  packs = λ served id s house end front back result after rises later.
      c.loop.invariant.packs served id s house end front back result after rises
      (packs_more _ _ house front back id c.loop.ended c.in_ok-more.more _ c.args.self.now
      c.loop.self
      c.pack_first.new.self (with_net s (g.N.Net.told c.loop.net))
      (with_net s (g.N.Net.told c.pack_first.new.net)) (IsOk {T = ℕ} {E = Memory} result) end after
      c.in_ok-ended.ensures rises (c.in_ok-more.ensures.packs served id house.moment s) later);
  left = omega (arith, c.loop.invariant.left, c.in_ok-more.ensures.left);
  takes = search rules;
}

-- a release was cut off
pub returns-in_err-more-clause-packs : goal.returns-in_err-more-clause-packs
returns-in_err-more-clause-packs g c = λ served id s house front back rises.
    c.loop.invariant.packs served id s house _ front back c.from_residual.result _ rises
    (does_short _ _ (packs id c.loop.self) house front back id
    (house.ended + c.loop.ended) c.loop.self
    (with_net s (g.N.Net.told c.loop.net)) (with_net s (g.N.Net.told c.pack_first.new.net))
    (IsOk {T = ℕ} {E = Memory} c.from_residual.result) _
    (no_answer c.from_residual.result (search rules))
    (still_rises front id (LiveSlot c.args.self.now) (LiveSlot c.loop.self) back rises)
    (c.in_err-more.ensures.packs served id house.moment s))

-- it was made, and the count goes beyond its type
pub returns-in_err-ended-clause-packs : goal.returns-in_err-ended-clause-packs
returns-in_err-ended-clause-packs g c = λ served id s house front back rises.
    c.loop.invariant.packs served id s house _ front back c.from_residual-in_err-ended.result _
    rises
    (packs_one _ _ house front back id (house.ended + c.loop.ended) c.in_ok-more.more c.loop.self
    c.pack_first.new.self (with_net s (g.N.Net.told c.loop.net))
    (with_net s (g.N.Net.told c.pack_first.new.net))
    (IsOk {T = ℕ} {E = Memory} c.from_residual-in_err-ended.result) _
    (no_answer c.from_residual-in_err-ended.result (search rules))
    (still_rises front id (LiveSlot c.args.self.now) (LiveSlot c.loop.self) back rises)
    (c.in_ok-more.ensures.packs served id house.moment s))

-- all were made
pub returns-clause-packs : goal.returns-clause-packs
returns-clause-packs g c = λ served id s house front back rises.
    c.loop.invariant.packs served id s house _ front back (Ok c.loop.ended) _ rises
    (packs_none _ _ c.loop.self id
    (in_house house front (id, LiveSlot c.loop.self) back (house.ended + c.loop.ended))
    (with_net s (g.N.Net.told c.loop.net)) (IsOk {T = ℕ} {E = Memory} (Ok c.loop.ended))
    (empty_list c.loop.self.views (omega (arith, c.loop.invariant.left))))
