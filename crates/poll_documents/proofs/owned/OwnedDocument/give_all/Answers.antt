use Rattle.std.proofs.Common.{[], refl, rules, arith}
use Rattle.poll_documents.specs.Outside.{with_net}
use Rattle.poll_documents.specs.Settling.{give_of}
use Rattle.poll_documents.proofs.Settling.{passes_none, passes_next, stops_next, settles_stop}
use Rattle.poll_documents.proofs.Settling.{passes_all}
use Rattle.poll_documents.proofs.owned.OwnedDocument.give_all.Goals as goal

pub loop-given-init : goal.loop-given-init
loop-given-init g c = record {
  settled = λ served id moment s.
      passes_none _ _ id moment c.args.self.now [] (with_net s (g.N.Net.told c.args.net.now));
  few = search rules;
  alive = c.requires;
  takes = refl;
}

pub loop-given-preserved : goal.loop-given-preserved
loop-given-preserved g c = record {
  settled = λ served id moment s.
      passes_next _ _ id moment give_of c.args.self.now c.args.frames.now c.loop-given.given-index
      c.given-item.result (with_net s (g.N.Net.told c.args.net.now)) c.loop-given.ended
      c.loop-given.self (with_net s (g.N.Net.told c.loop-given.net)) c.in_ok-ended.field-0
      c.give_one.new.self (with_net s (g.N.Net.told c.give_one.new.net)) (omega arith)
      c.given-item.is (c.loop-given.invariant.settled served id moment s)
      (c.in_ok-ended.ensures.settled served id moment s);
  few = search rules;
  alive = search rules;
  takes = search rules;
}

pub returns-in_err-ended-clause-settled : goal.returns-in_err-ended-clause-settled
returns-in_err-ended-clause-settled g c = λ served id moment s.
    settles_stop _ _ id moment c.args.self.now _ (with_net s (g.N.Net.told c.args.net.now))
    c.from_residual.result _ (with_net s (g.N.Net.told c.give_one.new.net)) (search rules)
    (stops_next _ _ id moment give_of c.args.self.now c.args.frames.now c.loop-given.given-index
    c.given-item.result (with_net s (g.N.Net.told c.args.net.now)) c.loop-given.ended
    c.loop-given.self (with_net s (g.N.Net.told c.loop-given.net))
    (with_net s (g.N.Net.told c.give_one.new.net)) (omega arith) c.given-item.is
    (c.loop-given.invariant.settled served id moment s)
    (c.in_err-ended.ensures.settled served id moment s))

pub returns-clause-settled : goal.returns-clause-settled
returns-clause-settled g c = λ served id moment s.
    passes_all _ _ id moment give_of c.args.self.now c.args.frames.now c.loop-given.given-index
    (with_net s (g.N.Net.told c.args.net.now)) c.loop-given.ended c.loop-given.self
    (with_net s (g.N.Net.told c.loop-given.net)) (omega arith)
    (c.loop-given.invariant.settled served id moment s)
