use Rattle.std.proofs.Common.{◌∙◌, ◌++◌, ap, map, arith}
use Rattle.std.specs.Vec.Iter.{into_iter_items}
use Rattle.document_laws.specs.AtOnce.{stored}
use Rattle.script_world.proofs.Answers.{leads_further, leads_to_end, takes_there, no_errands}
use Rattle.script_world.proofs.turning.stores_all.Goals as goal

pub loop-errand-preserved : goal.loop-errand-preserved
loop-errand-preserved g c = record {
  there = takes_there g.K.Kit.rules g.K.Kit.cut c.args.seats.now c.loop-errand.broker c.stores.new.broker _ c.in_ok-more.more.items c.in_ok-more.ensures;
  leads = leads_further g.K.Kit.rules g.K.Kit.cut c.args.seats.now c.args.broker.now c.loop-errand.broker c.stores.new.broker (map stored c.args.errands.items) (map stored (into_iter_items c.loop-errand.errand-iterator)) (map stored (into_iter_items c.next.new.self))
      (stored c.in-Some.errand) c.loop-errand.bytes.items c.in_ok-more.more.items c.extend_from_slice.new.self.items
      c.loop-errand.invariant.leads (ap (map stored) c.in-Some.ensures.steps.0) c.in_ok-more.ensures (c.in_ok-extend_from_slice.ensures.items ∙ ap (λ b. c.loop-errand.bytes.items ++ b) c.deref.ensures.value);
}

pub returns : goal.returns
returns g c =
    leads_to_end g.K.Kit.rules g.K.Kit.cut c.args.seats.now c.args.broker.now c.loop-errand.broker (map stored c.args.errands.items) (map stored (into_iter_items c.loop-errand.errand-iterator)) c.loop-errand.bytes.items
    c.loop-errand.invariant.leads c.loop-errand.invariant.there (no_errands (into_iter_items c.loop-errand.errand-iterator) (omega (arith, c.in-None.ensures.steps.0)))
