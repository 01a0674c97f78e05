use Rattle.std.proofs.Common.{◌∙◌, ◌++◌, ap, map, arith}
use Rattle.std.specs.Vec.Iter.{into_iter_items}
use Rattle.document_laws.specs.AtOnce.{answered}
use Rattle.script_world.proofs.Answers.{leads_further, leads_to_end, takes_there, no_jobs}
use Rattle.script_world.proofs.turning.paints_all.Goals as goal

pub loop-job-preserved : goal.loop-job-preserved
loop-job-preserved g c = record {
  there = takes_there g.K.Kit.rules g.K.Kit.cut c.args.seats.now c.loop-job.broker c.paints.new.broker _ c.in_ok-more.more.items c.in_ok-more.ensures;
  leads = leads_further g.K.Kit.rules g.K.Kit.cut c.args.seats.now c.args.broker.now c.loop-job.broker c.paints.new.broker (map answered c.args.jobs.items) (map answered (into_iter_items c.loop-job.job-iterator)) (map answered (into_iter_items c.next.new.self))
      (answered c.in-Some.job) c.loop-job.bytes.items c.in_ok-more.more.items c.extend_from_slice.new.self.items
      c.loop-job.invariant.leads (ap (map answered) c.in-Some.ensures.steps.0) c.in_ok-more.ensures (c.in_ok-extend_from_slice.ensures.items ∙ ap (λ b. c.loop-job.bytes.items ++ b) c.deref.ensures.value);
}

pub returns : goal.returns
returns g c =
    leads_to_end g.K.Kit.rules g.K.Kit.cut c.args.seats.now c.args.broker.now c.loop-job.broker (map answered c.args.jobs.items) (map answered (into_iter_items c.loop-job.job-iterator)) c.loop-job.bytes.items
    c.loop-job.invariant.leads c.loop-job.invariant.there (no_jobs (into_iter_items c.loop-job.job-iterator) (omega (arith, c.in-None.ensures.steps.0)))
