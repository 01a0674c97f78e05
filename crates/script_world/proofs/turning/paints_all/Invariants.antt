use Rattle.std.proofs.Common.{map, IsSome}
use Rattle.std.specs.Vec.Iter.{into_iter_items}
use Rattle.document_laws.specs.AtOnce.{answered}
use Rattle.script_world.proofs.Answers.{LeadsTo}
use Rattle.script_world.proofs.turning.paints_all.Given as goal

-- what the jobs that are left lead to is what all of them lead to, with the records so far in front
abbrev pub invariant-loop-job : goal.invariant-loop-job
invariant-loop-job g l = record {
  there : IsSome l.broker;
  leads : LeadsTo g.K.Kit.rules g.K.Kit.cut l.seats l.initial.broker (map answered l.fn.jobs.items) l.broker (map answered (into_iter_items l.job-iterator)) l.bytes.items;
}
