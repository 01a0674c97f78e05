use Rattle.std.proofs.Common.{map, IsSome}
use Rattle.std.specs.Vec.Iter.{into_iter_items}
use Rattle.document_laws.specs.AtOnce.{stored}
use Rattle.script_world.proofs.Answers.{LeadsTo}
use Rattle.script_world.proofs.turning.stores_all.Given as goal

-- what the errands that are left lead to is what all of them lead to, with the records so far in front
abbrev pub invariant-loop-errand : goal.invariant-loop-errand
invariant-loop-errand g l = record {
  there : IsSome l.broker;
  leads : LeadsTo g.K.Kit.rules g.K.Kit.cut l.seats l.initial.broker (map stored l.fn.errands.items) l.broker (map stored (into_iter_items l.errand-iterator)) l.bytes.items;
}
