use Rattle.std.proofs.Common.{arith}
use Rattle.script_world.proofs.Rest.{each_small}
use Rattle.script_world.proofs.acknowledging.are_small.Goals as goal

pub returns : goal.returns
returns c = each_small c.args.wids.now (λ k. omega (arith, c.type_inv.wids k))
