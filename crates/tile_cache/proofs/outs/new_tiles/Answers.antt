use Rattle.std.proofs.Common.{arith}
use Rattle.tile_cache.proofs.NewFacts.{new_met}
use Rattle.tile_cache.proofs.outs.new_tiles.Goals as goal

pub loop-i-preserved-then-out : goal.loop-i-preserved-then-out
loop-i-preserved-then-out c =
    new_met c.args.outs.now c.args.pictures.now c.loop-i.i c.index-outs-i.result c.loop-i.tiles.items _ (omega arith) (omega arith) c.index-outs-i.is c.if-out.true c.loop-i.invariant
