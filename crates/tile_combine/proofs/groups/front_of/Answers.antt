use Rattle.std.proofs.Common.{sym, ◌∙◌, arith}
use Rattle.tile_combine.proofs.FrontFacts.{counted_more, counted_stop, counted_all, counted_full}
use Rattle.tile_combine.proofs.groups.front_of.Goals as goal

pub loop-count-preserved : goal.loop-count-preserved
loop-count-preserved c =
    record {
      low = omega (arith, c.loop-count.invariant.low);
      high = omega (arith, c.loop-count-test.true);
      within = omega (arith, c.if-count-keys.true);
      rest = counted_more c.args.keys.now c.loop-count.count c.index-keys-count.result c.index-keys-count-then-count-keys.result c.loop-count.invariant.low (omega (arith, c.loop-count-test.true)) (omega (arith, c.if-count-keys.true)) c.index-keys-count.is c.index-keys-count-then-count-keys.is (sym c.follows.ensures ∙ c.if-follows.true) c.loop-count.invariant.rest;
    }

pub returns-else-follows : goal.returns-else-follows
returns-else-follows c = counted_stop c.args.keys.now c.loop-count.count c.index-keys-count.result c.index-keys-count-then-count-keys.result c.loop-count.invariant.low (omega (arith, c.if-count-keys.true)) c.index-keys-count.is c.index-keys-count-then-count-keys.is (sym c.follows.ensures ∙ c.if-follows.false) c.loop-count.invariant.rest

pub returns-else-count-keys : goal.returns-else-count-keys
returns-else-count-keys c = counted_all c.args.keys.now c.loop-count.count (omega (arith, c.if-count-keys.false)) c.loop-count.invariant.rest

pub returns-after-loop-count : goal.returns-after-loop-count
returns-after-loop-count c = counted_full c.args.keys.now c.loop-count.count (omega (arith, c.loop-count.invariant.high, c.loop-count-test.false)) c.loop-count.invariant.rest
