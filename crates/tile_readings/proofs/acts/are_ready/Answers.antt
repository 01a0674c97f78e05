use Rattle.std.proofs.Common.{arith, subst, take_all, List}
use Rattle.std.specs.Prelude.{All}
use Rattle.std.proofs.lemmas.List.Elements.{All-more}
use Rattle.tile_key.specs.Places.{Place}
use Rattle.tile_cache.specs.Calls.{IsFree}
use Rattle.tile_readings.specs.Mirrors.{IsOne}
use Rattle.tile_readings.proofs.MirrorFacts.{free_here}
use Rattle.tile_readings.proofs.acts.are_ready.Goals as goal

pub loop-key-preserved : goal.loop-key-preserved
loop-key-preserved c =
    let free : IsFree c.args.cache.now c.key-item.result = free_here c.args.cache.now c.key-item.result c.is_current.result c.is_out.result c.is_current.ensures c.if-is_current.false c.is_out.ensures c.if-is_out.false in
    let one : IsOne c.key-item.result = (omega (arith, c.width.ensures.value, c.if-width-ne1.false), omega (arith, c.height.ensures.value, c.if-height-ne1.false)) in
    record {
      free = All-more (λ (key : Place). IsFree c.args.cache.now key) c.args.keys.now c.loop-key.key-index c.key-item.result (omega arith) c.loop-key.invariant.free (subst (λ (key : Place). IsFree c.args.cache.now key) c.key-item.is free);
      ones = All-more IsOne c.args.keys.now c.loop-key.key-index c.key-item.result (omega arith) c.loop-key.invariant.ones (subst IsOne c.key-item.is one);
    }

pub returns-clause-free : goal.returns-clause-free
returns-clause-free c = λ is. subst (λ (ks : List Place). All (λ (key : Place). IsFree c.args.cache.now key) ks) (take_all c.loop-key.key-index c.args.keys.now (omega arith)) c.loop-key.invariant.free

pub returns-clause-ones : goal.returns-clause-ones
returns-clause-ones c = λ is. subst (λ (ks : List Place). All IsOne ks) (take_all c.loop-key.key-index c.args.keys.now (omega arith)) c.loop-key.invariant.ones
