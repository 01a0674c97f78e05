use Rattle.std.proofs.Common.{set, ap, sym, ◌∙◌, arith}
use Rattle.std.proofs.lemmas.List.Edits.{map_over_more}
use Rattle.tile_cache.specs.Calls.{hit_out}
use Rattle.tile_cache.specs.declared.outs.Out.{Out}
use Rattle.tile_cache.proofs.outs.damage.Goals as goal

pub loop-out-preserved : goal.loop-out-preserved
loop-out-preserved c =
    ap (λ (out : Out). set c.loop-out.outs c.loop-out.out-index out) (c.hit.ensures ∙ ap (hit_out c.args.part c.args.rect.now c.args.n) (sym c.out-item.is))
    ∙ map_over_more (hit_out c.args.part c.args.rect.now c.args.n) c.args.outs.now c.loop-out.outs c.loop-out.out-index c.out-item.result (omega arith) c.loop-out.invariant c.out-item.is
