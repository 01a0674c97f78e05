use Rattle.std.proofs.Common.{ℕ, List, length, filter, nat_eq, subst, sym, ap, ◌∙◌}
use Rattle.kit_trait.specs.declared.values.Pixels.{Pixels}
use Rattle.tile_cache.specs.Calls.{AreSized, outs_of}
use Rattle.tile_readings.proofs.MirrorFacts.{are_sized, finish_mirror}
use Rattle.tile_readings.proofs.acts.finish.Goals as goal

pub finish-requires : goal.finish-requires
finish-requires c = record {
  sized = subst (λ (ps : List Pixels). AreSized (outs_of c.args.ticket c.args.cache.now) ps) (sym c.as_slice-3.ensures.value)
      (are_sized c.args.ticket c.args.cache.now.outs c.args.tickets.now.items c.in_ok-pictures.pictures.items c.requires
      (c.in_ok-pictures.ensures.count ∙ ap (λ (ts : List ℕ). length ts) (c.as_slice-2.ensures.value ∙ (c.in_ok-own.ensures ∙ ap (λ (ts : List ℕ). filter (λ (t : ℕ). nat_eq t c.args.ticket) ts) c.as_slice.ensures.value)))
      c.in_ok-pictures.ensures.each);
}

pub returns : goal.returns
returns c = finish_mirror c.args.cache.now c.finish.new.self c.args.tickets.now.items c.end.new.tickets.items c.args.ticket c.as_slice-3.result.now c.in_ok-finished.ensures.ok c.end.ensures c.requires
