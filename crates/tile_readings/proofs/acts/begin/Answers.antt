use Rattle.std.proofs.Common.{ℕ, List, ◌++◌, refl, ap, ◌∙◌}
use Rattle.tile_readings.proofs.MirrorFacts.{begin_mirror}
use Rattle.tile_readings.proofs.acts.begin.Goals as goal

pub returns : goal.returns
returns c = begin_mirror c.args.cache.now c.begin.new.self c.keys.result.now c.keys-2.result.now c.args.group.now c.args.tickets.now.items c.in_ok-more.more.items c.extend_from_slice.new.self.items c.in_ok-ticket.field-0.0 c.args.n c.in_ok-ticket.ensures.ok c.in_ok-ticket.ensures.ticket c.keys.ensures.value c.keys-2.ensures.value c.in_ok-more.ensures (c.in_ok-extend_from_slice.ensures.items ∙ ap (λ (ts : List ℕ). c.args.tickets.now.items ++ ts) c.as_slice.ensures.value) (c.if-not-are_ready.ensures.ones refl) c.requires
