use Rattle.std.proofs.Common.{ℕ, not, nat_eq, rules}
use Rattle.std.proofs.lemmas.Fn.{filter_same}
use Rattle.tile_readings.proofs.acts.end.Goals as goal

pub returns : goal.returns
returns c = filter_same _ (λ (t : ℕ). not (nat_eq t c.args.ticket)) _ (λ x b f' k. search rules) _ _ c.retain.ensures.filtered
