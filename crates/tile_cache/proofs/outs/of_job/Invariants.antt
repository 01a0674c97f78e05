use Rattle.std.proofs.Common.{◌≡◌, filter, take, nat_eq}
use Rattle.tile_cache.proofs.outs.of_job.Given as goal

abbrev pub invariant-loop-out : goal.invariant-loop-out
invariant-loop-out l = l.own.items ≡ filter (λ out. nat_eq out.ticket l.ticket) (take l.out-index l.outs)
