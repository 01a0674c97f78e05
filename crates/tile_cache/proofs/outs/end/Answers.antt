use Rattle.std.proofs.Common.{◌≡◌, not, nat_eq, rules}
use Rattle.std.proofs.lemmas.Fn.{filter_same}
use Rattle.tile_cache.specs.declared.outs.Out.{Out}
use Rattle.tile_cache.specs.Calls.{outs_but}
use Rattle.tile_cache.proofs.EndFacts.{but_fewer}
use Rattle.tile_cache.proofs.outs.end.Goals as goal

pub returns-clause-others : goal.returns-clause-others
returns-clause-others c = filter_same _ (λ (out : Out). not (nat_eq out.ticket c.args.ticket)) _ (λ x b f' k. search rules) _ _ c.retain.ensures.filtered

pub returns-clause-few : goal.returns-clause-few
returns-clause-few c =
    let is : c.retain.new.self.items ≡ outs_but c.args.ticket c.args.outs.now.items = filter_same _ (λ (out : Out). not (nat_eq out.ticket c.args.ticket)) _ (λ x b f' k. search rules) _ _ c.retain.ensures.filtered in
    rw is (but_fewer c.args.ticket c.args.outs.now.items)
