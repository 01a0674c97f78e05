use Rattle.std.proofs.Common.{◌≡◌, true, rules}
use Rattle.std.proofs.lemmas.Fn.{filter_same}
use Rattle.view_session.proofs.slots.end_asking.Goals as goal

pub returns : goal.returns
returns c =
    let e : c.args.ends ≡ true = search rules in
    rw e (filter_same _ _ _ (λ x b f' k. search rules) _ _ c.retain.ensures.filtered)
