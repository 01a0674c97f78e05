use Rattle.std.proofs.Common.{rules, not, filter, ◌==◌, ap, ◌∙◌}
use Rattle.std.proofs.lemmas.Fn.{filter_same}
use Rattle.net_rules.specs.Begun.{Shake}
use Rattle.net_rules.proofs.handshakes.Handshakes.end.Goals as goal

pub returns : goal.returns
returns c =
    filter_same _ (λ (s : Shake). not (s.link == c.args.link.0)) _
    (λ x b f' k. search rules) _ _ c.retain.ensures.filtered
    ∙ ap (filter (λ (s : Shake). not (s.link == c.args.link.0))) c.self.view_is
