use Rattle.std.proofs.Common.{rules, ◌∙◌, ap, ◌++◌, ◌∷◌, []}
use Rattle.tile_combine.proofs.RunFacts.{group_more}
use Rattle.tile_combine.proofs.groups.combine.Goals as goal

pub loop-rest-preserved : goal.loop-rest-preserved
loop-rest-preserved c =
    group_more c.loop-rest.groups.items c.loop-rest.rest.now c.split_at.result.0.now c.split_at.result.1.now c.front_of.result _ c.push.new.self.items (search rules) c.front_of.ensures (search rules) (search rules)
    (c.in_ok-push.ensures.items ∙ ap (λ g. c.loop-rest.groups.items ++ g ∷ []) c.of_keys.ensures) c.loop-rest.invariant
