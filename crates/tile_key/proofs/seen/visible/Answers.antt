use Rattle.std.proofs.Common.{◌∙◌}
use Rattle.tile_key.proofs.VisibleFacts.{visible_each, visible_order}
use Rattle.tile_key.proofs.seen.visible.Goals as goal

pub returns-clause-each : goal.returns-clause-each
returns-clause-each c =
    visible_each c.args.part c.args.zoom.now c.args.area.now c.args.size.now c.in_ok-keys.keys.items c.grid_of.ensures.zoom c.grid_of.ensures.size.width c.grid_of.ensures.size.height (c.in_ok-keys.ensures ∙ c.grid_of.ensures.keys c.args.part)

pub returns-clause-order : goal.returns-clause-order
returns-clause-order c =
    visible_order c.args.part c.args.zoom.now c.args.area.now c.args.size.now c.in_ok-keys.keys.items c.grid_of.ensures.zoom (c.in_ok-keys.ensures ∙ c.grid_of.ensures.keys c.args.part)
