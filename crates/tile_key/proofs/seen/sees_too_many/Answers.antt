use Rattle.std.proofs.Common.{◌∙◌}
use Rattle.tile_key.specs.Visible.{visible_keys}
use Rattle.tile_key.proofs.VisibleFacts.{count_large}
use Rattle.tile_key.proofs.seen.sees_too_many.Goals as goal

pub returns : goal.returns
returns c = λ part. c.is_large.ensures ∙ count_large part c.args.zoom.now c.grid_of-grid.result.first c.grid_of-grid.result.columns c.grid_of-grid.result.top c.grid_of-grid.result.rows (visible_keys part c.args.zoom.now c.args.area.now c.args.size.now) (c.grid_of-grid.ensures.keys part)
