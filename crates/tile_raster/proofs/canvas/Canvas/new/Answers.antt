use Rattle.tile_raster.proofs.FrontFacts.{blank}
use Rattle.tile_raster.proofs.canvas.Canvas.new.Goals as goal

pub returns : goal.returns
returns c = blank c.args.width c.args.height c.in_ok-rgba.rgba.items (c.in_ok-rgba.ensures.items_if_clones_equal (λ y same. same))
