use Rattle.std.proofs.Common.{arith}
use Rattle.tile_raster.specs.Painting.{colour_of}
use Rattle.tile_raster.proofs.BlockFacts.{fill_more}
use Rattle.tile_raster.proofs.fills.fill_row.Goals as goal

pub loop-i-preserved : goal.loop-i-preserved
loop-i-preserved c =
    fill_more c.args.area.now c.args.row c.args.columns.first c.loop-i.i (colour_of c.args.colour) c.args.rgba.now c.loop-i.rgba c.set_pixel.new.rgba
    (omega arith) (omega arith) c.loop-i.invariant (rw c.width.ensures.value at c.set_pixel.ensures)
