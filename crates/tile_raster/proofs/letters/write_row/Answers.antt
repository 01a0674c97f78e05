use Rattle.std.proofs.Common.{arith, ◌-◌, ◌/◌}
use Rattle.kit_trait.specs.Pictures.{x_at}
use Rattle.bitmap_font.specs.Glyphs.{dot_of}
use Rattle.tile_raster.specs.Lettering.{black}
use Rattle.tile_raster.proofs.BlockFacts.{row_more}
use Rattle.tile_raster.proofs.letters.write_row.Goals as goal

pub loop-i-preserved : goal.loop-i-preserved
loop-i-preserved c =
    row_more c.args.area.now c.args.row c.args.columns.first c.loop-i.i c.dot-inked.result (λ k. dot_of c.args.c ((x_at c.args.area.now k - c.args.left) / 15) c.args.dots) black c.args.rgba.now c.loop-i.rgba c.set_pixel.new.rgba
    (omega arith) (omega arith) (rw (c.from.ensures, c.column_point.ensures) at c.dot-inked.ensures) c.loop-i.invariant (rw c.width.ensures.value at c.set_pixel.ensures)
