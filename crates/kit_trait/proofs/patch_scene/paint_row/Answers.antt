use Rattle.std.proofs.Common.{◌+◌, ◌*◌, ◌/◌, refl}
use Rattle.kit_trait.proofs.PatchPainting.{row_pushed}
use Rattle.kit_trait.proofs.patch_scene.paint_row.Goals as goal

pub loop-i-preserved : goal.loop-i-preserved
loop-i-preserved c = record {
  painted = row_pushed c.args.squares.now c.args.area.now c.args.j c.loop-i.i
      (c.posx.result + c.loop-i.i * c.tilewidth.result / c.width.result) (c.posy.result + c.args.j * c.tileheight.result / c.height.result)
      c.shade-shade.result c.args.rgba.now.items c.loop-i.rgba.items c.extend_from_slice.new.self.items
      c.loop-i.invariant.painted (rw (c.posx.ensures.value, c.tilewidth.ensures.value, c.width.ensures.value) refl) c.loop-i.invariant.row_y
      (rw c.part.ensures.value at c.shade-shade.ensures) c.in_ok-extend_from_slice.ensures.items;
  row_y = c.loop-i.invariant.row_y;
}
