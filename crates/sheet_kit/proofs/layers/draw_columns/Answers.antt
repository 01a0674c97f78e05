use Rattle.std.proofs.Common.{◌≡◌, ◌+◌, ◌-◌, ◌/◌, min, arith}
use Rattle.sheet_kit.proofs.Layering.{columns_all}
use Rattle.sheet_kit.proofs.layers.draw_columns.Goals as goal

pub returns : goal.returns
returns c =
    let area = c.args.area.now in
    let end : c.min-col-end.result ≡ min ((area.posx + area.tilewidth - 1) / 960 + 1) 256 = omega (arith, c.posx.ensures.value, c.tilewidth.ensures.value, c.min-col-end.ensures) in
    columns_all area c.loop-col.canvas c.min-col-end.result c.loop-col.col c.posx.ensures.form end c.loop-col-test.false c.loop-col.invariant
