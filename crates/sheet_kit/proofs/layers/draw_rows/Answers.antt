use Rattle.std.proofs.Common.{◌≡◌, ◌+◌, ◌-◌, ◌/◌, min, arith}
use Rattle.sheet_kit.proofs.Layering.{rows_all}
use Rattle.sheet_kit.proofs.layers.draw_rows.Goals as goal

pub returns : goal.returns
returns c =
    let area = c.args.area.now in
    let end : c.min-row-end.result ≡ min ((area.posy + area.tileheight - 1) / 240 + 1) 4096 = omega (arith, c.posy.ensures.value, c.tileheight.ensures.value, c.min-row-end.ensures) in
    rows_all area c.loop-row.canvas c.min-row-end.result c.loop-row.row c.posy.ensures.form end c.loop-row-test.false c.loop-row.invariant
