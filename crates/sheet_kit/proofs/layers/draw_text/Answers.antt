use Rattle.std.proofs.Common.{◌+◌, ap, ◌∙◌}
use Rattle.cool_base.specs.Points.{Rectangle}
use Rattle.sheet_kit.proofs.Layering.{text_more}
use Rattle.sheet_kit.proofs.layers.draw_text.Goals as goal

pub returns : goal.returns
returns c texts shows =
    let t = c.args.shown.now in
    let is = c.cell_within-cell.ensures in
    text_more c.args.lines c.args.area.now c.args.canvas.now c.draw_text.new.self texts t c.cell_within-cell.result (c.cell.inside.x + 30) (c.cell.inside.y + 60) c.get.result.now
    c.if-shown-ge-ROWS.false c.if-shown-ge-COLUMNS.false is (ap (λ (r : Rectangle). r.x + 30) (c.cell.view_is ∙ is)) (ap (λ (r : Rectangle). r.y + 60) (c.cell.view_is ∙ is)) c.get.ensures c.draw_text.ensures shows
