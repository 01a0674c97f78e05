use Rattle.std.proofs.Common.{◌≡◌, ◌+◌, ◌-◌, ◌/◌, ◌&&◌, min, max, arith}
use Rattle.cool_base.specs.Points.{has_point}
use Rattle.kit_trait.specs.Pictures.{x_at, y_at}
use Rattle.bitmap_font.specs.Glyphs.{dot_of}
use Rattle.tile_raster.specs.Lettering.{black}
use Rattle.tile_raster.specs.Bytes.{letter_dot}
use Rattle.tile_raster.specs.Spans.{in_span}
use Rattle.tile_raster.proofs.BlockFacts.{painted}
use Rattle.tile_raster.proofs.LetterFacts.{letter_cells}
use Rattle.tile_raster.proofs.letters.write_letter.Goals as goal

pub returns : goal.returns
returns c =
    let p = c.args.area.now in
    let columns = c.columns_of-columns.result in
    let rows = c.rows_of-rows.result in
    let clip = c.clip.inside in
    let all : c.loop-j.j ≡ rows.end = omega arith in
    painted p
    (λ i j. in_span rows.first c.loop-j.j j && (in_span columns.first columns.end i && dot_of c.args.c ((x_at p i - c.args.left) / 15) ((y_at p j - c.from-y.result) / 15)))
    (λ px py. has_point c.args.clip.now px py && letter_dot c.args.c c.args.left c.args.y px py) black c.args.rgba.now c.loop-j.rgba
    (λ i j inside below.
    let across : in_span columns.first columns.end i ≡ in_span (max c.args.left clip.x) (min (c.args.left + 90) (clip.x + clip.w)) (x_at p i) =
    rw (c.max.ensures, c.from-3.ensures, c.min-right.ensures, c.from.ensures) at (c.columns_of-columns.ensures.exact i inside) in
    let down : in_span rows.first rows.end j ≡ in_span (max c.args.y clip.y) (min (c.args.y + 120) (clip.y + clip.h)) (y_at p j) =
    rw (c.max-2.ensures, c.from-4.ensures, c.min-bottom.ensures, c.from-2.ensures, c.from-y.ensures) at (c.rows_of-rows.ensures.exact j below) in
    rw (all, c.from-y.ensures, ← c.clip.view_is)
    (letter_cells c.args.c c.args.left c.args.y (record { x = clip.x; y = clip.y; w = clip.w; h = clip.h }) columns.first columns.end rows.first rows.end i j (x_at p i) (y_at p j) across down))
    c.loop-j.invariant
