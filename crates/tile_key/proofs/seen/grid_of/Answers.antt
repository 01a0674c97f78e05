use Rattle.std.proofs.Common.{◌≡◌, ◌≤◌, ◌<◌, ◌+◌, ◌-◌, ◌/◌, ◌^◌, ◌∙◌, refl, ap, arith}
use Rattle.cool_base.specs.Points.{Rectangle, Extent, intersection_of}
use Rattle.tile_key.specs.Visible.{IsPart, visible_keys, whole_part}
use Rattle.tile_key.proofs.VisibleFacts.{visible_rows, seen_right, seen_lower, span_is, IsSpan, IsSized, zoom_facts}
use Rattle.tile_key.proofs.seen.grid_of.Goals as goal

pub returns : goal.returns
returns c =
    let z : IsSized c.args.zoom.now = zoom_facts c.args.zoom.now c.twip_w-across.ensures.form in
    let size : Extent = record { w = c.size.inside.w; h = c.size.inside.h } in
    let s : Rectangle = record { x = c.seen.inside.x; y = c.seen.inside.y; w = c.seen.inside.w; h = c.seen.inside.h } in
    let e : s ≡ intersection_of c.args.area.now (whole_part size) = c.seen.view_is ∙ c.cut-seen.ensures.corners in
    let right : c.seen.inside.x + c.seen.inside.w ≤ c.size.inside.w = seen_right c.args.area.now size s e in
    let lower : c.seen.inside.y + c.seen.inside.h ≤ c.size.inside.h = seen_lower c.args.area.now size s e in
    let wide : c.size.inside.w < 2 ^ 31 = c.size.invariant.0 in
    let high : c.size.inside.h < 2 ^ 31 = c.size.invariant.1 in
    let across : IsSpan c.seen.inside.x c.seen.inside.w c.args.zoom.now.twip_w (c.seen.inside.x / c.twip_w-across.result) ((c.seen.inside.x + c.seen.inside.w + c.twip_w-across.result - 1) / c.twip_w-across.result - c.seen.inside.x / c.twip_w-across.result) =
    span_is c.seen.inside.x c.seen.inside.w c.args.zoom.now.twip_w (c.seen.inside.x / c.twip_w-across.result) ((c.seen.inside.x + c.seen.inside.w + c.twip_w-across.result - 1) / c.twip_w-across.result - c.seen.inside.x / c.twip_w-across.result) c.twip_w-across.result c.twip_w-across.ensures.value z.twip_w_low z.twip_w_high (omega arith) refl refl in
    let down : IsSpan c.seen.inside.y c.seen.inside.h c.args.zoom.now.twip_h (c.seen.inside.y / c.twip_h-down.result) ((c.seen.inside.y + c.seen.inside.h + c.twip_h-down.result - 1) / c.twip_h-down.result - c.seen.inside.y / c.twip_h-down.result) =
    span_is c.seen.inside.y c.seen.inside.h c.args.zoom.now.twip_h (c.seen.inside.y / c.twip_h-down.result) ((c.seen.inside.y + c.seen.inside.h + c.twip_h-down.result - 1) / c.twip_h-down.result - c.seen.inside.y / c.twip_h-down.result) c.twip_h-down.result c.twip_h-down.ensures.value z.twip_h_low z.twip_h_high (omega arith) refl refl in
    let part : IsPart size = record { width = wide; height = high } in
    record {
      keys = λ part. visible_rows part c.args.zoom.now c.args.area.now size s (c.seen.inside.x / c.twip_w-across.result) ((c.seen.inside.x + c.seen.inside.w + c.twip_w-across.result - 1) / c.twip_w-across.result - c.seen.inside.x / c.twip_w-across.result) (c.seen.inside.y / c.twip_h-down.result) ((c.seen.inside.y + c.seen.inside.h + c.twip_h-down.result - 1) / c.twip_h-down.result - c.seen.inside.y / c.twip_h-down.result) e across down
          ∙ ap (visible_keys part c.args.zoom.now c.args.area.now) c.size.view_is;
      right = across.reach;
      lower = down.reach;
      wide = across.small;
      high = down.small;
      zoom = c.twip_w-across.ensures.form;
      size = rw c.size.view_is at part;
    }
