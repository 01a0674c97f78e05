use Rattle.std.proofs.Common.{◌≡◌}
use Rattle.paint_readings.proofs.canvases.paint.Given as goal

abbrev pub invariant-loop-stroke : goal.invariant-loop-stroke
invariant-loop-stroke l = record {
  width : l.area.width ≡ l.canvas.width;
  height : l.area.height ≡ l.canvas.height;
}
