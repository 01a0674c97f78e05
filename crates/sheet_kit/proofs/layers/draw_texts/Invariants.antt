use Rattle.std.proofs.Common.{take}
use Rattle.tile_raster.specs.Painting.{Shows}
use Rattle.sheet_rules.specs.Cuts.{cut_colour}
use Rattle.sheet_kit.proofs.layers.draw_texts.Given as goal

abbrev pub invariant-loop-shown : goal.invariant-loop-shown
invariant-loop-shown l = Shows (λ part. cut_colour l.lines (take l.shown-index l.texts)) l.area l.canvas
