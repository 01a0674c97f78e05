use Rattle.std.proofs.Common.{ap, ◌∙◌}
use Rattle.tile_raster.specs.Painting.{pixels_of}
use Rattle.tile_raster.proofs.FrontFacts.{same_pixels, same_picture}
use Rattle.tile_raster.proofs.canvas.Canvas.finish.Goals as goal

pub returns-clause-pixels : goal.returns-clause-pixels
returns-clause-pixels c =
    same_pixels (record { width = c.self.inside.width; height = c.self.inside.height; rgba = c.self.inside.rgba.items }) c.in_ok-from_vec.field-0 c.self.invariant.0 c.in_ok-from_vec.ensures.ok
    ∙ ap pixels_of c.self.view_is

pub returns-clause-picture : goal.returns-clause-picture
returns-clause-picture c = λ colour p shows. returns-clause-pixels c ∙ same_picture colour p c.args.self shows
