use Rattle.kit_trait.specs.Pictures.{white}
use Rattle.tile_raster.proofs.StrokeFacts.{last_over}
use Rattle.tile_raster.proofs.laws.the_last_stroke_is_seen.Goals as goal

pub returns : goal.returns
returns c = λ strokes last px py. last_over white strokes last px py
