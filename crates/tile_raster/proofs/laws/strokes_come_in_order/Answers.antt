use Rattle.tile_raster.specs.Strokes.{stroked}
use Rattle.tile_raster.proofs.FrontFacts.{same_picture}
use Rattle.tile_raster.proofs.StrokeFacts.{strokes_show}
use Rattle.tile_raster.proofs.laws.strokes_come_in_order.Goals as goal

pub returns-clause-pixels : goal.returns-clause-pixels
returns-clause-pixels c = strokes_show

pub returns-clause-picture : goal.returns-clause-picture
returns-clause-picture c = λ area strokes blank new white steps. same_picture (λ part. stroked strokes) area new (strokes_show area strokes blank new white steps)
