use Rattle.tile_raster.proofs.SpanFacts.{first_exact}
use Rattle.tile_raster.proofs.spans.first_from.Goals as goal

pub returns-clause-exact : goal.returns-clause-exact
returns-clause-exact c = λ i within.
    rw (c.min.ensures, c.div_ceil-pixels_before.ensures, c.saturating_sub-way.ensures, c.from.ensures, c.from-2.ensures, c.from-3.ensures, c.from-4.ensures)
    (first_exact c.args.pos c.args.twips c.args.pixels c.args.edge i c.requires.some_twips c.requires.some_pixels within)
