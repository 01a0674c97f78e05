-- The cells that read a cell.
use Rattle.std.specs.Prelude.{List, map}
use Rattle.std.specs.List.{filter}
use Rattle.formula_base.specs.Ranges.{Position}
use Rattle.part_calc.specs.Contents.{content_of, reads_in}
use Rattle.part_calc.specs.Finding.{is_listed}
use Rattle.part_calc.specs.Parts.{Part}

-- the cells of a part whose formula names a cell, by rows and then columns
unfoldable pub readers_of : Part → Position → List Position
readers_of part p = map (λ e. e.0) (filter (λ e. is_listed (reads_in (content_of e.1)) p) part)
