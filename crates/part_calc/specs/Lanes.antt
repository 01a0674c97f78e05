-- Who names a cell, by lanes: the blocks that formulas name stand in lanes, each in one, and a cell lies in six.
use Rattle.std.specs.Prelude.{◌≡◌, ◌+◌, ◌/◌, Bool, true, ◌&&◌, ◌==◌, List, [], ◌∷◌, unwrap_or, refl, if◌then◌else◌}
use Rattle.std.specs.BTreeMap.{is_at}
use Rattle.std.specs.List.{list_any}
use Rattle.std.specs.Map.{lookup}
use Rattle.std.specs.Coded.{Coded, code_by, coded×, coded_ℕ}
use Rattle.sheet_cells.specs.declared.limits.TheConstants.{COLUMNS, ROWS}
use Rattle.formula_base.specs.Ranges.{Position, position_cmp}
use Rattle.formula_base.specs.Blocks.{Block, is_within}
use Rattle.part_calc.specs.declared.lanes.Span.{Span}
use Rattle.part_calc.specs.Contents.{blocks_in}
use Rattle.part_calc.specs.Parts.{Part, content_at}

-- spans as pairs of pairs of numbers
abbrev pub coded_span : Coded Span
coded_span =
    code_by (Block × Position) (coded× (coded× (coded× coded_ℕ coded_ℕ) (coded× coded_ℕ coded_ℕ)) (coded× coded_ℕ coded_ℕ)) (λ s. (s.block, s.reader)) (λ p. record { block = p.0; reader = p.1 }) (λ _. refl)

-- lanes, each with its spans
abbrev pub Index : Type 0
Index = List (Position × List Span)

-- the lane of a block of several rows and columns: that of sixteen rows, that of 256 rows, or the one of all others
abbrev pub wide_lane : Block → Position
wide_lane b =
    if b.0.0 / 16 == b.1.0 / 16 then (ROWS + 1, b.0.0 / 16)
    else (if b.0.0 / 256 == b.1.0 / 256 then (ROWS + 2, b.0.0 / 256) else (ROWS, COLUMNS))

-- the lane of a block: a cell's own, a column's, a row's, or one of wider blocks
abbrev pub lane_of : Block → Position
lane_of b =
    if b.0.1 == b.1.1 then (if b.0.0 == b.1.0 then b.0 else (ROWS, b.0.1))
    else (if b.0.0 == b.1.0 then (b.0.0, COLUMNS) else wide_lane b)

-- the lanes in which a block with the cell can stand
abbrev pub lanes_at : Position → List Position
lanes_at r =
    r ∷ (ROWS, r.1) ∷ (r.0, COLUMNS) ∷ (ROWS + 1, r.0 / 16) ∷ (ROWS + 2, r.0 / 256) ∷ (ROWS, COLUMNS) ∷ []

-- the spans of a lane
unfoldable pub spans_in : Index → Position → List Span
spans_in index lane = unwrap_or (lookup (is_at (position_cmp lane)) index) []

-- whether two blocks are one
abbrev pub is_block : Block → Block → Bool
is_block b d = is_at (position_cmp b.0) d.0 && is_at (position_cmp b.1) d.1

-- whether a span is this block of this cell
abbrev pub is_span : Block → Position → Span → Bool
is_span b c s = is_block b s.block && is_at (position_cmp c) s.reader

-- whether the block of the cell stands in its lane
abbrev pub has_span : Index → Block → Position → Bool
has_span index b c = list_any (is_span b c) (spans_in index (lane_of b))

-- whether one of the spans is of this cell and has the other in its block
abbrev pub is_read : List Span → Position → Position → Bool
is_read spans r c = list_any (λ s. is_within r s.block && is_at (position_cmp c) s.reader) spans

-- whether a cell stands as one that reads the other
abbrev pub is_reader : Index → Position → Position → Bool
is_reader index r c = list_any (λ lane. is_read (spans_in index lane) r c) (lanes_at r)

-- what stood in its lane stands there still
abbrev pub IsGrown : Index → Index → Type 0
IsGrown before after = (b : Block) (c : Position) → has_span before b c ≡ true → has_span after b c ≡ true

-- each block that a formula of the part names stands in its lane
abbrev pub Knows : Part → Index → Type 0
Knows part index = (c : Position) (b : Block) → list_any (is_block b) (blocks_in (content_at part c)) ≡ true → has_span index b c ≡ true
