-- What cells show, and where two parts show different texts.
use Rattle.std.specs.Prelude.{ℕ, Bool, not, List, fold, codes, if◌then◌else◌}
use Rattle.std.specs.List.{filter}
use Rattle.std.specs.Map.{keys_of}
use Rattle.std.specs.BTreeSet.{insert_key}
use Rattle.std.specs.Fmt.{signed_decimal}
use Rattle.std.specs.Str.{bytes_eq}
use Rattle.formula_base.specs.declared.values.Value.{Value}
use Rattle.formula_base.specs.declared.values.Value.TheVariants.{Empty, Number, Words, Fault}
use Rattle.formula_base.specs.declared.values.CellFault.{CellFault}
use Rattle.formula_base.specs.declared.values.CellFault.TheVariants as fault
use Rattle.formula_base.specs.Ranges.{Position, position_cmp}
use Rattle.part_calc.specs.Contents.{is_formula}
use Rattle.part_calc.specs.Parts.{Part, text_at, content_at, value_at}

-- the name of an error
abbrev pub fault_name : CellFault → List ℕ
fault_name fault.Num = codes "#NUM!"
fault_name fault.Div0 = codes "#DIV/0!"
fault_name fault.Value = codes "#VALUE!"
fault_name fault.Circ = codes "#CIRC!"

-- what a formula with this value shows
abbrev pub shown_value : Value → List ℕ
shown_value Empty = codes "0"
shown_value (Number z) = signed_decimal z
shown_value (Words text) = text
shown_value (Fault f) = fault_name f

-- what a cell shows: a formula its value, another cell its text
unfoldable pub shown_at : Part → Position → List ℕ
shown_at part p = if is_formula (content_at part p) then shown_value (value_at part p) else text_at part p

-- whether a cell shows another text in the new part than in the old
abbrev pub differs : Part → Part → Position → Bool
differs old new p = not (bytes_eq (shown_at old p) (shown_at new p))

-- the cells whose shown text differs, by rows and then columns; they are among those that have a text in one of the parts
unfoldable pub changed_cells : Part → Part → List Position
changed_cells old new = filter (differs old new) (fold (insert_key position_cmp) (keys_of old) (keys_of new))
