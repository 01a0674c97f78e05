-- The walk from cells to the cells that read them.
use Rattle.std.specs.Prelude.{◌≡◌, Bool, true, false, not, ◌||◌, ◌&&◌, List, None, unwrap_or}
use Rattle.std.specs.BTreeMap.{is_at}
use Rattle.std.specs.List.{list_any}
use Rattle.formula_base.specs.Ranges.{Position, position_cmp}
use Rattle.part_calc.specs.declared.dependants.Visit.{Visit}
use Rattle.part_calc.specs.Finding.{is_listed}
use Rattle.part_calc.specs.Lanes.{Index, is_reader}
use Rattle.part_calc.specs.Fates.{Fates, fate_in, is_fresh}

-- a visit that enters the cell, and one that leaves it
abbrev pub entering : Position → Visit
entering p = record { position = p; is_left = false }

abbrev pub leaving : Position → Visit
leaving p = record { position = p; is_left = true }

-- whether a visit enters the cell
abbrev pub enters : Position → Visit → Bool
enters c v = not v.is_left && is_at (position_cmp c) v.position

-- whether it leaves the cell
abbrev pub leaves : Position → Visit → Bool
leaves c v = v.is_left && is_at (position_cmp c) v.position

-- visits to come once some cells were added that are to be entered
pub record IsPushed (before after : List Visit) (added : Position → Bool) : Type 0 where
  pub enter : (c : Position) → list_any (enters c) after ≡ (list_any (enters c) before || added c)
  pub leave : (c : Position) → list_any (leaves c) after ≡ list_any (leaves c) before

-- the state of a walk: where it starts was entered or will be, and so was each reader of what was entered; what was entered was left or will be; nothing is found
pub record IsWalk (index : Index) (starts : Position → Bool) (fresh : Fates) (visits : List Visit) (ordered : List Position) : Type 0 where
  pub start : (c : Position) → starts c ≡ true → (is_fresh fresh c || list_any (enters c) visits) ≡ true
  pub closed : (c r : Position) → is_fresh fresh r ≡ true → is_reader index r c ≡ true → (is_fresh fresh c || list_any (enters c) visits) ≡ true
  pub listed : (c : Position) → is_fresh fresh c ≡ (is_listed ordered c || list_any (leaves c) visits)
  pub unfound : (c : Position) → unwrap_or (fate_in fresh c) None ≡ None

-- the end of a walk: the starts were reached, and each reader of what was reached; each is listed
pub record IsReached (index : Index) (starts : Position → Bool) (fresh : Fates) (ordered : List Position) : Type 0 where
  pub start : (c : Position) → starts c ≡ true → is_fresh fresh c ≡ true
  pub closed : (c r : Position) → is_fresh fresh r ≡ true → is_reader index r c ≡ true → is_fresh fresh c ≡ true
  pub listed : (c : Position) → is_fresh fresh c ≡ true → is_listed ordered c ≡ true
  pub unfound : (c : Position) → unwrap_or (fate_in fresh c) None ≡ None
