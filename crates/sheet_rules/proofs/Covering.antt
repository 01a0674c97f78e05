-- What an input leaves alone: the other parts, and the colours of the points that it doesn't damage.
use Rattle.std.proofs.Common.{◌≡◌, ◌≢◌, ◌⊎◌, ℕ, ◌+◌, ◌/◌, ◌%◌, ◌<◌, ◌≤◌, Bool, true, false, not, ◌&&◌, nat_eq, nat_lt, List, [], ◌∷◌, length, if◌then◌else◌, refl, ap, sym, ◌∙◌, subst, ⊎_elim, arith, lt-ltb, ltb-true, get_or-set_other}
use Rattle.std.specs.List.{list_any, AllByRecursion}
use Rattle.std.specs.Ordering.{nat_cmp}
use Rattle.std.specs.BTreeMap.{insert_entry}
use Rattle.std.specs.Str.{bytes_eq}
use Rattle.std.specs.Cmp.Lexicographic.{same_text}
use Rattle.std.proofs.lemmas.Map.Views.{Contains-from_any, tells_apart}
use Rattle.std.proofs.lemmas.Bool.{both_ways, cases_eq, cases_Bool, not-false}
use Rattle.kit_trait.specs.Pictures.{Colour, white}
use Rattle.kit_trait.specs.Rules.{hurts_point}
use Rattle.kit_trait.specs.declared.values.Input.{Input}
use Rattle.sheet_cells.specs.declared.cells.CellRef.{CellRef}
use Rattle.formula_base.specs.Ranges.{Position}
use Rattle.part_calc.specs.Parts.{Part, with_text}
use Rattle.part_calc.specs.Shown.{shown_at, differs, changed_cells}
use Rattle.part_calc.proofs.ChangeLaws.{changed_listed}
use Rattle.part_calc.proofs.PositionLaws.{exact_positions}
use Rattle.sheet_calc.specs.Books.{Parts, position_of, part_at, shown_of, with_cell}
use Rattle.sheet_rules.specs.declared.cursors.Cursor.{Cursor}
use Rattle.sheet_rules.specs.declared.cursors.Meaning.{Meaning}
use Rattle.sheet_rules.specs.declared.cursors.Meaning.TheVariants.{Stays, Goes, Writes}
use Rattle.sheet_rules.specs.Typing.{Sheet, cursor_of, is_inside, cell_at, meaning_of, fits, written, carried_out, stepped}
use Rattle.sheet_rules.specs.Damage.{damage_between, step_damage}
use Rattle.sheet_rules.specs.Colours.{has_lines, cell_colour, colour_of}
use Rattle.sheet_rules.specs.Sheets.{IsSheet}
use Rattle.sheet_rules.proofs.ChangedCells.{part_kept, changed_positions, undamaged}
use Rattle.cell_damage.specs.declared.limits.TheConstants.{MOST_RECTANGLES}
use Rattle.cell_damage.specs.Cells.{damage_of}
use Rattle.cell_damage.proofs.Points.{IsInside, cell_damaged, cells_inside, cells_few}
use Rattle.sheet_cells.specs.declared.limits.TheConstants.{COLUMNS, ROWS}
use Rattle.sheet_rules.specs.declared.limits.TheConstants.{PART_WIDTH, PART_HEIGHT}
use Rattle.sheet_rules.proofs.Soundness.{cursor_part, parts_stay, step_sound}

-- the parts are as many, and all but one as they were
pub record KeepsOthers (old new : Parts) (n : ℕ) : Type 0 where
  pub many : length new ≡ length old
  pub others : (k : ℕ) → k ≢ n → part_at new k ≡ part_at old k

all_kept : (parts : Parts) (n : ℕ) → KeepsOthers parts parts n
all_kept parts n = record { many = refl; others = λ k apart. refl }

other_part : (parts : Parts) (at : CellRef) (raw : List ℕ) (k : ℕ) → k ≢ at.part → part_at (with_cell parts at raw) k ≡ part_at parts k
unfolding with_cell
other_part parts at raw k apart = rw get_or-set_other refl

cell_kept : (parts : Parts) (at : CellRef) (raw : List ℕ) → KeepsOthers parts (with_cell parts at raw) at.part
cell_kept parts at raw = record { many = parts_stay parts at raw; others = other_part parts at raw }

written_kept : (c : Sheet) (view : ℕ) (a : Cursor) (raw : List ℕ) → KeepsOthers c.parts (written c view a raw).parts a.at.part
written_kept c view a raw = by (fits c.parts a.at raw)
  where
    by : (b : Bool) → KeepsOthers c.parts (if b then record { parts = with_cell c.parts a.at raw; cursors = insert_entry nat_cmp c.cursors view a } else c).parts a.at.part
    by true = cell_kept c.parts a.at raw
    by false = all_kept c.parts a.at.part

carried_out_kept : (c : Sheet) (view : ℕ) (at : CellRef) (meaning : Meaning) → KeepsOthers c.parts (carried_out c view at meaning).parts at.part
carried_out_kept c view at Stays = all_kept c.parts at.part
carried_out_kept c view at (Goes to) = all_kept c.parts at.part
carried_out_kept c view at (Writes raw fresh) = written_kept c view (record { at = at; fresh = fresh }) raw

pub step_kept : (c : Sheet) (input : Input) → KeepsOthers c.parts (stepped c input).parts input.part
step_kept c input = by (nat_lt input.part (length c.parts))
  where
    by : (b : Bool) → KeepsOthers c.parts (if b then carried_out c input.view.0 (cursor_of c.cursors input.view.0 input.part).at (meaning_of c.parts (cursor_of c.cursors input.view.0 input.part) input.part input.what) else c).parts input.part
    by true =
        let a = cursor_of c.cursors input.view.0 input.part in
        subst (λ (n : ℕ). KeepsOthers c.parts (carried_out c input.view.0 a.at (meaning_of c.parts a input.part input.what)).parts n) (cursor_part c.cursors input.view.0 input.part)
        (carried_out_kept c input.view.0 a.at (meaning_of c.parts a input.part input.what))
    by false = all_kept c.parts input.part

-- ---- colours

-- a cell whose point isn't damaged shows what it showed
same_shown : (old new : Part) (part x y : ℕ) → list_any (λ d. hurts_point d part x y) (damage_of part (changed_cells old new)) ≡ false → shown_at new (y / 240, x / 960) ≡ shown_at old (y / 240, x / 960)
same_shown old new part x y away =
    let p : Position = (y / 240, x / 960) in
    ⊎_elim
    (λ (e : bytes_eq (shown_at old p) (shown_at new p) ≡ true). sym (same_text (shown_at old p) (shown_at new p) (sym e)))
    (λ (e : bytes_eq (shown_at old p) (shown_at new p) ≡ false).
    absurd (both_ways _ away (cell_damaged part x y (changed_cells old new) (Contains-from_any (tells_apart exact_positions) p (changed_cells old new) (changed_listed old new p ∙ ap not e)))))
    (cases_Bool (bytes_eq (shown_at old p) (shown_at new p)))

shown_kept : (old new : Parts) (n part x y : ℕ) → KeepsOthers old new n → list_any (λ d. hurts_point d part x y) (damage_between old new n) ≡ false → shown_of new (cell_at part x y) ≡ shown_of old (cell_at part x y)
unfolding shown_of
shown_kept old new n part x y kept away =
    ⊎_elim
    (λ (e : part ≡ n). same_shown (part_at old part) (part_at new part) part x y (subst (λ (m : ℕ). list_any (λ d. hurts_point d part x y) (damage_between old new m) ≡ false) (sym e) away))
    (λ (apart : part ≡ n → ⊥). ap (λ (s : Part). shown_at s (y / 240, x / 960)) (kept.others part apart))
    (cases_eq part n)

pub colour_kept : (old new : Parts) (n nviewid part x y : ℕ) → KeepsOthers old new n → list_any (λ d. hurts_point d part x y) (damage_between old new n) ≡ false → colour_of new nviewid part x y ≡ colour_of old nviewid part x y
unfolding colour_of
colour_kept old new n nviewid part x y kept away =
    ap (λ (m : ℕ). if nat_lt part m && is_inside x y then cell_colour (has_lines nviewid) (shown_of new (cell_at part x y)) (x % 960) (y % 240) else white) kept.many
    ∙ ap (λ (s : List ℕ). if nat_lt part (length old) && is_inside x y then cell_colour (has_lines nviewid) s (x % 960) (y % 240) else white) (shown_kept old new n part x y kept away)

pub step_covered : (c : Sheet) (input : Input) (nviewid part x y : ℕ) → list_any (λ d. hurts_point d part x y) (step_damage c input) ≡ false → colour_of (stepped c input).parts nviewid part x y ≡ colour_of c.parts nviewid part x y
step_covered c input nviewid part x y away = colour_kept c.parts (stepped c input).parts input.part nviewid part x y (step_kept c input) away

-- ---- damage

pub step_few : (c : Sheet) (input : Input) → length (step_damage c input) ≤ MOST_RECTANGLES
step_few c input = cells_few input.part (changed_cells (part_at c.parts input.part) (part_at (stepped c input).parts input.part))

pub step_inside : (c : Sheet) (input : Input) → IsSheet c → AllByRecursion (IsInside PART_WIDTH PART_HEIGHT input.part) (step_damage c input)
step_inside c input sound =
    cells_inside ROWS COLUMNS input.part (changed_cells (part_at c.parts input.part) (part_at (stepped c input).parts input.part))
    (changed_positions (part_at c.parts input.part) (part_at (stepped c input).parts input.part) (part_kept c.parts input.part sound.book.each) (part_kept (stepped c input).parts input.part (step_sound c input sound).book.each))

-- where the part isn't there, nothing is damaged
pub step_nowhere : (c : Sheet) (input : Input) → nat_lt input.part (length c.parts) ≡ false → step_damage c input ≡ []
step_nowhere c input e =
    ap (λ (b : Bool). damage_between c.parts (if b then carried_out c input.view.0 (cursor_of c.cursors input.view.0 input.part).at (meaning_of c.parts (cursor_of c.cursors input.view.0 input.part) input.part input.what) else c).parts input.part) e
    ∙ undamaged (part_at c.parts input.part) input.part
