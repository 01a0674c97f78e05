-- The laws of the sheet document.
use Rattle.std.proofs.Common.{◌≡◌, ℕ, zero, suc, ◌+◌, ◌<◌, ◌≤◌, Bool, true, false, nat_lt, List, [], ◌∷◌, length, Result, Ok, Err, ap, sym, ◌∙◌, subst, arith, lit≤, lit<, if◌then◌else◌, ltb-true, ltb-false, lt-ltb}
pub use Rattle.std.proofs.Common.{refl}
use Rattle.std.specs.List.{list_any, AllByRecursion}
use Rattle.std.specs.Result.{is_ok}
use Rattle.std.specs.List.Sorted.{IsStrictlySortedBy}
use Rattle.sheet_rules.specs.declared.cursors.Cursor.{Cursor}
use Rattle.kit_trait.specs.declared.values.Input.{Input}
use Rattle.kit_trait.specs.declared.values.Damage.{Damage}
use Rattle.kit_trait.specs.Rules.{shown, hurts_point, IsWithin, ReadsAs}
use Rattle.part_calc.specs.Text.{part_lines}
use Rattle.part_calc.proofs.LengthLaws.{one_digit}
use Rattle.sheet_calc.specs.Books.{Parts, IsBook}
use Rattle.sheet_calc.proofs.BookLaws.{text_is}
use Rattle.sheet_calc.specs.FileText.{all_lines, file_text}
use Rattle.sheet_file.specs.declared.fault.BookFault.{BookFault}
use Rattle.sheet_file.specs.declared.fault.BookFault.TheVariants.{TooLarge}
use Rattle.sheet_file.specs.BookFile.{book_of, lines_read}
use Rattle.sheet_file.specs.Lines.{lines_of}
use Rattle.sheet_file.proofs.FileLaws.{file_is_read, read_is_book, read_is_written}
use Rattle.sheet_calc.specs.declared.limits.TheConstants.{FILE_LIMIT}
use Rattle.sheet_rules.specs.declared.limits.TheConstants.{PART_WIDTH, PART_HEIGHT}
use Rattle.sheet_rules.specs.Typing.{Sheet, stepped}
use Rattle.sheet_rules.specs.Damage.{step_damage}
use Rattle.sheet_rules.specs.Colours.{colour_of}
use Rattle.sheet_rules.specs.Sheets.{IsSheet}
use Rattle.cell_damage.proofs.Points.{IsInside}
use Rattle.sheet_rules.proofs.Soundness.{step_sound}
use Rattle.sheet_rules.proofs.Covering.{step_kept, step_covered, step_few, step_inside, step_nowhere}
use Rattle.tile_key.specs.Places.{Place, IsArea}
use Rattle.sheet_rules.proofs.CutLaws.{cut_shows}
use Rattle.sheet_kit.specs.SheetKind.{said_parts, opened, sheet_kind}
use Rattle.sheet_kit.specs.Seen.{scene_picture, sheet_cut}

-- ---- a file's document is sound

cursors_none : (parts : Parts) → IsBook parts → length (file_text parts) ≤ FILE_LIMIT → IsSheet (record { parts = parts; cursors = [] })
cursors_none parts book short = record { book = book; short = short; cursors = tt }

no_lines : 0 ≡ length (all_lines 0 ([] ∷ []))
unfolding part_lines
no_lines = refl

blank_short : length (file_text ([] ∷ [])) ≤ FILE_LIMIT
blank_short = subst (λ (n : ℕ). n ≤ FILE_LIMIT) (text_is ([] ∷ []) 1 0 (one_digit 1 (lit< tt)) no_lines) (lit≤ tt)

blank_sound : IsSheet (record { parts = [] ∷ []; cursors = [] })
unfolding IsStrictlySortedBy
blank_sound = cursors_none ([] ∷ []) (record { some = lit≤ tt; few = lit≤ tt; each = (record { ordered = tt; entries = tt }, tt) }) blank_short

no_larger : (file : List ℕ) (parts : Parts) → book_of file ≡ Ok parts → length file ≤ FILE_LIMIT
unfolding book_of
no_larger file parts e = by (nat_lt FILE_LIMIT (length file)) refl e
  where
    by : (b : Bool) → nat_lt FILE_LIMIT (length file) ≡ b → (if b then Err TooLarge else lines_read (lines_of file)) ≡ Ok parts → length file ≤ FILE_LIMIT
    by true h told = cc
    by false h told = ltb-false FILE_LIMIT (length file) h

-- a file of more than 2,097,152 (`FILE_LIMIT`) bytes is no book
pub too_large : (file : List ℕ) → FILE_LIMIT < length file → is_ok (book_of file) ≡ false
unfolding book_of
too_large file h = rw (lt-ltb FILE_LIMIT (length file) h) refl

empty_says : (parts : Parts) → book_of [] ≡ Ok parts → parts ≡ [] ∷ []
unfolding book_of lines_of
empty_says parts e = cc

file_short : (file : List ℕ) (parts : Parts) → book_of file ≡ Ok parts → length (file_text parts) ≤ FILE_LIMIT
file_short [] parts e = subst (λ (ps : Parts). length (file_text ps) ≤ FILE_LIMIT) (sym (empty_says parts e)) blank_short
file_short (c ∷ file) parts e = subst (λ (s : List ℕ). length s ≤ FILE_LIMIT) (read_is_written (c ∷ file) parts (omega arith) e) (no_larger (c ∷ file) parts e)

file_sound : (file : List ℕ) (r : Result Parts BookFault) → book_of file ≡ r → IsSheet (record { parts = said_parts r; cursors = [] })
file_sound file (Ok parts) e = cursors_none parts (read_is_book file parts e) (file_short file parts e)
file_sound file (Err fault) e = blank_sound

pub read_sound : (file : List ℕ) (parts : Parts) (cursors : List (ℕ × Cursor)) → book_of file ≡ Ok parts → cursors ≡ [] → IsSheet (record { parts = parts; cursors = cursors })
read_sound file parts cursors e none = subst (λ (ks : List (ℕ × Cursor)). IsSheet (record { parts = parts; cursors = ks })) (sym none) (file_sound file (Ok parts) e)

pub sound_start : (file : List ℕ) → IsSheet (opened file)
sound_start file = file_sound file (book_of file) refl

pub sound_step : (c : Sheet) (input : Input) → IsSheet c → IsSheet (stepped c input)
sound_step c input sound = step_sound c input sound

-- ---- what an input damages

pub covered : (c : Sheet) (input : Input) (nviewid part x y : ℕ) → IsSheet c
    → list_any (λ d. hurts_point d part x y) (step_damage c input) ≡ false
    → colour_of (stepped c input).parts nviewid part x y ≡ colour_of c.parts nviewid part x y
covered c input nviewid part x y sound away = step_covered c input nviewid part x y away

-- ---- scenes

pub pictures : (c : Sheet) (place : Place) → IsSheet c → IsArea place → place.part < length c.parts
    → scene_picture (sheet_cut c place) ≡ shown sheet_kind c place
pictures c place sound area part = cut_shows c.parts place area part

-- ---- where damage lies

each_within : (c : Sheet) (part : ℕ) (ds : List Damage) → part < length c.parts → AllByRecursion (IsInside PART_WIDTH PART_HEIGHT part) ds → AllByRecursion (IsWithin sheet_kind c) ds
each_within c part [] h all = tt
each_within c part (d ∷ ds) h all =
    (record { part = omega (arith, h, all.0.part_is); right = all.0.rect.right; lower = all.0.rect.lower }, each_within c part ds h all.1)

pub within : (c : Sheet) (input : Input) → IsSheet c → AllByRecursion (IsWithin sheet_kind c) (step_damage c input)
within c input sound = by (nat_lt input.part (length c.parts)) refl
  where
    by : (b : Bool) → nat_lt input.part (length c.parts) ≡ b → AllByRecursion (IsWithin sheet_kind c) (step_damage c input)
    by true e = each_within c input.part (step_damage c input) (ltb-true input.part (length c.parts) e) (step_inside c input sound)
    by false e = subst (AllByRecursion (IsWithin sheet_kind c)) (sym (step_nowhere c input e)) tt

pub few : (c : Sheet) (input : Input) → IsSheet c → length (step_damage c input) ≤ 256
few c input sound = step_few c input

-- ---- the file, the parts

pub reads_back : (c : Sheet) → IsSheet c → ReadsAs sheet_kind (file_text c.parts) c
reads_back c sound =
    let read = file_is_read c.parts sound.book sound.short in
    record { accepted = ap is_ok read; body = ap said_parts read }

pub some_part : (c : Sheet) → IsSheet c → 1 ≤ length c.parts
some_part c sound = sound.book.some

pub same_parts : (c : Sheet) (input : Input) → IsSheet c → length (stepped c input).parts ≡ length c.parts
same_parts c input sound = (step_kept c input).many
