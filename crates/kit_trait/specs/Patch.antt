-- The patch document: one part of 16 by 16 squares of 240 twips, each with a colour, and for each view
-- a chosen square.
use Rattle.std.specs.Prelude.{◌≡◌, ℕ, ◌+◌, ◌*◌, ◌/◌, ◌%◌, ◌<◌, Bool, ◌&&◌, ◌||◌, ◌==◌, nat_eq, nat_lt, List, [], ◌∷◌, length, replicate, slice_index, slice_set, if◌then◌else◌, unwrap_or, All, refl}
use Rattle.std.specs.Ordering.{nat_cmp}
use Rattle.std.specs.BTreeMap.{insert_entry, is_at}
use Rattle.std.specs.Map.{lookup, values_of}
use Rattle.cool_base.specs.Points.{Rectangle, Extent}
use Rattle.tile_key.specs.Places.{Place}
use Rattle.kit_trait.specs.declared.values.Input.{Input}
use Rattle.kit_trait.specs.declared.values.What.{What}
use Rattle.kit_trait.specs.declared.values.What.TheVariants.{Key, Mouse}
use Rattle.kit_trait.specs.declared.values.Damage.{Damage}
use Rattle.kit_trait.specs.declared.values.KitName.TheVariants.{Patch as PatchName}
use Rattle.kit_trait.specs.Pictures.{Colour, white}
use Rattle.kit_trait.specs.Rules.{Rules}

-- the squares' colours, row by row, and the square that each view chose, in order of views
pub record Patches : Type 0 where
  pub squares : List ℕ
  pub chosen : List (ℕ × ℕ)

-- 256 squares of colour 0
unfoldable pub blank : List ℕ
blank = replicate 256 0

-- the file is the colours in order; a file of no bytes is one of zeros
abbrev pub accepts_file : List ℕ → Bool
accepts_file file = length file == 0 || length file == 256

abbrev pub squares_of : List ℕ → List ℕ
squares_of file = if length file == 256 then file else blank

-- whether the point lies in the document, and the number of the square there
abbrev pub is_inside : ℕ → ℕ → Bool
is_inside x y = nat_lt x 3840 && nat_lt y 3840

abbrev pub square_at : ℕ → ℕ → ℕ
square_at x y = y / 240 * 16 + x / 240

-- the points of a square, damaged
abbrev pub damaged_square : ℕ → Damage
damaged_square n = record { part = 0; rect = record { x = n % 16 * 240; y = n / 16 * 240; w = 240; h = 240 } }

-- the shade of a point: its square's inside the document, 255 outside it
abbrev pub shade : List ℕ → ℕ → ℕ → ℕ → ℕ
shade squares part x y = if nat_eq part 0 && is_inside x y then slice_index squares (square_at x y) else 255

abbrev pub grey : ℕ → Colour
grey c = record { red = c; green = c; blue = c; alpha = 255 }

-- the colour of a point, in both looks: its square's inside the document, white outside it
abbrev pub colour_of : List ℕ → ℕ → ℕ → ℕ → Colour
colour_of squares part x y = if nat_eq part 0 && is_inside x y then grey (slice_index squares (square_at x y)) else white

-- a square's colour with a step more, 255 becoming 0
abbrev pub raised : ℕ → ℕ
raised colour = (colour + 1) % 256

-- the square that the view chose, 0 at first
abbrev pub chosen_by : Patches → ℕ → ℕ
chosen_by c view = unwrap_or (lookup (is_at (nat_cmp view)) c.chosen) 0

-- a click inside chooses the square at its point and raises its colour; one outside changes nothing
abbrev pub clicked : Patches → ℕ → ℕ → ℕ → Patches
clicked c view x y =
    if is_inside x y then record {
      squares = slice_set c.squares (square_at x y) (raised (slice_index c.squares (square_at x y)));
      chosen = insert_entry nat_cmp c.chosen view (square_at x y);
    } else c

abbrev pub click_hurt : ℕ → ℕ → List Damage
click_hurt x y = if is_inside x y then damaged_square (square_at x y) ∷ [] else []

-- a char that isn't 0 becomes the colour of the chosen square, modulo 256; the char 0 changes nothing
abbrev pub typed : Patches → ℕ → ℕ → Patches
typed c view chr = if chr == 0 then c else record c { squares = slice_set c.squares (chosen_by c view) (chr % 256) }

-- the square is damaged where its colour changes
abbrev pub typed_hurt : Patches → ℕ → ℕ → List Damage
typed_hurt c view chr =
    if chr == 0 || slice_index c.squares (chosen_by c view) == chr % 256 then [] else damaged_square (chosen_by c view) ∷ []

abbrev pub acted : Patches → ℕ → What → Patches
acted c view (Key chr code) = typed c view chr
acted c view (Mouse x y count buttons modifier) = clicked c view x y

abbrev pub act_hurt : Patches → ℕ → What → List Damage
act_hurt c view (Key chr code) = typed_hurt c view chr
act_hurt c view (Mouse x y count buttons modifier) = click_hurt x y

-- an input acts in the one part; in any other it changes nothing
abbrev pub stepped : Patches → Input → Patches
stepped c input = if nat_eq input.part 0 then acted c input.view.0 input.what else c

abbrev pub step_hurt : Patches → Input → List Damage
step_hurt c input = if nat_eq input.part 0 then act_hurt c input.view.0 input.what else []

-- the patch document's functions
abbrev pub patch_rules : Rules Patches (List ℕ)
patch_rules =
    record {
      name = PatchName;
      accepts = accepts_file;
      start = λ file. record { squares = squares_of file; chosen = [] };
      step = stepped;
      hurt = step_hurt;
      body = λ c. c.squares;
      colour = λ squares nviewid. colour_of squares;
      text = λ squares. squares;
      parts = λ squares. 1;
      size = λ squares part. record { w = 3840; h = 3840 };
    }

-- there are 256 squares, and every chosen one is among them
pub record IsPatch (c : Patches) : Type 0 where
  pub squares : length c.squares ≡ 256
  pub chosen : All (λ n. n < 256) (values_of c.chosen)
