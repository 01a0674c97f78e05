-- The sheet document as plain functions.
use Rattle.std.specs.Prelude.{ℕ, List, [], ◌∷◌, length, Result, Ok, Err, is_ok}
use Rattle.kit_trait.specs.declared.values.KitName.TheVariants.{Sheet as SheetName}
use Rattle.kit_trait.specs.Rules.{Rules}
use Rattle.sheet_calc.specs.Books.{Parts}
use Rattle.sheet_calc.specs.FileText.{file_text}
use Rattle.sheet_file.specs.declared.fault.BookFault.{BookFault}
use Rattle.sheet_file.specs.BookFile.{book_of}
use Rattle.sheet_rules.specs.declared.limits.TheConstants.{PART_WIDTH, PART_HEIGHT}
use Rattle.sheet_rules.specs.Typing.{Sheet, stepped}
use Rattle.sheet_rules.specs.Damage.{step_damage}
use Rattle.sheet_rules.specs.Colours.{colour_of}

-- what a file says; one part without cells where it says no book
abbrev pub said_parts : Result Parts BookFault → Parts
said_parts (Ok parts) = parts
said_parts (Err fault) = [] ∷ []

-- the document of a file: no view has a cursor yet
abbrev pub opened : List ℕ → Sheet
opened file = record { parts = said_parts (book_of file); cursors = [] }

-- the sheet document's functions; its body is its parts
abbrev pub sheet_kind : Rules Sheet Parts
sheet_kind =
    record {
      name = SheetName;
      accepts = λ file. is_ok (book_of file);
      start = opened;
      step = stepped;
      hurt = step_damage;
      body = λ c. c.parts;
      colour = colour_of;
      text = file_text;
      parts = λ parts. length parts;
      size = λ parts part. record { w = PART_WIDTH; h = PART_HEIGHT };
    }
