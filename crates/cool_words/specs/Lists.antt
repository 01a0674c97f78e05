-- Lists of numbers.
use Rattle.std.specs.Prelude.{ℕ, Bool, ◌&&◌, ◌++◌, ◌==◌, nat_le, List, [], ◌∷◌, length, map, Option, is_some, unwrap_or}
use Rattle.std.specs.List.{list_all, slice_split, flat_map}
use Rattle.std.specs.Fmt.{decimal}
use Rattle.cool_words.specs.declared.lists.TheConstants.{MOST_NUMBERS}

-- the parts between single commas
abbrev pub parts : List ℕ → List (List ℕ)
parts text = slice_split (λ byte. byte == 44) text

-- whether the text is 1 to 1,024 (`MOST_NUMBERS`) of these numbers, separated by single commas
abbrev pub is_list : (List ℕ → Option ℕ) → List ℕ → Bool
is_list read text = nat_le (length (parts text)) MOST_NUMBERS && list_all (λ part. is_some (read part)) (parts text)

-- the number that a text is, and 0 for a text that is none
abbrev pub number_in : (List ℕ → Option ℕ) → List ℕ → ℕ
number_in read text = unwrap_or (read text) 0

-- the numbers of such a list
abbrev pub numbers : (List ℕ → Option ℕ) → List ℕ → List ℕ
numbers read text = map (number_in read) (parts text)

-- a comma and a number behind it
abbrev pub comma_and : ℕ → List ℕ
comma_and number = 44 ∷ decimal number

-- the numbers as they are written, separated by single commas
abbrev pub list_text : List ℕ → List ℕ
list_text [] = []
list_text (number ∷ more) = decimal number ++ flat_map comma_and more
