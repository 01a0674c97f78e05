-- Lines of bytes: what a line is, and what a reading of one takes.
use Rattle.std.specs.Prelude.{ℕ, ◌≡◌, ◌≢◌, ◌<◌, ◌≤◌, List, [], ◌∷◌, ◌++◌, length}
use Rattle.std.specs.List.{AllByRecursion}
use Rattle.script_lines.specs.declared.line.LineStep.{LineStep}
use Rattle.script_lines.specs.declared.line.LineStep.TheVariants.{Whole, Last, End, TooLong, Spent, Failed, Memory}

-- no byte is a newline
abbrev pub IsUnbroken : List ℕ → Type 0
IsUnbroken bytes = AllByRecursion (λ c. c ≢ 10) bytes

-- a line without its newline: no byte is one, and there are at most 70,000
pub record IsLine (line : List ℕ) : Type 0 where
  pub unbroken : IsUnbroken line
  pub short : length line ≤ 70000

-- the lines one after the other, each with a newline behind it
abbrev pub joined : List (List ℕ) → List ℕ
joined [] = []
joined (line ∷ lines) = line ++ 10 ∷ joined lines

-- what a reading took off the source, by its answer and the line that it leaves
abbrev pub Gave : LineStep → List ℕ → List ℕ → Type 0
Gave Whole line read = IsLine line × (read ≡ line ++ 10 ∷ [])
Gave Last line read = IsLine line × (read ≡ line) × (0 < length line)
Gave End line read = read ≡ []
Gave TooLong line read = IsUnbroken read × (length read ≡ 70001)
Gave Spent line read = IsLine read
Gave Failed line read = IsLine read
Gave Memory line read = IsLine read

-- the fact holds where the answer says that the source ended
abbrev pub IfEnded : LineStep → Type 0 → Type 0
IfEnded Whole P = Unit {0}
IfEnded Last P = P
IfEnded End P = P
IfEnded TooLong P = Unit {0}
IfEnded Spent P = Unit {0}
IfEnded Failed P = Unit {0}
IfEnded Memory P = Unit {0}
