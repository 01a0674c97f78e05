-- Reading by rules, from the left.
use Rattle.std.specs.Prelude.{◌≡◌, List, [], ◌∷◌, Option, Some, None, Result, Ok, Err}
use Rattle.sheet_formula.specs.declared.tokens.Token.{Token}
use Rattle.sheet_formula.specs.declared.stop.Stop.{Stop}
use Rattle.sheet_formula.specs.declared.stop.Stop.TheVariants.{Memory, NoFormula}

-- what a rule reads at the front of words and signs: a value, with what stands behind it, or nothing
abbrev pub Reading : Type 0 → Type 0
Reading A = List Token → Option (A × List Token)

-- nothing is read, and this is the value
abbrev pub pure : {A : Type 0} → A → Reading A
pure a tokens = Some (a, tokens)

-- nothing fits
abbrev pub refused : {A : Type 0} → Reading A
refused tokens = None

-- goes on behind what was read
abbrev pub on_read : {A B : Type 0} → Option (A × List Token) → (A → Reading B) → Option (B × List Token)
on_read None f = None
on_read (Some found) f = f found.0 found.1

infixl 10 ◌>>=◌
abbrev pub ◌>>=◌ : {A B : Type 0} → Reading A → (A → Reading B) → Reading B
(read >>= f) tokens = on_read (read tokens) f

-- the next word or sign
abbrev pub next : Reading Token
next [] = None
next (token ∷ tokens) = Some (token, tokens)

-- what a call gave is what the rule reads, unless memory ran out; `rest` is left after it
abbrev pub Gives : {A : Type 0} → Option (A × List Token) → Result A Stop → List Token → Type 0
Gives read (Ok x) rest = read ≡ Some (x, rest)
Gives read (Err NoFormula) rest = read ≡ None
Gives read (Err Memory) rest = Unit {0}

-- a call took what the rule reads, or left all where it reads nothing
abbrev pub Takes : {A : Type 0} → Reading A → List Token → Option A → List Token → Type 0
Takes read tokens (Some x) rest = read tokens ≡ Some (x, rest)
Takes read tokens None rest = (read tokens ≡ None) × (rest ≡ tokens)
