-- What a key means: by its code, and else by its char.
use Rattle.std.specs.Prelude.{ℕ, Bool, ◌&&◌, ◌||◌, not, nat_lt, nat_le, nat_eq, List, [], ◌∷◌, Option, Some, None, if◌then◌else◌}
use Rattle.kit_trait.specs.declared.keys.KeyCode.{KeyCode}
use Rattle.kit_trait.specs.declared.keys.KeyCode.TheVariants.{Down, Up, Left, Right, Home, End, Return, Tab, Backspace, Delete}

-- the codes of the keys that act by their code
abbrev pub codes_of_keys : List (ℕ × KeyCode)
codes_of_keys =
    (1024, Down) ∷ (1025, Up) ∷ (1026, Left) ∷ (1027, Right) ∷ (1028, Home) ∷ (1029, End)
    ∷ (1280, Return) ∷ (1282, Tab) ∷ (1283, Backspace) ∷ (1286, Delete) ∷ []

-- the key with the code in such a list, where there is one
abbrev pub key_in : List (ℕ × KeyCode) → ℕ → Option KeyCode
key_in [] code = None
key_in (entry ∷ entries) code = if nat_eq code entry.0 then Some entry.1 else key_in entries code

-- the key with the code, where it acts by its code
abbrev pub key_with : ℕ → Option KeyCode
key_with code = key_in codes_of_keys code

-- a Unicode scalar value
abbrev pub is_scalar : ℕ → Bool
is_scalar c = nat_lt c 55296 || (nat_le 57344 c && nat_lt c 1114112)

-- whether a char is typed: a Unicode scalar value of at least 32 that isn't 127
abbrev pub is_typed : ℕ → Bool
is_typed c = is_scalar c && (nat_le 32 c && not (nat_eq c 127))
