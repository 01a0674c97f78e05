-- What is asked of reads and steps, and the laws of circular cells and of values.
use Rattle.std.specs.Prelude.{◌≡◌, ◌⊎◌, true, false, List, [], Option, Some, unwrap_or, if◌then◌else◌}
use Rattle.std.specs.List.{AllByRecursion, Contains, list_any, list_all}
use Rattle.std.specs.Option.{is_some, is_none}
use Rattle.calc_base.specs.Walks.{circular}
use Rattle.calc_base.specs.Values.{value}

-- a cell that reads a cell is among the formula cells
abbrev pub Covers : {K : Type 0} → (K → List K) → List K → Type 0
Covers {K} reads formulas = (c : K) → (reads c ≡ []) ⊎ Contains formulas c

-- a step looks only at the cells that its cell reads
abbrev pub IsLocal : {K V : Type 0} → (K → List K) → (K → (K → V) → V) → Type 0
IsLocal {K} {V} reads step = (c : K) (f g : K → V) → AllByRecursion (λ r. f r ≡ g r) (reads c) → step c f ≡ step c g

-- each cell has the error where it is circular, and else what the step makes of the values of all cells
abbrev pub Follows : {K V : Type 0} → V → (K → List K) → List K → (K → (K → V) → V) → (K → V) → Type 0
Follows {K} error reads formulas step v = (c : K) → v c ≡ (if circular reads formulas c then error else step c v)

-- some cells were found to be not circular, each with its value
abbrev pub IsSound : {K V : Type 0} → V → (K → List K) → List K → (K → (K → V) → V) → (K → Option V) → Type 0
IsSound {K} {V} error reads formulas step seen = (c : K) (v : V) → seen c ≡ Some v → (circular reads formulas c ≡ false) × (value error reads formulas step c ≡ v)

-- each cell that this one reads was found
abbrev pub IsReady : {K V : Type 0} → (K → List K) → (K → Option V) → K → Type 0
IsReady reads seen c = list_all (λ r. is_some (seen r)) (reads c) ≡ true

-- the cell isn't circular, and has the value that the step makes of what was found
abbrev pub HasItsValue : {K V : Type 0} → V → (K → List K) → List K → (K → (K → V) → V) → (K → Option V) → K → Type 0
HasItsValue error reads formulas step seen c =
    (circular reads formulas c ≡ false) × (value error reads formulas step c ≡ step c (λ r. unwrap_or (seen r) error))

-- the cell was not found
abbrev pub IsLost : {K V : Type 0} → (K → Option V) → K → Type 0
IsLost seen c = is_none (seen c) ≡ true

-- each cell that was not found reads another such cell
abbrev pub EachWaits : {K V : Type 0} → (K → List K) → (K → Option V) → Type 0
EachWaits {K} reads seen = (c : K) → IsLost seen c → list_any (λ r. is_none (seen r)) (reads c) ≡ true
