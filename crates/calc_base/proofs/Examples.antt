-- A small part, computed: 1 and 5 read 0, 2 and 3 read each other, 4 stands outside and reads 3 and 0. Each cell has one more than the sum of what it reads, and 99 is the error.
use Rattle.std.proofs.Common.{◌≡◌, ℕ, suc, true, false, List, [], ◌∷◌, map, sum, refl}
use Rattle.std.specs.Prelude.{◌==◌, if◌then◌else◌}
use Rattle.calc_base.specs.Walks.{circular}
use Rattle.calc_base.specs.Values.{value}

reads : ℕ → List ℕ
reads c =
    if c == 1 then 0 ∷ [] else
    if c == 2 then 3 ∷ [] else
    if c == 3 then 2 ∷ [] else
    if c == 4 then 3 ∷ 0 ∷ [] else
    if c == 5 then 1 ∷ 1 ∷ [] else []

formulas : List ℕ
formulas = 1 ∷ 2 ∷ 3 ∷ 4 ∷ 5 ∷ []

step : ℕ → (ℕ → ℕ) → ℕ
unfolding reads
step c look = suc (sum (map look (reads c)))

cells : List ℕ
cells = 0 ∷ 1 ∷ 2 ∷ 3 ∷ 4 ∷ 5 ∷ 6 ∷ []

circular_ones : map (circular reads formulas) cells ≡ false ∷ false ∷ true ∷ true ∷ true ∷ false ∷ false ∷ []
unfolding circular reads formulas cells
circular_ones = refl

-- the cell outside the circle that reads it has the error too, and no other cell has it
values_of_cells : map (value 99 reads formulas step) cells ≡ 1 ∷ 2 ∷ 99 ∷ 99 ∷ 99 ∷ 5 ∷ 1 ∷ []
unfolding circular value reads formulas step cells
values_of_cells = refl
