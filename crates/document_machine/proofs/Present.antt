-- When a tile is the present one.
use Rattle.std.proofs.Common.{◌≡◌, ℕ, zero, suc, ◌<◌, ◌≤◌, false, List, refl, arith}
use Rattle.std.specs.Prelude.{nat_le}
use Rattle.std.proofs.lemmas.Bool.Decides.{nat_tests}
use Rattle.kit_trait.specs.Rules.{Rules}
use Rattle.kit_trait.specs.declared.values.Input.{Input}
use Rattle.tile_key.specs.Places.{Place}
use Rattle.document_machine.specs.Due.{touched}

-- a number below another is not above it
pub not_le : (m n : ℕ) → n < m → nat_le m n ≡ false
not_le m n lt = grind (arith, nat_tests)

-- no input at or below the version touched it
pub untouched : {C B : Type 0} (rules : Rules C B) (base : List ℕ) (journal : List Input) (version : ℕ) (key : Place) (n : ℕ) → n ≤ version → touched rules base journal version key n ≡ false
untouched rules base journal version key zero le = refl
untouched rules base journal version key (suc n) le =
    rw (untouched rules base journal version key n (omega arith), not_le version n (omega arith)) refl
