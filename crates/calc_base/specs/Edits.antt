-- What an edit leaves alone: cells whose reads and steps stay, and which read such cells alone.
use Rattle.std.specs.Prelude.{◌≡◌, ◌⊎◌, Bool, true, List, Option, None, if◌then◌else◌}
use Rattle.std.specs.List.{list_any, list_all}
use Rattle.std.specs.Option.{is_none}
use Rattle.calc_base.specs.Walks.{circular}
use Rattle.calc_base.specs.Laws.{IsLost}

-- the kept cells read and step after an edit as before it, and read kept cells alone
pub record IsApart {K V : Type 0} (reads reads' : K → List K) (step step' : K → (K → V) → V) (kept : K → Bool) : Type 0 where
  pub same_reads : (c : K) → kept c ≡ true → reads' c ≡ reads c
  pub same_step : (c : K) (f : K → V) → kept c ≡ true → step' c f ≡ step c f
  pub closed : (c : K) → kept c ≡ true → list_all kept (reads c) ≡ true

-- of what was found, that of kept cells
abbrev pub found_kept : {K V : Type 0} → (K → Bool) → (K → Option V) → K → Option V
found_kept kept seen c = if kept c then seen c else None

-- each cell that was not found is circular
abbrev pub IsFull : {K V : Type 0} → (K → List K) → List K → (K → Option V) → Type 0
IsFull {K} reads formulas seen = (c : K) → IsLost seen c → circular reads formulas c ≡ true

-- each cell that was not found reads another such cell, or is circular
abbrev pub EachWaitsOrCircles : {K V : Type 0} → (K → List K) → List K → (K → Option V) → Type 0
EachWaitsOrCircles {K} reads formulas seen =
    (c : K) → IsLost seen c → (list_any (λ r. is_none (seen r)) (reads c) ≡ true) ⊎ (circular reads formulas c ≡ true)
