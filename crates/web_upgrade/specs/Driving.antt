-- How far a handshake over a stream came.
use Rattle.std.specs.Prelude.{◌≡◌, [], ⊤}
use Rattle.web_upgrade.specs.Stages.{Shaking}
use Rattle.web_upgrade.specs.declared.shakes.Driven.{Driven}
use Rattle.web_upgrade.specs.declared.shakes.Driven.TheVariants.{Waits, Opens, Ends}
use Rattle.web_upgrade.specs.declared.upgrading.Stage.TheVariants as At

-- One that opens was accepted, and all of the answer has left.
abbrev pub IsDriven : Shaking → Driven → Type 0
IsDriven shaking Waits = ⊤
IsDriven shaking Opens = (shaking.stage ≡ At.Opens) × (shaking.left ≡ [])
IsDriven shaking Ends = ⊤
