-- How far a handshake is.
use Rattle.std.specs.Prelude.{ℕ, ◌≡◌, List, [], drop}
use Rattle.web_upgrade.specs.Refusals.{refusal_bytes}
use Rattle.web_upgrade.specs.Judging.{Judges, accept_bytes}
use Rattle.web_upgrade.specs.declared.judging.Judged.{Judged}
use Rattle.web_upgrade.specs.declared.judging.Judged.TheVariants as Bytes
use Rattle.web_upgrade.specs.declared.upgrading.Stage.{Stage}
use Rattle.web_upgrade.specs.declared.upgrading.Stage.TheVariants as At

-- A handshake: its stage, the bytes that came, and those that are still to be said.
pub record Shaking : Type 0 where
  pub stage : Stage
  pub heard : List ℕ
  pub left : List ℕ

-- The handshake once its bytes were judged.
abbrev pub shaking_after : List ℕ → Judged → Shaking
shaking_after bytes Bytes.Begun = record { stage = At.Hears; heard = bytes; left = [] }
shaking_after bytes (Bytes.Upgrades accept len) =
    record { stage = At.Opens; heard = drop len bytes; left = accept_bytes accept }
shaking_after bytes (Bytes.Refused why) =
    record { stage = At.Ends; heard = bytes; left = refusal_bytes why }

-- All bytes that came are judged.
abbrev pub Hears : List ℕ → Shaking → Type 0
Hears bytes new = (judged : Judged) × Judges bytes judged × (new ≡ shaking_after bytes judged)
