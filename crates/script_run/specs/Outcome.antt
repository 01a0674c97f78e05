-- How a script ended, with the counts of faults that show who failed.
use Rattle.std.specs.Prelude.{ℕ, ◌≡◌, List}
use Rattle.outside.specs.Causes.{HasCause}
use Rattle.script_lines.specs.Positions.{Position}
use Rattle.script_run.specs.declared.status.Status.{Status}
use Rattle.script_run.specs.declared.status.Status.TheVariants.{ReadFault, WriteFault}
use Rattle.script_run.specs.Transcript.{Ended}
use Rattle.script_run.specs.Uses.{SourceUse, SinkUse}

-- The script ended so, the source's count rose exactly where the status says that it failed, and the
-- sink's likewise.
pub record Outcome {X : Type 0} (position : X → Position) (step : X → List ℕ → List ℕ → X → Type 0) (under : X → List ℕ → List ℕ → Type 0)
    (first : X) (source : SourceUse) (sink : SinkUse) (status : Status) : Type 0 where
  pub ended : Ended position step under first source sink status
  pub read : HasCause source.faults source.faults_now (status ≡ ReadFault)
  pub write : HasCause sink.faults sink.faults_now (status ≡ WriteFault)
