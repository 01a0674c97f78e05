-- What the program tells where it can't replay.
use Rattle.std.specs.Prelude.{ℕ, List, Option, codes, ◌⊎◌}
use Rattle.outside.specs.Causes.{Rose}
use Rattle.outside.specs.Streams.{Adds}
use Rattle.script_lines.specs.Records.{AddsPart}
use Rattle.coolwsd.specs.declared.program.WordsFault.{WordsFault}
use Rattle.coolwsd.specs.declared.program.WordsFault.TheVariants.{Memory, NotText}

-- the exit status where the words of the command line can't be had
abbrev pub code_of_fault : WordsFault → ℕ
code_of_fault Memory = 6
code_of_fault NotText = 2

-- the line that says how the program is called
abbrev pub usage : List ℕ
usage = codes "usage: coolwsd replay <patch or sheet>, or coolwsd host --port <n> --folder <dir>\n"

-- the usage was written; or its sink failed, and a front of it was
abbrev pub TellsUsage : (before now : Option (List ℕ)) (faults faults_now : ℕ) → Type 0
TellsUsage before now faults faults_now = Adds before usage now ⊎ (AddsPart before usage now × Rose faults faults_now)
