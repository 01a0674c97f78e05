-- Which lines take memory.
use Rattle.std.proofs.Common.{◌≡◌, true, Option, None, Some, refl}
use Rattle.script_lines.specs.Positions.{Position}
use Rattle.script_lines.specs.declared.saying.ScriptLine.{ScriptLine}
use Rattle.script_lines.specs.declared.saying.ScriptLine.TheVariants.{Open, Say, Keys, Leave, Turn, Settle, Blank, End}
use Rattle.script_lines.specs.Grammar.{is_copied, takes_memory}

-- what is copied takes memory wherever it stands
pub copied_takes : (position : Position) (said : Option ScriptLine) → is_copied said ≡ true → takes_memory position said ≡ true
copied_takes position None h = cc
copied_takes position (Some Blank) h = cc
copied_takes position (Some End) h = cc
copied_takes position (Some Settle) h = cc
copied_takes position (Some (Turn count)) h = cc
copied_takes position (Some (Say link message)) h = refl
copied_takes position (Some (Keys link typed)) h = refl
copied_takes position (Some (Leave link)) h = cc
copied_takes position (Some (Open link file writes)) h = cc
