-- What a line makes of a position.
use Rattle.std.specs.Prelude.{◌≡◌}
use Rattle.script_lines.specs.Grammar.{Role, Acts as ActsBy, Ends as EndsBy, Refused as RefusedBy}
use Rattle.script_lines.specs.Positions.{Position}
use Rattle.script_lines.specs.declared.position.LineRole.{LineRole}
use Rattle.script_lines.specs.declared.position.LineRole.TheVariants.{Acts, Ends, Refused}

-- a line that acts leads to the position after it; another leaves the position as it is
abbrev pub Advances : LineRole → Role → Position → Position → Type 0
Advances (Acts line) role old new = role ≡ ActsBy line new
Advances Ends role old new = (role ≡ EndsBy) × (new ≡ old)
Advances Refused role old new = (role ≡ RefusedBy) × (new ≡ old)
