use Rattle.std.proofs.Common.{subst}
use Rattle.script_lines.specs.Grammar.{role}
use Rattle.script_lines.specs.Advances.{Advances}
use Rattle.cool_script.proofs.Lines.{carried_out}
use Rattle.cool_script.proofs.script.Script.take_line.Goals as goal

pub returns-in-Acts-clause-answers : goal.returns-in-Acts-clause-answers
returns-in-Acts-clause-answers g c =
    carried_out g.K.Kit.rules g.K.Kit.cut c.self.inside.position c.advance.new.self c.self.inside.world c.carry_out.new.world c.args.self.now c.args.line.now c.args.number c.in-Acts.said c.carry_out.result _ _
    c.self.view_is (subst (λ j. Advances j (role c.self.inside.position c.args.line.now) c.self.inside.position c.advance.new.self) c.in-Acts.is c.in-Ok.ensures.ok) c.carry_out.ensures.carries_out
