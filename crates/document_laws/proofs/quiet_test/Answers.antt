use Rattle.document_laws.proofs.QuietTest as Law
use Rattle.document_laws.proofs.quiet_test.Goals as goal

pub returns-clause-passed : goal.returns-clause-passed
returns-clause-passed g c = λ d test. Law.passed_is_quiet g.K.Kit.rules d test

pub returns-clause-passes : goal.returns-clause-passes
returns-clause-passes g c = λ d quiet. Law.quiet_passes g.K.Kit.rules d quiet
