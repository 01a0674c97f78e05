use Rattle.document_laws.proofs.Idle as Law
use Rattle.document_laws.proofs.idle_exactly.Goals as goal

pub returns-clause-idle : goal.returns-clause-idle
returns-clause-idle g c = λ kept d le rest. Law.idle_by g.K.Kit.rules kept d le rest

pub returns-clause-rests : goal.returns-clause-rests
returns-clause-rests g c = λ d rests. Law.rests_pick g.K.Kit.rules d rests

pub returns-clause-next : goal.returns-clause-next
returns-clause-next g c = λ kept d id key some. Law.next_is g.K.Kit.rules kept d id key some
