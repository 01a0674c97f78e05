use Rattle.document_laws.proofs.Rank as Law
use Rattle.document_laws.proofs.rank_counts.Goals as goal

pub returns : goal.returns
returns g c = λ d apart. Law.rank_counts g.K.Kit.rules d apart
