use Rattle.document_laws.proofs.Lower as Law
use Rattle.document_laws.proofs.at_once_lowers.Goals as goal

pub returns : goal.returns
returns g c =
    λ old mid new outs later works kept run. Law.at_once_lowers g.K.Kit.rules g.K.Kit.cut old mid
    new outs later works kept run
