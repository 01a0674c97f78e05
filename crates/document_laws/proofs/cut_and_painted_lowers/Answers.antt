use Rattle.document_laws.proofs.Lower as Law
use Rattle.document_laws.proofs.cut_and_painted_lowers.Goals as goal

pub returns : goal.returns
returns g c =
    λ old mid new outs later job cuts kept one step. Law.cut_and_painted_lowers g.K.Kit.rules
    g.K.Kit.cut old mid new outs later job cuts kept one step
