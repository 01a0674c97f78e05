use Rattle.std.proofs.Common.{sym, subst}
use Rattle.document_machine.specs.Message.{becomes, cancels}
use Rattle.view_session.specs.Viewing.{Viewing}
use Rattle.broker_core.specs.Hearing.{Hears}
use Rattle.broker_core.specs.Members.{view_of}
use Rattle.broker_core.specs.declared.hearing.Outcome.TheVariants.{Nothing}
use Rattle.broker_core.proofs.Changes.{cancel_hears, with_viewing}
use Rattle.broker_core.proofs.members.Member.cancel.Goals as goal

pub returns : goal.returns
returns c = λ sizes seen.
    let member = c.args.self.now in
    subst (λ (x : Viewing). Hears sizes member (becomes (cancels sizes (view_of member))) Nothing (with_viewing member x)) (sym c.cancel.ensures) (cancel_hears sizes member seen)
