use Rattle.std.proofs.Common.{[], ◌∷◌, refl, rules, subst}
use Rattle.net_traits.specs.Nets.{NetTold, Tells, Gives as NetGives}
use Rattle.net_traits.specs.declared.nets.Given.{Given as Answer}
use Rattle.document_machine.specs.Outputs.{nothing}
use Rattle.poll_machine.specs.Agenda.{Give}
use Rattle.poll_documents.proofs.Settling.{settles_cut, passes_sent, passes_failed, gave_so}
use Rattle.poll_documents.proofs.owned.OwnedDocument.give_bytes.Goals as goal

-- nothing was given
pub returns-in_err-give-clause-settled : goal.returns-in_err-give-clause-settled
returns-in_err-give-clause-settled g c = λ served id moment s.
    settles_cut _ _ id moment c.args.self.now (Give c.args.view.0 c.args.bytes.now ∷ []) s
    (g.N.Net.told c.args.net.now) (g.N.Net.told c.give.new.self) c.from_residual.result
    c.args.self.now (search rules) c.in_err-give.ensures.told

pub returns-in-Sent-clause-settled : goal.returns-in-Sent-clause-settled
returns-in-Sent-clause-settled g c = λ served id moment s.
    passes_sent _ _ id moment c.args.self.now c.args.view.0 c.args.link.0 c.args.bytes.now s
    (g.N.Net.told c.args.net.now) (g.N.Net.told c.give.new.self) c.requires.linked
    (subst
    (λ (given : Answer). Tells
    (λ (a b : NetTold). NetGives a c.args.link c.args.bytes.now given b)
    (g.N.Net.told c.args.net.now) (g.N.Net.told c.give.new.self))
    c.in-Sent.is c.in_ok-give.ensures.told)

pub returns-in-Failed-clause-settled : goal.returns-in-Failed-clause-settled
returns-in-Failed-clause-settled g c = λ served id moment s.
    passes_failed _ _ id moment c.args.self.now c.args.view.0 c.args.link.0 c.args.bytes.now
    c.release-gone.result s (g.N.Net.told c.args.net.now) (g.N.Net.told c.give.new.self)
    (g.N.Net.told c.release-gone.new.self) c.drop_view.new.self.doc c.drop_view.new.self
    c.requires.linked
    (subst
    (λ (given : Answer). Tells
    (λ (a b : NetTold). NetGives a c.args.link c.args.bytes.now given b)
    (g.N.Net.told c.args.net.now) (g.N.Net.told c.give.new.self))
    c.in-Failed.is c.in_ok-give.ensures.told)
    (nothing, c.drop_view.ensures.step, refl) c.drop_view.ensures.rest
    (gave_so c.args.link c.release-gone.result _ _ c.release-gone.ensures.told)
