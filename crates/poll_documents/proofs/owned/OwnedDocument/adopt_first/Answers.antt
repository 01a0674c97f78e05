use Rattle.std.proofs.Common.{ap, sym, ◌∙◌, rules}
use Rattle.poll_documents.specs.Outside.{with_net}
use Rattle.poll_documents.proofs.Packing.{short_none, short_same, adopt_short, adopted_cut}
use Rattle.poll_documents.proofs.Packing.{adopted_so}
use Rattle.poll_documents.proofs.Packing.{adopted_is, one_longer}
use Rattle.poll_documents.proofs.owned.OwnedDocument.adopt_first.Goals as goal

pub returns-in_default-clause-adopts : goal.returns-in_default-clause-adopts
returns-in_default-clause-adopts g c = λ served id moment s.
    short_none _ _ id moment c.args.self.now (with_net s (g.N.Net.told c.args.net.now))

-- the net lacked memory
pub returns-in_err-link-clause-adopts : goal.returns-in_err-link-clause-adopts
returns-in_err-link-clause-adopts g c = λ served id moment s.
    adopt_short _ _ id moment c.args.self.now _ c.from_residual.result _ _ (search rules)
    (short_same _ _ id moment c.args.self.now s (g.N.Net.told c.args.net.now)
    (g.N.Net.told c.adopt.new.self) c.in_err-link.ensures.kept)

-- it was adopted, and couldn't be noted
pub returns-in_err-push-clause-adopts : goal.returns-in_err-push-clause-adopts
returns-in_err-push-clause-adopts g c = λ served id moment s.
    adopt_short _ _ id moment c.args.self.now _ c.from_residual-in_err-push.result _ _
    (search rules)
    (adopted_cut _ _ id moment c.args.self.now _ _ _ _ s (g.N.Net.told c.args.net.now)
    (g.N.Net.told c.adopt.new.self) c.owes_nothing.ensures
    (sym (ap (λ (h : _). h.packed) c.self.view_is) ∙ c.in-Some.ensures) c.in_ok-link.ensures.told)

pub returns-clause-adopts : goal.returns-clause-adopts
returns-clause-adopts g c = λ served id moment s.
    adopted_so _ _ id moment c.args.self.now _ _ _ _ _ s (g.N.Net.told c.args.net.now)
    (g.N.Net.told c.adopt.new.self) c.owes_nothing.ensures
    (sym (ap (λ (h : _). h.packed) c.self.view_is) ∙ c.in-Some.ensures) c.in_ok-link.ensures.told
    (adopted_is c.args.self.now _ c.push.new.self _ _ c.self.view_is c.in_ok-push.ensures.came)

pub returns-clause-left : goal.returns-clause-left
returns-clause-left g c =
    one_longer c.args.self.now.packed _ _
    (sym (ap (λ (h : _). h.packed) c.self.view_is) ∙ c.in-Some.ensures)
