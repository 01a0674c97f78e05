use Rattle.std.proofs.Common.{refl, rules}
use Rattle.document_machine.specs.Outputs.{nothing}
use Rattle.poll_documents.proofs.Packing.{view_short, packed_cut, packed_so, packed_is, left_so}
use Rattle.poll_documents.proofs.owned.OwnedDocument.pack_view.Goals as goal

-- it was released, and couldn't be packed
pub returns-in_err-push-in-Some-clause-packs : goal.returns-in_err-push-in-Some-clause-packs
returns-in_err-push-in-Some-clause-packs g c = λ served id moment s.
    view_short _ _ id moment c.args.self.now _ _ c.from_residual.result _ _ (search rules)
    (packed_cut _ _ id moment c.args.self.now
    (record { view = c.args.view.0; link = c.args.link.0 }) c.in-Some.carried s
    (g.N.Net.told c.args.net.now) (g.N.Net.told c.release.new.self) c.owes_nothing.ensures
    c.requires.linked c.in-Some.ensures.told)

-- it was packed
pub returns-in_ok-push-in-Some-clause-packs : goal.returns-in_ok-push-in-Some-clause-packs
returns-in_ok-push-in-Some-clause-packs g c = λ served id moment s.
    packed_so _ _ id moment c.args.self.now _
    (record { view = c.args.view.0; link = c.args.link.0 }) c.in-Some.carried s
    (g.N.Net.told c.args.net.now) (g.N.Net.told c.release.new.self) c.owes_nothing.ensures
    c.requires.linked c.in-Some.ensures.told
    (packed_is c.args.self.now _ c.remove.new.self c.push.new.self.items c.args.view.0
    c.in-Some.carried c.self.view_is c.remove.ensures c.in_ok-push-in-Some.ensures.items)

-- the net had it no longer
pub returns-in-None-clause-packs : goal.returns-in-None-clause-packs
returns-in-None-clause-packs g c = λ served id moment s.
    left_so _ _ id moment c.args.self.now c.drop_view.new.self
    (record { view = c.args.view.0; link = c.args.link.0 }) s (g.N.Net.told c.args.net.now)
    (g.N.Net.told c.release.new.self) c.owes_nothing.ensures c.owes_nothing-in-None.ensures
    c.requires.linked c.in-None.ensures.told (nothing, c.drop_view.ensures.step, refl)
    c.drop_view.ensures.rest
