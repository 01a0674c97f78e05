use Rattle.std.proofs.Common.{◌≡◌, Some, length, slice_get, ap, sym, subst, ◌∙◌}
use Rattle.poll_machine.specs.Agenda.{ViewLink, link_of}
use Rattle.poll_instance.specs.Instance.{ways}
use Rattle.poll_documents.specs.Links.{ViewPacked}
use Rattle.poll_documents.specs.Outside.{with_net}
use Rattle.poll_documents.proofs.Packing.{short_none, short_one, first_linked, first_packed}
use Rattle.poll_documents.proofs.Packing.{has_first, one_less}
use Rattle.poll_documents.proofs.owned.OwnedDocument.pack_first.Goals as goal

pub returns-in_default-clause-packs : goal.returns-in_default-clause-packs
returns-in_default-clause-packs g c = λ served id moment s.
    short_none _ _ id moment c.args.self.now (with_net s (g.N.Net.told c.args.net.now))

pub returns-then-not-is_live-clause-packs : goal.returns-then-not-is_live-clause-packs
returns-then-not-is_live-clause-packs g c = λ served id moment s.
    short_none _ _ id moment c.args.self.now (with_net s (g.N.Net.told c.args.net.now))

pub pack_view-requires-clause-linked : goal.pack_view-requires-clause-linked
pack_view-requires-clause-linked g c κs within =
    subst (λ (p : ViewLink). link_of c.args.self.now.views p.view ≡ Some p.link)
    (sym c.first-2.view_is)
    (first_linked c.args.self.now.views c.in-Some.first
    (c.in-Some.ensures ∙ ap (λ (h : _). slice_get h.views 0) c.self.view_is))

-- it didn't stand once
pub returns-then-count-left-clause-packs : goal.returns-then-count-left-clause-packs
returns-then-count-left-clause-packs g c = λ served id moment s.
    short_one _ _ id moment c.args.self.now c.pack_view.new.self _ c.in_ok-ended.ended
    (with_net s (g.N.Net.told c.args.net.now)) (with_net s (g.N.Net.told c.pack_view.new.net))
    (c.in_ok-ended.ensures.packs served id moment s)

-- each view stands once
pub returns-clause-packs : goal.returns-clause-packs
returns-clause-packs g c = λ served id moment s.
    first_packed _ _ id moment c.args.self.now c.pack_view.new.self c.in-Some.first
    c.in_ok-ended.ended (with_net s (g.N.Net.told c.args.net.now))
    (with_net s (g.N.Net.told c.pack_view.new.net))
    (c.in-Some.ensures ∙ ap (λ (h : _). slice_get h.views 0) c.self.view_is)
    (one_less c.count-left.result c.count.result (length c.args.self.now.views)
    (length c.pack_view.new.self.views)
    (c.count-left.ensures ∙ ap (λ (h : _). length h.views) c.self.view_is)
    (c.count.ensures ∙ ap (λ (h : _). length h.views) c.self-2.view_is)
    (has_first c.args.self.now.views c.in-Some.first
    (c.in-Some.ensures ∙ ap (λ (h : _). slice_get h.views 0) c.self.view_is)) c.if-count-left.false)
    (subst
    (λ (p : ViewLink). ViewPacked (ways g.K.Kit.rules g.K.Kit.cut served) g.N.Net.carried id moment
    c.args.self.now p
    (with_net s (g.N.Net.told c.args.net.now)) c.in_ok-ended.ended c.pack_view.new.self
    (with_net s (g.N.Net.told c.pack_view.new.net)))
    c.first-2.view_is (c.in_ok-ended.ensures.packs served id moment s))
