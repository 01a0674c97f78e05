-- The view at the place is the one with the id.
use Rattle.std.proofs.Common.{◌≡◌, ◌∙◌, map, Some, sym, ap}
use Rattle.document_machine.specs.State.{View, find_view}
use Rattle.broker_core.specs.Members.{view_of, views_of}
use Rattle.broker_core.specs.declared.members.Member.{Member}
use Rattle.broker_core.proofs.Places.{place_finds}
use Rattle.broker_core.proofs.core_of.Core.unprocessed.Goals as goal

pub returns : goal.returns
returns g c = λ x found.
    let members = c.self.inside.views.members.items in
    let member : Member = c.index.result.now in
    let there : find_view (views_of members) c.args.id ≡ Some (view_of member) = place_finds members c.args.id c.in-Some.i member c.in-Some.ensures.place (sym c.index.ensures) in
    let same_document : find_view (views_of members) c.args.id ≡ find_view c.args.self.now.document.views c.args.id = rw (← c.self.view_is) in
    let same : Some (view_of member) ≡ Some x = sym there ∙ same_document ∙ found in
    let is : view_of member ≡ x = cc same in
    c.wids.ensures ∙ ap (λ (v : View). map (λ tile. tile.wid) v.window) is
