use Rattle.std.proofs.Common.{◌∙◌, sym}
use Rattle.view_session.specs.Viewing.{is_due, keys}
use Rattle.view_session.proofs.KeysFacts.{rising_ordered}
use Rattle.broker_core.specs.Choosing.{can_serve}
use Rattle.broker_core.proofs.Passing.{fewer_behind, none_left, passed, served_here}
use Rattle.broker_core.proofs.members.Member.first_served.Goals as goal

pub returns-in_default : goal.returns-in_default
returns-in_default c =
    let v = c.args.self.now.view in
    sym (c.search.invariant ∙ none_left (can_serve c.args.tiles.now c.args.more) (is_due v) (keys v) c.search.before (sym c.next_due.ensures ∙ c.in_default.is))

pub returns-then-can_serve : goal.returns-then-can_serve
returns-then-can_serve c =
    let v = c.args.self.now.view in
    sym (c.search.invariant ∙ served_here (can_serve c.args.tiles.now c.args.more) (is_due v) (keys v) c.search.before c.in-Some.key (sym c.next_due.ensures ∙ c.in-Some.is) (sym c.can_serve.ensures ∙ c.if-can_serve.true))

pub search-smaller : goal.search-smaller
search-smaller c =
    let v = c.args.self.now.view in
    fewer_behind (is_due v) (keys v) c.search.before c.in-Some.key (rising_ordered v.asked v.visible c.kept.ensures.visible) (sym c.next_due.ensures ∙ c.in-Some.is)

pub search-preserved : goal.search-preserved
search-preserved c =
    let v = c.args.self.now.view in
    c.search.invariant ∙ passed (can_serve c.args.tiles.now c.args.more) (is_due v) (keys v) c.search.before c.in-Some.key (rising_ordered v.asked v.visible c.kept.ensures.visible) (sym c.next_due.ensures ∙ c.in-Some.is) (sym c.can_serve.ensures ∙ c.if-can_serve.false)
