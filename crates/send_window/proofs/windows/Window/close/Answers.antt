use Rattle.std.proofs.Common.{not, filter, nat_eq, rules, ap, ◌∙◌}
use Rattle.arrayvec.proofs.ArrayVecLemmas.{filter-from_retain}
use Rattle.send_window.specs.Tiles.{Sent}
use Rattle.send_window.proofs.Closing.{closed_says, unchanged_by}
use Rattle.send_window.proofs.windows.Window.close.Goals as goal

pub returns-clause-closed : goal.returns-clause-closed
returns-clause-closed c =
    filter-from_retain _ (λ tile. not (nat_eq tile.wid c.args.wid.0)) _ (λ x b f' y k. search rules) _ _ c.retain.ensures.filtered
    ∙ ap (filter (λ (tile : Sent). not (nat_eq tile.wid c.args.wid.0))) c.self.view_is

pub returns-clause-there : goal.returns-clause-there
returns-clause-there c =
    let kept = filter-from_retain _ (λ tile. not (nat_eq tile.wid c.args.wid.0)) _ (λ x b f' y k. search rules) _ _ c.retain.ensures.filtered in
    closed_says (λ (tile : Sent). nat_eq tile.wid c.args.wid.0) c.self.inside.sent.items c.retain.new.self.items c.args.self.now _ _ c.self.view_is kept c.len.ensures.value c.len-before.ensures.value

pub returns-clause-unchanged : goal.returns-clause-unchanged
returns-clause-unchanged c =
    let kept = filter-from_retain _ (λ tile. not (nat_eq tile.wid c.args.wid.0)) _ (λ x b f' y k. search rules) _ _ c.retain.ensures.filtered in
    unchanged_by (λ (tile : Sent). nat_eq tile.wid c.args.wid.0) c.self.inside.sent.items c.retain.new.self.items c.args.self.now _ c.self.view_is kept (closed_says (λ (tile : Sent). nat_eq tile.wid c.args.wid.0) c.self.inside.sent.items c.retain.new.self.items c.args.self.now _ _ c.self.view_is kept c.len.ensures.value c.len-before.ensures.value)
