use Rattle.std.proofs.Common.{◌≤◌, ◌<◌, length, sym, subst, ◌∙◌, arith}
use Rattle.tile_key.specs.Places.{IsGroup}
use Rattle.broker_core.specs.Choosing.{joins_group}
use Rattle.broker_core.proofs.Groupings.{taken_end, taken_full, taken_group, taken_more}
use Rattle.broker_core.proofs.choosing.group_at.Goals as goal

pub of_keys-requires : goal.of_keys-requires
of_keys-requires c =
    let test = joins_group c.args.tiles.now c.args.members.now in
    let whole = c.as_slice.ensures.value ∙ taken_end test c.args.key.now c.loop-last.keys.items c.loop-last.last c.loop-last.invariant (sym c.joins_right.ensures ∙ c.in-None.is) in
    subst IsGroup (sym whole) (taken_group test c.args.key.now)

pub returns-in-None : goal.returns-in-None
returns-in-None c =
    let test = joins_group c.args.tiles.now c.args.members.now in
    c.of_keys.ensures ∙ c.as_slice.ensures.value ∙ taken_end test c.args.key.now c.loop-last.keys.items c.loop-last.last c.loop-last.invariant (sym c.joins_right.ensures ∙ c.in-None.is)

pub loop-last-preserved : goal.loop-last-preserved
loop-last-preserved c =
    let test = joins_group c.args.tiles.now c.args.members.now in
    let low : length c.loop-last.keys.items < 8 = omega (arith, c.len.ensures.value, c.loop-last-test.true) in
    taken_more test c.args.key.now c.loop-last.keys.items c.push-in-Some.new.self.items c.loop-last.last c.in-Some.next c.loop-last.invariant low (sym c.joins_right.ensures ∙ c.in-Some.is) c.push-in-Some.ensures.items

pub of_keys-requires-2 : goal.of_keys-requires-2
of_keys-requires-2 c =
    let test = joins_group c.args.tiles.now c.args.members.now in
    let full : 8 ≤ length c.loop-last.keys.items = omega (arith, c.len.ensures.value, c.loop-last-test.false) in
    let whole = c.as_slice-2.ensures.value ∙ taken_full test c.args.key.now c.loop-last.keys.items c.loop-last.last c.loop-last.invariant full in
    subst IsGroup (sym whole) (taken_group test c.args.key.now)
