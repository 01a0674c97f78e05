use Rattle.std.proofs.Common.{ap, sym, ◌∙◌}
use Rattle.std.specs.List.{list_all}
use Rattle.part_calc.specs.declared.ranges.Stretch.{Stretch}
use Rattle.part_calc.specs.Fates.{found_over}
use Rattle.part_calc.specs.Present.{stretched, is_entry_seen}
use Rattle.part_calc.proofs.RangeLaws.{seen_inside, seen_outside}
use Rattle.part_calc.proofs.ranges.is_range_seen.Goals as goal

pub returns-then-is_within : goal.returns-then-is_within
returns-then-is_within c =
    let parts = c.parts.result in
    let known = found_over c.args.fresh.now.entries c.args.kept.now.entries in
    seen_inside parts.0.now.entries c.args.edited.now parts.1 parts.2.now known c.args.block c.are_seen_around.result
    c.parts.ensures.ordered c.parts.ensures.whole (sym c.if-is_within.true ∙ c.is_within.ensures) c.are_seen_around.ensures

pub returns-else-is_within : goal.returns-else-is_within
returns-else-is_within c =
    let parts = c.parts.result in
    let known = found_over c.args.fresh.now.entries c.args.kept.now.entries in
    seen_outside parts.0.now.entries c.args.edited.now parts.1 parts.2.now known c.args.block c.are_seen.result
    c.parts.ensures.ordered c.parts.ensures.whole (sym c.if-is_within.false ∙ c.is_within.ensures)
    (c.are_seen.ensures ∙ ap (λ (s : Stretch). list_all (is_entry_seen known) (stretched s parts.0.now.entries)) c.whole.ensures)
