use Rattle.std.proofs.Common.{List, ◌++◌, ap, sym, ◌∙◌}
use Rattle.formula_base.specs.declared.values.Value.{Value}
use Rattle.part_calc.specs.declared.ranges.Stretch.{Stretch}
use Rattle.part_calc.specs.Fates.{found_over}
use Rattle.part_calc.specs.Present.{whole, before, stretched}
use Rattle.part_calc.proofs.RangeLaws.{filled_of, values_inside, values_outside}
use Rattle.part_calc.proofs.ranges.values_between.Goals as goal

pub returns-then-is_within : goal.returns-then-is_within
returns-then-is_within c =
    let parts = c.parts.result in
    let cells = parts.0.now.entries in
    let known = found_over c.args.fresh.now.entries c.args.kept.now.entries in
    let start = c.new-values.result.items in
    let second = c.push_value.new.values.items in
    values_inside cells c.args.edited.now parts.1 parts.2.now known c.args.block c.push_values.new.values.items second c.push_values-then-is_within.new.values.items
    c.parts.ensures.ordered c.parts.ensures.whole (sym c.if-is_within.true ∙ c.is_within.ensures)
    (c.in_ok-push_values.ensures
    ∙ ap (λ (s : Stretch). start ++ filled_of known (stretched s cells)) c.before-then-is_within.ensures
    ∙ ap (λ (vs : List Value). vs ++ filled_of known (stretched (before c.args.block parts.1) cells)) c.new-values.ensures.items)
    c.in_ok-push_value.ensures
    (c.in_ok-push_values-2.ensures ∙ ap (λ (s : Stretch). second ++ filled_of known (stretched s cells)) c.behind.ensures)

pub returns : goal.returns
returns c =
    let parts = c.parts.result in
    let cells = parts.0.now.entries in
    let known = found_over c.args.fresh.now.entries c.args.kept.now.entries in
    let start = c.new-values.result.items in
    values_outside cells c.args.edited.now parts.1 parts.2.now known c.args.block c.push_values-2.new.values.items
    c.parts.ensures.ordered c.parts.ensures.whole (sym c.if-is_within.false ∙ c.is_within.ensures)
    (c.in_ok-push_values-3.ensures
    ∙ ap (λ (s : Stretch). start ++ filled_of known (stretched s cells)) c.whole.ensures
    ∙ ap (λ (vs : List Value). vs ++ filled_of known (stretched (whole c.args.block) cells)) c.new-values.ensures.items)
