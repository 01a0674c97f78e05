use Rattle.std.proofs.Common.{◌∙◌}
use Rattle.part_calc.proofs.EditLaws.{sound_after, covers_after, computed_after, changed_after}
use Rattle.part_calc.proofs.FoundLaws.{found_right}
use Rattle.part_calc.proofs.recalculation.recalculate.Goals as goal

pub find_values-requires-clause-sound : goal.find_values-requires-clause-sound
find_values-requires-clause-sound c =
    sound_after c.args.cells.now.entries c.of-edited.result c.args.at c.args.cell.now c.args.index.now.entries c.in_ok-reached.reached.fresh.entries c.args.kept.now.entries c.in_ok-reached.reached.ordered.items
    c.len-count.ensures.ordered c.of-edited.ensures c.requires.knows c.requires.kept c.in_ok-reached.ensures

pub find_values-requires-clause-covers : goal.find_values-requires-clause-covers
find_values-requires-clause-covers c =
    covers_after c.args.cells.now.entries c.of-edited.result c.args.at c.args.cell.now c.args.index.now.entries c.in_ok-reached.reached.fresh.entries c.args.kept.now.entries c.in_ok-reached.reached.ordered.items
    c.len-count.ensures.ordered c.of-edited.ensures c.requires.knows c.requires.kept c.in_ok-reached.ensures

pub changes-requires-clause-after : goal.changes-requires-clause-after
changes-requires-clause-after c =
    found_right c.of-edited.result c.in_ok-found.found.entries c.args.kept.now.entries c.as_slice.result.now c.in_ok-fates.ensures.ordered c.in_ok-found.ensures.found (c.as_slice.ensures.value ∙ c.in_ok-fates.ensures.same)

pub returns-clause-computed : goal.returns-clause-computed
returns-clause-computed c =
    computed_after c.args.cells.now.entries c.of-edited.result c.args.at c.args.cell.now c.args.index.now.entries c.in_ok-reached.reached.fresh.entries c.in_ok-found.found.entries c.args.kept.now.entries c.in_ok-fates.fates.items c.in_ok-reached.reached.ordered.items
    c.len-count.ensures.ordered c.of-edited.ensures c.requires.knows c.requires.kept c.in_ok-reached.ensures c.in_ok-found.ensures.found c.in_ok-found.ensures.stay c.in_ok-fates.ensures.same

pub returns-clause-changed : goal.returns-clause-changed
returns-clause-changed c =
    changed_after c.args.cells.now.entries c.of-edited.result c.args.at c.args.cell.now c.args.index.now.entries c.in_ok-reached.reached.fresh.entries c.in_ok-found.found.entries c.as_slice.result.now c.in_ok-reached.reached.ordered.items c.in_ok-changed.changed
    c.len-count.ensures.ordered c.of-edited.ensures c.requires.knows c.in_ok-reached.ensures c.in_ok-found.ensures.stay c.in_ok-fates.ensures.ordered (c.as_slice.ensures.value ∙ c.in_ok-fates.ensures.same) c.in_ok-changed.ensures
