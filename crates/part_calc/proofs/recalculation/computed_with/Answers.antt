use Rattle.std.proofs.Common.{◌≡◌, ap, ◌∙◌}
use Rattle.formula_base.specs.Ranges.{Position}
use Rattle.part_calc.specs.Fates.{Fates, fate_in}
use Rattle.part_calc.proofs.ChangeLaws.{computed_cover}
use Rattle.part_calc.proofs.EditLaws.{kept_outside}
use Rattle.part_calc.proofs.FoundLaws.{first_sound, first_covers, first_kept}
use Rattle.part_calc.proofs.recalculation.computed_with.Goals as goal

pub find_values-requires-clause-sound : goal.find_values-requires-clause-sound
find_values-requires-clause-sound c =
    first_sound c.of-edited.result c.in_ok-reached.reached.fresh.entries c.new-before.result.entries c.new-before.ensures.empty c.in_ok-reached.ensures.unfound

pub find_values-requires-clause-covers : goal.find_values-requires-clause-covers
find_values-requires-clause-covers c =
    first_covers c.of-edited.result c.in_ok-reached.reached.fresh.entries c.new-before.result.entries c.as_slice-2.result.now c.in_ok-reached.reached.ordered.items
    (computed_cover c.args.cells.now.entries c.of-edited.result (4096, 0) c.args.none.now c.in_ok-concerned.concerned.items c.as_slice.result.now c.in_ok-computed.computed.items c.as_slice-2.result.now
    c.len-count.ensures.ordered c.of-edited.ensures c.in_ok-concerned.ensures.listed c.as_slice.ensures.value c.in_ok-computed.ensures c.as_slice-2.ensures.value)
    c.in_ok-reached.ensures.start c.in_ok-reached.ensures.listed

pub returns : goal.returns
returns c =
    let covers =
    computed_cover c.args.cells.now.entries c.of-edited.result (4096, 0) c.args.none.now c.in_ok-concerned.concerned.items c.as_slice.result.now c.in_ok-computed.computed.items c.as_slice-2.result.now
    c.len-count.ensures.ordered c.of-edited.ensures c.in_ok-concerned.ensures.listed c.as_slice.ensures.value c.in_ok-computed.ensures c.as_slice-2.ensures.value in
    kept_outside (λ k. (p : Position) → fate_in k p ≡ fate_in c.in_ok-fates.fates.items p) c.args.cells.now.entries c.of-edited.result c.args.none.now c.gather.result (λ s. s.entries) c.requires.part c.requires.empty c.of-edited.ensures
    (λ k same.
    first_kept c.of-edited.result c.as_slice-2.result.now c.in_ok-reached.reached.fresh.entries c.in_ok-found.found.entries k c.new-before.result.entries covers c.in_ok-reached.ensures.start c.in_ok-found.ensures.found c.in_ok-found.ensures.stay
    (λ p. same p ∙ ap (λ (es : Fates). fate_in es p) c.in_ok-fates.ensures.same))
    c.gather.ensures
