use Rattle.std.proofs.Common.{◌<◌, length, get_or, arith}
use Rattle.std.proofs.lemmas.List.{get_or_default}
use Rattle.formula_base.specs.Ranges.{Position}
use Rattle.part_calc.proofs.ListLaws.{listed_step}
use Rattle.part_calc.proofs.positions.set_of.Goals as goal

pub loop-position-preserved : goal.loop-position-preserved
loop-position-preserved c =
    let listed = c.args.listed.now in
    let i = c.loop-position.position-index in
    let within : i < length listed = omega arith in
    let position : Position = get_or listed i (0, 0) in
    listed_step c.loop-position.set.keys c.add.new.set.keys listed i position within (get_or_default listed i (0, 0) position within) c.loop-position.invariant c.in_ok-add.ensures
