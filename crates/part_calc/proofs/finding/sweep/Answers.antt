use Rattle.std.proofs.Common.{◌<◌, length, get_or, arith}
use Rattle.std.proofs.lemmas.List.{get_or_default}
use Rattle.formula_base.specs.Ranges.{Position}
use Rattle.part_calc.proofs.FindLaws.{try_more, try_stays}
use Rattle.part_calc.proofs.finding.sweep.Goals as goal

pub loop-position-preserved : goal.loop-position-preserved
loop-position-preserved c =
    let waiting = c.args.waiting.now in
    let i = c.loop-position.position-index in
    let within : i < length waiting = omega arith in
    let position : Position = get_or waiting i (0, 0) in
    record {
      held =
          try_more c.args.edited.now c.loop-position.fresh.entries c.try_cell.new.fresh.entries c.args.kept.now.entries waiting i c.loop-position.left.items c.try_cell.new.left.items position c.loop-position.invariant.held within
          (get_or_default waiting i (0, 0) position within) c.in_ok-try_cell.ensures.fresh c.in_ok-try_cell.ensures.left;
      stay = λ p there.
          try_stays c.loop-position.fresh.entries c.try_cell.new.fresh.entries position _ _ c.in_ok-try_cell.ensures.fresh p (c.loop-position.invariant.stay p there);
    }
