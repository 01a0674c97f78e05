use Rattle.std.proofs.Common.{ap, ◌∙◌}
use Rattle.std.specs.List.{list_any}
use Rattle.part_calc.specs.Lanes.{is_block}
use Rattle.part_calc.proofs.KnowLaws.{knows_more, knows_last}
use Rattle.part_calc.proofs.lanes.index_of.Goals as goal

pub loop-position-preserved : goal.loop-position-preserved
loop-position-preserved c =
    knows_more c.args.cells.now.entries c.loop-position.position-iterator (c.in-Some.position.now, c.in-Some.cell.now) c.next.new.self c.loop-position.index.entries c.add.new.index.entries
    c.loop-position.invariant c.in-Some.ensures.steps c.add.ensures.grown (λ b named. c.in_ok-add.ensures.added b (ap (list_any (is_block b)) c.named_blocks.ensures ∙ named))

pub returns : goal.returns
returns c = knows_last c.args.cells.now.entries c.loop-position.position-iterator c.loop-position.index.entries c.loop-position.invariant c.in-None.ensures.steps.0
