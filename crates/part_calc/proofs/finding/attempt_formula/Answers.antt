use Rattle.part_calc.specs.Fates.{found_over}
use Rattle.part_calc.proofs.RangeLaws.{attempt_seen, attempt_unseen}
use Rattle.part_calc.proofs.finding.attempt_formula.Goals as goal

pub returns-then-are_blocks_seen : goal.returns-then-are_blocks_seen
returns-then-are_blocks_seen c =
    attempt_seen c.args.edited.now (found_over c.args.fresh.now.entries c.args.kept.now.entries) c.args.expression.now c.args.blocks.now c.are_blocks_seen.result c.in_ok-value.value
    c.requires c.are_blocks_seen.ensures c.if-are_blocks_seen.true c.in_ok-value.ensures

pub returns : goal.returns
returns c =
    attempt_unseen c.args.edited.now (found_over c.args.fresh.now.entries c.args.kept.now.entries) c.args.expression.now c.args.blocks.now c.are_blocks_seen.result
    c.requires c.are_blocks_seen.ensures c.if-are_blocks_seen.false
