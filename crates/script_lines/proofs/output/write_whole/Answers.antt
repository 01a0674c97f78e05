use Rattle.std.proofs.Common.{◌∙◌}
use Rattle.script_lines.proofs.Moves.{within_further, adds_further}
use Rattle.script_lines.proofs.output.write_whole.Goals as goal

pub loop-done-preserved : goal.loop-done-preserved
loop-done-preserved g c = record {
  within = within_further c.args.bytes.now c.loop-done.done c.in-Wrote.count c.loop-done.invariant.within c.in-Wrote.ensures.writes.0;
  added = adds_further _ _ _ c.args.bytes.now c.loop-done.done c.in-Wrote.count c.loop-done.invariant.within c.loop-done.invariant.added c.in-Wrote.ensures.writes.2;
  faults = c.in-Wrote.ensures.cause.kept (λ e. cc) ∙ c.loop-done.invariant.faults;
}
