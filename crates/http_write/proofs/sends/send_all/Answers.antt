use Rattle.std.proofs.Common.{◌∙◌, drop, arith}
use Rattle.std.proofs.lemmas.List.{take_all, length-drop}
use Rattle.http_write.proofs.SentParts.{sent_more}
use Rattle.http_write.proofs.sends.send_all.Goals as goal

pub loop-rest-preserved : goal.loop-rest-preserved
loop-rest-preserved g c = record {
  so_far = sent_more _ _ _ _ c.loop-rest.rest.now _ c.in-Wrote.count c.loop-rest.invariant.so_far c.in-Wrote.ensures.sends.2 (take_all _ (drop c.in-Wrote.count c.loop-rest.rest.now) (omega (arith, length-drop c.in-Wrote.count c.loop-rest.rest.now)));
  quiet = c.in-Wrote.ensures.cause.kept (λ e. cc) ∙ c.loop-rest.invariant.quiet;
}
