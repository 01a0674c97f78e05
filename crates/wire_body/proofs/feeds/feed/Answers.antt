use Rattle.std.proofs.Common.{◌≡◌, ◌∙◌, ap, arith, []}
use Rattle.std.proofs.lemmas.List.{nil_from_length}
use Rattle.std.proofs.lemmas.Grind.{common_steps}
use Rattle.wire_body.specs.Bodies.{run, framing_in}
use Rattle.wire_body.proofs.Runs.{run_none, framing_none}
use Rattle.wire_body.proofs.feeds.feed.Goals as goal

pub returns-clause-leads : goal.returns-clause-leads
returns-clause-leads c =
    let none : c.loop-rest.rest.now ≡ [] = nil_from_length _ (grind (arith, common_steps)) in
    c.loop-rest.invariant.leads ∙ ap (λ xs. run c.loop-rest.state c.loop-rest.body.items xs) none ∙ run_none c.loop-rest.state c.loop-rest.body.items

pub returns-clause-counts : goal.returns-clause-counts
returns-clause-counts c =
    let none : c.loop-rest.rest.now ≡ [] = nil_from_length _ (grind (arith, common_steps)) in
    let rest : framing_in c.loop-rest.state c.loop-rest.rest.now ≡ 0 = ap (λ xs. framing_in c.loop-rest.state xs) none ∙ framing_none c.loop-rest.state in
    omega (arith, c.loop-rest.invariant.counts, rest)
