use Rattle.std.proofs.Common.{◌≡◌, ◌≢◌, ◌∙◌, true, false, take, get_or, nat_eq, Some, sym, subst, arith}
use Rattle.std.specs.List.{AllByRecursion}
use Rattle.std.proofs.lemmas.List.{take_all}
use Rattle.document_machine.specs.State.{Job, find_job}
use Rattle.broker_core.specs.Serving.{Ignores}
use Rattle.broker_core.proofs.Awaited.{same_ticket, ticket_finds, ticket_lacks}
use Rattle.broker_core.proofs.painting.job_at.Goals as goal

pub returns-else-eq-clause-none : goal.returns-else-eq-clause-none
returns-else-eq-clause-none g c = λ _.
    let jobs = c.args.jobs.now in
    let j = c.job.inside in
    let job : Job _ = record { ticket = j.ticket; number = j.number; keys = j.group; area = j.area; scene = j.scene } in
    let here : get_or jobs c.loop-i.i job ≡ job = subst (λ (x : Job _). get_or jobs c.loop-i.i x ≡ x) (sym c.job.view_is) (sym c.index-jobs-i.is) in
    let found : find_job jobs c.args.done.now.ticket.0 ≡ Some job = ticket_finds jobs c.args.done.now.ticket.0 c.loop-i.i job c.loop-i-test.true (same_ticket j.ticket c.args.done.now.ticket.0 c.if-job-done.true) here c.loop-i.invariant in
    let laws = g.met.S.Eq g.world.𝓛 g.world.𝓜 g.world.𝓡 ((λ s x. x), (λ x. x), (λ x. x), λ x. x) in
    let differs : g.S.PartialEq.eq j.scene c.args.done.now.scene ≡ false = sym c.eq.ensures ∙ c.if-eq.false in
    let apart : c.args.done.now.scene ≢ j.scene = λ same.
    let equal : g.S.PartialEq.eq j.scene c.args.done.now.scene ≡ true = subst (λ x. g.S.PartialEq.eq j.scene x ≡ true) (sym same) (laws.laws.refl j.scene) in
    let both : true ≡ false = sym equal ∙ differs in
    cc
    in
    subst (λ o. Ignores c.args.done.now.scene o) (sym found) apart

pub returns-clause-none : goal.returns-clause-none
returns-clause-none g c = λ _.
    let jobs = c.args.jobs.now in
    let all : take c.loop-i.i jobs ≡ jobs = take_all c.loop-i.i jobs (omega (arith, c.loop-i-test.false)) in
    let lacks : AllByRecursion (λ (j : Job _). nat_eq j.ticket c.args.done.now.ticket.0 ≡ false) jobs = subst (AllByRecursion (λ (j : Job _). nat_eq j.ticket c.args.done.now.ticket.0 ≡ false)) all c.loop-i.invariant in
    subst (λ o. Ignores c.args.done.now.scene o) (sym (ticket_lacks jobs c.args.done.now.ticket.0 lacks)) tt
