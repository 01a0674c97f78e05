-- Which job a ticket finds.
use Rattle.std.proofs.Common.{◌≡◌, ℕ, zero, suc, ◌<◌, true, false, List, [], ◌∷◌, length, take, get_or, Some, None, refl, ap, subst, ◌∙◌, arith, nat_eq}
use Rattle.std.specs.List.{AllByRecursion}
use Rattle.std.proofs.lemmas.Bool.Decides.{nat_tests}
use Rattle.document_machine.specs.State.{Job, find_job}

-- a ticket that is the same passes the test
pub same_ticket : (m n : ℕ) → m ≡ n → nat_eq m n ≡ true
same_ticket m n e = grind (arith, nat_tests)

-- the first job with the ticket is found by it
pub ticket_finds : {S : Type 0} (jobs : List (Job S)) (ticket i : ℕ) (job : Job S) → i < length jobs → nat_eq job.ticket ticket ≡ true → get_or jobs i job ≡ job → AllByRecursion (λ (j : Job S). nat_eq j.ticket ticket ≡ false) (take i jobs) → find_job jobs ticket ≡ Some job
ticket_finds [] ticket i job within same here before = absurd (omega arith)
ticket_finds {S} (j ∷ jobs) ticket zero job within same here before =
    let t : nat_eq j.ticket ticket ≡ true = ap (λ (x : Job S). nat_eq x.ticket ticket) here ∙ same in
    rw t (ap Some here)
ticket_finds (j ∷ jobs) ticket (suc i) job within same here before = rw before.0 (ticket_finds jobs ticket i job (omega arith) same here before.1)

-- where no job has the ticket it finds none
pub ticket_lacks : {S : Type 0} (jobs : List (Job S)) (ticket : ℕ) → AllByRecursion (λ (j : Job S). nat_eq j.ticket ticket ≡ false) jobs → find_job jobs ticket ≡ None
ticket_lacks [] ticket all = refl
ticket_lacks (j ∷ jobs) ticket all = rw all.0 (ticket_lacks jobs ticket all.1)
