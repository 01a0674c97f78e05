-- When nothing is left to do.
use Rattle.std.proofs.Common.{◌≡◌, ◌↔◌, Bool, true, false, ◌&&◌, not, List, [], length, Option, Some, None, refl, sym, ap, ◌∙◌, arith, nat_eq, IsTrue}
use Rattle.std.specs.List.{list_all, AllByRecursion}
use Rattle.std.specs.Prelude.{IsSomeAnd, is_none, is_some}
use Rattle.std.specs.Option.{option_map_or}
use Rattle.std.proofs.lemmas.Bool.Decides.{nat_tests}
use Rattle.kit_trait.specs.Rules.{Rules}
use Rattle.document_machine.specs.Held.{Held}
use Rattle.document_machine.specs.Quiet.{IsQuiet, is_quiet, is_still}
use Rattle.document_machine.specs.Saves.{has_ready_save}
use Rattle.document_machine.specs.State.{Document}
use Rattle.broker_core.specs.Held.{IsTracked}
use Rattle.broker_core.specs.Members.{views_of}
use Rattle.broker_core.specs.Serving as serving
use Rattle.broker_core.specs.declared.members.Member.{Member}
use Rattle.document_laws.proofs.QuietTest.{passed_is_quiet, quiet_passes}
use Rattle.broker_core.proofs.Words.{stills_same}

-- the machine's test, by the parts that a broker keeps
pub quiet_by : {C B S : Type 0} (rules : Rules C B) (d : Document S) (members : List Member) → d.views ≡ views_of members → AllByRecursion (IsTracked rules d.base d.journal d.applied) members → has_ready_save d ≡ false → is_none d.saving.put ≡ true → d.applied ≡ length d.journal → length d.jobs ≡ 0 → list_all (λ (member : Member). serving.is_still member.view) members ≡ is_quiet rules d
quiet_by rules d members views all no_save no_put level none =
    let at : nat_eq d.applied (length d.journal) ≡ true = grind (arith, nat_tests) in
    let free : nat_eq (length d.jobs) 0 ≡ true = ap (λ n. nat_eq n 0) none in
    sym (ap (λ b. (not b && is_none d.saving.put) && (nat_eq d.applied (length d.journal) && (nat_eq (length d.jobs) 0 && list_all (is_still rules d) d.views))) no_save
    ∙ ap (λ b. b && (nat_eq d.applied (length d.journal) && (nat_eq (length d.jobs) 0 && list_all (is_still rules d) d.views))) no_put
    ∙ ap (λ b. b && (nat_eq (length d.jobs) 0 && list_all (is_still rules d) d.views)) at
    ∙ ap (λ b. b && list_all (is_still rules d) d.views) free
    ∙ ap (λ vs. list_all (is_still rules d) vs) views
    ∙ stills_same rules d members all)

-- nothing is there where something is not
pub none_there : {X : Type 0} (o : Option X) → is_some o ≡ false → is_none o ≡ true
none_there None is = refl
none_there (Some x) is = absurd (cc)

-- the test of a broker passes exactly where it isn't spent and its document is quiet
pub test_is : {C B S : Type 0} (rules : Rules C B) (broker : Option (Held S)) (result : Bool) → result ≡ option_map_or (λ (held : Held S). is_quiet rules held.document) broker false → IsTrue result ↔ IsSomeAnd broker (λ held. IsQuiet rules held.document)
test_is rules None result is = (λ so. let no : true ≡ false = sym so ∙ is in absurd (cc), λ no. absurd no)
test_is rules (Some held) result is = (λ so. passed_is_quiet rules held.document (sym is ∙ so), λ quiet. is ∙ quiet_passes rules held.document quiet)
