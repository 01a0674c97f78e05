-- What is said of a front of the whole is what is said of the whole.
use Rattle.std.proofs.Common.{ℕ, ◌≡◌, Bool, true, false, List, ◌++◌, Some, Result, Ok, Err, refl, sym, ap, ◌∙◌, subst, append-nil, unwrap_or, ◌||◌}
use Rattle.std.proofs.lemmas.List.{append_cancel_left}
use Rattle.outside.specs.Wires.{Talk, with_received}
use Rattle.outside.specs.declared.faults.WireFault.{WireFault}
use Rattle.outside.specs.declared.faults.WireFault.TheVariants.{BadHead, HeadTooLong, BodyTooLong, BadChunk, CutOff, ReadFault, WriteFault}
use Rattle.wire_body.specs.declared.faults.HttpFault.{HttpFault}
use Rattle.wire_body.specs.declared.faults.HttpFault.TheVariants.{Wire, Memory as NoMemory}
use Rattle.http_wire.specs.Messages.{Kind, Front, message_said, IsAnswer, ReadsMessage}
use Rattle.http_laws.proofs.Fronts.{Laws, one_front, front_stays}
use Rattle.http_again.specs.Given.{IsGiven, GivesFront, IsItself}

-- the bytes say this message, whether the wire ends after them or not
pub record Say {P M : Type 0} (k : Kind P M) (m : M) (whole : List ℕ) : Type 0 where
  pub front : Front k whole
  pub said : (ended : Bool) → message_said front ended ≡ Some (Ok m)

some_same : {A : Type 0} (x y : A) → Some x ≡ Some y → x ≡ y
some_same x y is = ap (λ o. unwrap_or o x) is

abbrev ok_or : {M E : Type 0} → M → Result M E → M
ok_or d (Ok m) = m
ok_or d (Err e) = d

-- what is said of the bytes received is the message
one_said : {P M : Type 0} (k : Kind P M) (laws : Laws k) (m : M) (whole bytes : List ℕ) (ended : Bool) → Say k m whole → IsGiven whole bytes ended
    → (f : Front k bytes) (x : Result M WireFault) → message_said f ended ≡ Some x → x ≡ Ok m
one_said k laws m whole bytes false say (more, is, last) f x said =
    let all : Say k m (bytes ++ more) = subst (λ xs. Say k m xs) (sym is) say in
    some_same x (Ok m) (sym (front_stays k laws bytes more f all.front x false said) ∙ all.said false)
one_said k laws m whole bytes true say (more, is, last) f x said =
    let same : bytes ≡ whole = sym (append-nil bytes) ∙ ap (λ xs. bytes ++ xs) (sym (last refl)) ∙ is in
    let all : Say k m bytes = subst (λ xs. Say k m xs) (sym same) say in
    some_same x (Ok m) (sym said ∙ one_front k laws bytes f all.front true ∙ all.said true)

no_fault : {M : Type 0} (m : M) (fault : WireFault) → Err fault ≡ Ok m → ⊥
no_fault m fault is = cc

pub itself : {P M : Type 0} (k : Kind P M) (laws : Laws k) (m : M) (whole bytes : List ℕ) (ended : Bool) (result : Result M HttpFault)
    → Say k m whole → IsGiven whole bytes ended → IsAnswer k bytes ended result → IsItself m result
itself k laws m whole bytes ended (Ok n) say given (f, said, stops, late) = ap (ok_or n) (one_said k laws m whole bytes ended say given f (Ok n) said)
itself k laws m whole bytes ended (Err NoMemory) say given answer = tt
itself k laws m whole bytes ended (Err (Wire ReadFault)) say given answer = refl
itself k laws m whole bytes ended (Err (Wire WriteFault)) say given (f, said, stops, late) = absurd said
itself k laws m whole bytes ended (Err (Wire BadHead)) say given (f, said, stops, late) = absurd (no_fault m BadHead (one_said k laws m whole bytes ended say given f (Err BadHead) said))
itself k laws m whole bytes ended (Err (Wire HeadTooLong)) say given (f, said, stops, late) = absurd (no_fault m HeadTooLong (one_said k laws m whole bytes ended say given f (Err HeadTooLong) said))
itself k laws m whole bytes ended (Err (Wire BodyTooLong)) say given (f, said, stops, late) = absurd (no_fault m BodyTooLong (one_said k laws m whole bytes ended say given f (Err BodyTooLong) said))
itself k laws m whole bytes ended (Err (Wire BadChunk)) say given (f, said, stops, late) = absurd (no_fault m BadChunk (one_said k laws m whole bytes ended say given f (Err BadChunk) said))
itself k laws m whole bytes ended (Err (Wire CutOff)) say given (f, said, stops, late) = absurd (no_fault m CutOff (one_said k laws m whole bytes ended say given f (Err CutOff) said))

-- what a call received between two talks is a front of what the wire gave between them
given_between : (whole bytes : List ℕ) (ended : Bool) (old new : Talk) → GivesFront whole old new → new ≡ with_received bytes ended old → IsGiven whole bytes ended
given_between whole bytes ended old new (front, more, got, is, last) heard =
    let same : bytes ≡ front = append_cancel_left old.received bytes front (sym (ap (λ t. t.received) heard) ∙ got) in
    (more, ap (λ xs. xs ++ more) same ∙ is, λ at_end. last (ap (λ t. t.ended) heard ∙ ap (λ b. b || old.ended) at_end))

-- the same of what the call's contract says of its wire
pub itself_between : {P M : Type 0} (k : Kind P M) (laws : Laws k) (m : M) (whole : List ℕ) (old new : Talk) (result : Result M HttpFault)
    → Say k m whole → GivesFront whole old new → ReadsMessage k (Some old) (Some new) result → IsItself m result
itself_between k laws m whole old new result say given (bytes, ended, heard, answer) =
    itself k laws m whole bytes ended result say (given_between whole bytes ended old new given (some_same new (with_received bytes ended old) heard)) answer
