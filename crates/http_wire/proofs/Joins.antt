-- What was received and scanned, put together to the answer.
use Rattle.std.proofs.Common.{ℕ, ◌≡◌, ◌<◌, ◌≤◌, Bool, true, false, List, [], ◌++◌, length, take, drop, Option, Ok, Err, inl, inr}
use Rattle.std.proofs.Common.{refl, sym, ap, ◌∙◌, subst, arith, append_assoc, append-nil}
use Rattle.std.proofs.lemmas.List.{take_all, length-append}
use Rattle.outside.specs.declared.faults.WireFault.TheVariants.{BadHead, HeadTooLong, BodyTooLong, BadChunk, CutOff, ReadFault, WriteFault}
use Rattle.outside.specs.Wires.{Talk, Hears}
use Rattle.outside.proofs.Talks.{hears_more}
use Rattle.wire_body.specs.declared.faults.HttpFault.{HttpFault}
use Rattle.wire_body.specs.declared.faults.HttpFault.TheVariants.{Wire, Memory as NoMemory}
use Rattle.http_head.specs.declared.parts.Scan.{Scan}
use Rattle.http_head.specs.declared.parts.Scan.TheVariants.{Begun, NoHead}
use Rattle.wire_body.specs.declared.states.BodyState.{BodyState}
use Rattle.wire_body.specs.Bodies.{body_says}
use Rattle.wire_body.specs.declared.reads.TheConstants.{PIECE_LIMIT}
use Rattle.wire_body.specs.Reads.{AllButLast, IsSilent, ReadsBody, IsSaid, Stops}
use Rattle.http_wire.specs.Messages.{Kind, Front, Scans, start_of, with_body, message_said, SaysNothing, IsAnswer, ReadsMessage, GotHead}
use Rattle.http_head.specs.declared.TheConstants.{HEAD_LIMIT}
use Rattle.http_wire.specs.Messages.Front.{Refused, Longer, Open, Headed}

-- bytes within the limit are all before it
all_within : (bytes : List ℕ) → length bytes ≤ HEAD_LIMIT → bytes ≡ take HEAD_LIMIT bytes
all_within bytes within = sym (take_all HEAD_LIMIT bytes within)

pub refused_answer : {P M : Type 0} (k : Kind P M) (old new : Option Talk) (bytes : List ℕ)
    → Hears old bytes false new → length bytes ≤ HEAD_LIMIT → k.refuses bytes → AllButLast (SaysNothing k) bytes
    → ReadsMessage k old new (Err (Wire BadHead))
refused_answer k old new bytes heard within none late = (bytes, false, heard, (Refused (subst (λ xs. k.refuses xs) (all_within bytes within) none), refl, λ is. cc, late))

pub longer_answer : {P M : Type 0} (k : Kind P M) (old new : Option Talk) (bytes : List ℕ)
    → Hears old bytes false new → length bytes ≤ HEAD_LIMIT → HEAD_LIMIT ≤ length bytes → k.begins bytes → AllButLast (SaysNothing k) bytes
    → ReadsMessage k old new (Err (Wire HeadTooLong))
longer_answer k old new bytes heard within full begun late =
    (bytes, false, heard, (Longer full (subst (λ xs. k.begins xs) (all_within bytes within) begun), refl, λ is. cc, late))

pub cut_answer : {P M : Type 0} (k : Kind P M) (old mid new : Option Talk) (bytes : List ℕ)
    → Hears old bytes false mid → Hears mid [] true new → length bytes < HEAD_LIMIT → k.begins bytes → AllButLast (SaysNothing k) bytes
    → ReadsMessage k old new (Err (Wire CutOff))
cut_answer k old mid new bytes heard ended less begun late =
    (bytes, true, subst (λ xs. Hears old xs true new) (append-nil bytes) (hears_more old mid new bytes [] true heard ended), (Open less begun, refl, λ is. refl, late))

pub fault_answer : {P M : Type 0} (k : Kind P M) (old mid new : Option Talk) (bytes : List ℕ)
    → Hears old bytes false mid → new ≡ mid → length bytes < HEAD_LIMIT → k.begins bytes → AllButLast (SaysNothing k) bytes
    → ReadsMessage k old new (Err (Wire ReadFault))
fault_answer k old mid new bytes heard same less begun late =
    (bytes, false, subst (λ t. Hears old bytes false t) (sym same) heard, (Open less begun, refl, λ is. cc, late))

pub memory_answer : {P M : Type 0} (k : Kind P M) (old new : Option Talk) (bytes : List ℕ)
    → Hears old bytes false new → ReadsMessage k old new (Err NoMemory)
memory_answer k old new bytes heard = (bytes, false, heard, tt)

pub piece_memory_answer : {P M : Type 0} (k : Kind P M) (old mid new : Option Talk) (bytes piece : List ℕ)
    → Hears old bytes false mid → Hears mid piece false new → ReadsMessage k old new (Err NoMemory)
piece_memory_answer k old mid new bytes piece heard more = (bytes ++ piece, false, hears_more old mid new bytes piece false heard more, tt)

-- what stands at the front once the body's bytes have come
abbrev headed : {P M : Type 0} (k : Kind P M) (old mid : Option Talk) (parts : P) (bytes more : List ℕ) (len : ℕ) → GotHead k old mid parts bytes len → Front k (bytes ++ more)
headed k old mid parts bytes more len got =
    let within : length bytes ≤ HEAD_LIMIT = got.within in
    Headed parts (drop len bytes ++ more) (k.grows bytes parts (drop len bytes) more got.reads) (omega (arith, within, length-append bytes more, length-append (drop len bytes) more))

-- a piece that came where the bytes began a head
pub begun_late : {P M : Type 0} (k : Kind P M) (bytes piece all : List ℕ)
    → length bytes < HEAD_LIMIT → k.begins bytes → length piece ≤ PIECE_LIMIT
    → all ≡ bytes ++ piece → AllButLast (SaysNothing k) all
begun_late k bytes piece all less begun small is =
    inr (bytes, piece, is, small, (Open less begun, refl))

-- the pieces of a body, behind those of its head
late_body : {P M : Type 0} (k : Kind P M) (old mid : Option Talk) (parts : P)
    (bytes more : List ℕ) (len : ℕ) → GotHead k old mid parts bytes len
    → AllButLast (IsSilent (start_of (k.framing parts)) (drop len bytes)) more
    → AllButLast (SaysNothing k) (bytes ++ more)
late_body k old mid parts bytes more len got (inl none) =
    subst (λ xs. AllButLast (SaysNothing k) xs)
    (sym (ap (λ xs. bytes ++ xs) none ∙ append-nil bytes)) got.late
late_body k old mid parts bytes more len got (inr (before, last, is, small, silent)) = inr (
  bytes ++ before,
  last,
  ap (λ xs. bytes ++ xs) is ∙ sym (append_assoc bytes before last),
  small,
  (headed k old mid parts bytes before len got, ap (with_body k parts) silent),
)

pub body_answer : {P M : Type 0} (k : Kind P M) (old mid new : Option Talk) (parts : P) (bytes : List ℕ) (len : ℕ) (body : List ℕ)
    → GotHead k old mid parts bytes len → ReadsBody mid new (start_of (k.framing parts)) (drop len bytes) (Ok body)
    → ReadsMessage k old new (Ok (k.message parts body))
body_answer k old mid new parts bytes len body got (more, ended, heard, said, stops, late) = (
  bytes ++ more,
  ended,
  hears_more old mid new bytes more ended got.heard heard,
  (headed k old mid parts bytes more len got, ap (with_body k parts) said, λ is. ap (with_body k parts) (stops is), late_body k old mid parts bytes more len got late),
)

body_fault : {P M : Type 0} (k : Kind P M) (parts : P) (bytes : List ℕ) (ended : Bool) (rest : List ℕ) (front : Front k bytes)
    → message_said front ended ≡ with_body k parts (body_says (start_of (k.framing parts)) rest ended)
    → Stops (message_said front false) ended → AllButLast (SaysNothing k) bytes
    → (fault : HttpFault) → IsSaid (body_says (start_of (k.framing parts)) rest ended) (Err fault) → IsAnswer k bytes ended (Err fault)
body_fault k parts bytes ended rest front is stops late NoMemory said = tt
body_fault k parts bytes ended rest front is stops late (Wire BadHead) said = (front, is ∙ ap (with_body k parts) said, stops, late)
body_fault k parts bytes ended rest front is stops late (Wire HeadTooLong) said = (front, is ∙ ap (with_body k parts) said, stops, late)
body_fault k parts bytes ended rest front is stops late (Wire BodyTooLong) said = (front, is ∙ ap (with_body k parts) said, stops, late)
body_fault k parts bytes ended rest front is stops late (Wire BadChunk) said = (front, is ∙ ap (with_body k parts) said, stops, late)
body_fault k parts bytes ended rest front is stops late (Wire CutOff) said = (front, is ∙ ap (with_body k parts) said, stops, late)
body_fault k parts bytes ended rest front is stops late (Wire ReadFault) said = (front, is ∙ ap (with_body k parts) said, stops, late)
body_fault k parts bytes ended rest front is stops late (Wire WriteFault) said = absurd said

pub body_fault_answer : {P M : Type 0} (k : Kind P M) (old mid new : Option Talk) (parts : P) (bytes : List ℕ) (len : ℕ) (fault : HttpFault)
    → GotHead k old mid parts bytes len → ReadsBody mid new (start_of (k.framing parts)) (drop len bytes) (Err fault)
    → ReadsMessage k old new (Err fault)
body_fault_answer k old mid new parts bytes len fault got (more, ended, heard, said, stops, late) = (
  bytes ++ more,
  ended,
  hears_more old mid new bytes more ended got.heard heard,
  body_fault k parts (bytes ++ more) ended (drop len bytes ++ more) (headed k old mid parts bytes more len got) refl (λ is. ap (with_body k parts) (stops is)) (late_body k old mid parts bytes more len got late) fault said,
)

-- what a scan of the bytes said
pub scan_refused : {P M : Type 0} (k : Kind P M) (bytes items : List ℕ) (s : Scan P) → Scans k bytes s → s ≡ NoHead → bytes ≡ items → k.refuses items
scan_refused k bytes items s scan is same = subst (λ xs. k.refuses xs) same (subst (λ t. Scans k bytes t) is scan)

pub scan_begun : {P M : Type 0} (k : Kind P M) (bytes items : List ℕ) (s : Scan P) → Scans k bytes s → s ≡ Begun → bytes ≡ items → k.begins items
scan_begun k bytes items s scan is same = subst (λ xs. k.begins xs) same (subst (λ t. Scans k bytes t) is scan)

-- the same answers, where body and front are equal to what they are called
pub body_answer_at : {P M : Type 0} (k : Kind P M) (old mid new : Option Talk) (parts : P) (bytes : List ℕ) (len : ℕ) (body : List ℕ) (start : BodyState) (front : List ℕ) (m : M)
    → start ≡ start_of (k.framing parts) → front ≡ drop len bytes → m ≡ k.message parts body
    → GotHead k old mid parts bytes len → ReadsBody mid new start front (Ok body) → ReadsMessage k old new (Ok m)
body_answer_at k old mid new parts bytes len body start front m is_start is_front is_message got reads =
    subst (λ n. ReadsMessage k old new (Ok n)) (sym is_message)
    (body_answer k old mid new parts bytes len body got
    (subst (λ s. ReadsBody mid new s (drop len bytes) (Ok body)) is_start (subst (λ xs. ReadsBody mid new start xs (Ok body)) is_front reads)))

pub body_fault_at : {P M : Type 0} (k : Kind P M) (old mid new : Option Talk) (parts : P) (bytes : List ℕ) (len : ℕ) (fault : HttpFault) (start : BodyState) (front : List ℕ)
    → start ≡ start_of (k.framing parts) → front ≡ drop len bytes
    → GotHead k old mid parts bytes len → ReadsBody mid new start front (Err fault) → ReadsMessage k old new (Err fault)
body_fault_at k old mid new parts bytes len fault start front is_start is_front got reads =
    body_fault_answer k old mid new parts bytes len fault got
    (subst (λ s. ReadsBody mid new s (drop len bytes) (Err fault)) is_start (subst (λ xs. ReadsBody mid new start xs (Err fault)) is_front reads))
