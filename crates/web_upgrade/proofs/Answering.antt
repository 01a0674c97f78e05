-- What the check of a head says of its answer.
use Rattle.std.proofs.Common.{◌≡◌, ap, refl, sym, ℕ, ◌≤◌, ◌<◌, List, length, take, drop, Result, Ok, Err, rules, subst, arith}
use Rattle.std.proofs.lemmas.List.{take_all, length-take}
use Rattle.httparse.specs.Spans.{IsRequestAt, FindsRequest, span_bytes}
use Rattle.httparse.specs.Grammar.{RequestHead}
use Rattle.httparse.specs.declared.Status.TheVariants.{Complete}
use Rattle.http_head.specs.Requests.{BeginsRequest, IsNoRequest}
use Rattle.httparse.specs.declared.spans.HeaderSpan.{HeaderSpan}
use Rattle.httparse.specs.declared.spans.RequestSpans.{RequestSpans}
use Rattle.websocket.specs.declared.handshake.failure.HandshakeError.{HandshakeError}
use Rattle.websocket.specs.Headers.{fields_of}
use Rattle.websocket.specs.Handshake.{requested_key, Answers}
use Rattle.web_upgrade.specs.Refusals.{refusal_of}
use Rattle.web_upgrade.specs.Judging.{AnswersKey, asked_key, HasHead, IsHead, Answered, Judges, More, Long, NoHead, Whole, LiesIn}
use Rattle.web_upgrade.specs.declared.refusals.Refusal.TheVariants.{Bad, TooLong}
use Rattle.web_upgrade.specs.declared.judging.Judged.{Judged}
use Rattle.web_upgrade.specs.declared.judging.Judged.TheVariants.{Begun, Upgrades, Refused}

-- The answer to a head, from that of the check.
abbrev pub judged_as : ℕ → Result (List ℕ) HandshakeError → Judged
judged_as len (Ok accept) = Upgrades accept len
judged_as len (Err e) = Refused (refusal_of e)

-- The spans of a head cover what it asks.
pub asked_at : (front : List ℕ) (lines : List HeaderSpan) (spans : RequestSpans) (h : RequestHead)
    → IsRequestAt front lines spans h
    → requested_key (span_bytes front spans.method) spans.version
    (fields_of front (take spans.headers lines)) ≡ asked_key h
asked_at front lines spans h at = rw at.method (rw at.version (rw at.fields refl))

-- What the check answers to a key is what is answered.
pub answers_key : (len : ℕ) (asked answer : Result (List ℕ) HandshakeError) → Answers answer asked
    → AnswersKey asked len (judged_as len answer)
answers_key len (Ok key) (Ok accept) x = (x.0, x.1, refl)
answers_key len (Ok key) (Err e) x = (x.0, ap refusal_of x.1)
answers_key len (Err e) (Ok accept) x = search rules
answers_key len (Err e) (Err f) x = ap (judged_as len) x

-- The head that the parser finds is answered as the check of its key says.
pub answered : (front : List ℕ) (lines : List HeaderSpan) (spans : RequestSpans) (len room : ℕ)
    (answer : Result (List ℕ) HandshakeError) → HasHead front len → 64 ≤ room
    → FindsRequest front room lines (Ok (Complete spans))
    → Answers answer (requested_key (span_bytes front spans.method) spans.version
    (fields_of front (take spans.headers lines)))
    → Answered front len (judged_as len answer)
answered front lines spans len room answer has enough finds x =
    let h = has.1.1.0 in
    let plain = has.1.1.1 in
    let few = has.1.1.2 in
    let at = finds h (drop len front) plain.0 (omega (arith, few, enough)) in
    let head : IsHead front len h =
    record { within = has.0; reads = plain; lines = few; parts = has.1.0; said = has.1.1.3 } in (
      h,
      head,
      answers_key len (asked_key h) answer
          (subst (λ asked. Answers answer asked) (asked_at front lines spans h at) x),
    )

-- A whole head at the front of the bytes.
pub judged_whole : (bytes front : List ℕ) (len : ℕ) (judged : Judged) → front ≡ take 16384 bytes
    → Answered front len judged → Judges bytes judged
judged_whole bytes front len judged is x = Whole len (subst (λ f. Answered f len judged) is x)

-- No head at the front.
pub judged_none : (bytes front : List ℕ) → front ≡ take 16384 bytes → IsNoRequest front
    → Judges bytes (Refused Bad)
judged_none bytes front is x = NoHead refl (subst (λ f. IsNoRequest f) is x)

-- A head that isn't whole, of too many bytes.
pub judged_long : (bytes front : List ℕ) → front ≡ take 16384 bytes → 16384 ≤ length bytes
    → BeginsRequest front → Judges bytes (Refused TooLong)
judged_long bytes front is long x = Long refl long (subst (λ f. BeginsRequest f) is x)

-- A head that isn't whole, of fewer.
pub judged_more : (bytes front : List ℕ) → front ≡ take 16384 bytes → length bytes < 16384
    → BeginsRequest front → Judges bytes Begun
judged_more bytes front is short x =
    let all : take 16384 bytes ≡ bytes = take_all 16384 bytes (omega (arith, short)) in
    More refl short (subst (λ f. BeginsRequest f) all (subst (λ f. BeginsRequest f) is x))

-- What lies in the front lies in the bytes.
pub lies_in_all : (bytes front : List ℕ) (judged : Judged) → front ≡ take 16384 bytes
    → LiesIn front judged → LiesIn bytes judged
lies_in_all bytes front Begun is x = tt
lies_in_all bytes front (Upgrades accept size) is x =
    omega (arith, length-take 16384 bytes, ap (λ (f : List ℕ). length f) is, x)
lies_in_all bytes front (Refused why) is x = tt

pub ruleset judgements = (judged_whole, judged_none, judged_long, judged_more)
