-- What is written begins with a whole head within its limit, and says the message.
use Rattle.std.proofs.Common.{ℕ, ◌≡◌, ◌+◌, ◌≤◌, Bool, true, false, List, [], ◌++◌, length, nat_le, Some, None, Ok, Err, refl, sym, ap, ◌∙◌, arith}
use Rattle.std.specs.Prelude.{if◌then◌else◌}
use Rattle.std.proofs.lemmas.List.{length-append}
use Rattle.std.proofs.lemmas.Bool.Decides.{nat_tests}
use Rattle.std.proofs.Math.Seq.{take-append_seam}
use Rattle.outside.specs.declared.faults.WireFault.TheVariants.{BodyTooLong, CutOff}
use Rattle.http_message.specs.declared.Method.{Method}
use Rattle.http_message.specs.declared.Method.TheVariants.{Get, Post, Other}
use Rattle.http_message.specs.declared.Request.{Request}
use Rattle.http_message.specs.declared.Response.{Response}
use Rattle.http_message.specs.Statuses.{is_bodiless}
use Rattle.http_head.specs.declared.framing.Framing.TheVariants.{Empty, Sized}
use Rattle.wire_body.specs.Bodies.{body_says, body_of, no_body}
use Rattle.wire_body.specs.declared.states.TheConstants.{BODY_LIMIT}
use Rattle.http_wire.specs.Messages.{start_of, with_body}
use Rattle.http_head.specs.declared.TheConstants.{HEAD_LIMIT}
use Rattle.http_wire.specs.Messages.Front.{Headed}
use Rattle.http_wire.specs.Kinds.{requests, responses}
use Rattle.http_write.specs.Texts.{request_head, request_bytes, response_head, response_bytes}
use Rattle.http_write.specs.Again.{IsReadableRequest, IsAsked, framing_told, request_parts, IsReadableResponse, response_parts}
use Rattle.http_write.proofs.Again.{request_again, response_again}
use Rattle.http_laws.proofs.Counts.{by_length}
use Rattle.http_again.proofs.Answered.{Say}

fits : (a b : ℕ) → a ≤ b → nat_le a b ≡ true
fits a b less = grind (arith, nat_tests)

-- a body of its length, whatever is after it
sized : (body after : List ℕ) (ended : Bool) → length body ≤ BODY_LIMIT → body_says (body_of (length body)) (body ++ after) ended ≡ Some (Ok body)
sized body after ended within =
    by_length (length body) (body ++ after) ended
    ∙ (λ i. if fits (length body) BODY_LIMIT within i
    then (if fits (length body) (length (body ++ after)) (omega (arith, length-append body after)) i
    then Some (Ok (take-append_seam body after i))
    else (if ended then Some (Err CutOff) else None))
    else Some (Err BodyTooLong))

-- no body, whatever is after it
empty : (body after : List ℕ) (ended : Bool) → body ≡ [] → body_says no_body (body ++ after) ended ≡ Some (Ok body)
empty body after ended none =
    by_length 0 (body ++ after) ended
    ∙ (λ i. if fits 0 BODY_LIMIT (omega arith) i
    then (if fits 0 (length (body ++ after)) (omega arith) i then Some (Ok []) else (if ended then Some (Err CutOff) else None))
    else Some (Err BodyTooLong))
    ∙ ap (λ xs. Some (Ok xs)) (sym none)

asked_says : (method : Method) (body after : List ℕ) (ended : Bool) → IsAsked method body → length body ≤ BODY_LIMIT
    → body_says (start_of (framing_told method body)) (body ++ after) ended ≡ Some (Ok body)
asked_says Get body after ended asked within = empty body after ended asked
asked_says Post body after ended asked within = sized body after ended within
asked_says Other body after ended asked within = absurd asked

told_says : (bodiless : Bool) (body after : List ℕ) (ended : Bool) → (bodiless ≡ true → body ≡ []) → length body ≤ BODY_LIMIT
    → body_says (start_of (if bodiless then Empty else Sized (length body))) (body ++ after) ended ≡ Some (Ok body)
told_says true body after ended due within = empty body after ended (due refl)
told_says false body after ended due within = sized body after ended within

within_limit : (head body after : List ℕ) → length head ≤ HEAD_LIMIT → length ((head ++ body) ++ after) ≤ HEAD_LIMIT + length (body ++ after)
within_limit head body after small = omega (arith, small, length-append (head ++ body) after, length-append head body, length-append body after)

pub request_says : (host : List ℕ) (r : Request) (after : List ℕ) → IsReadableRequest host r → length (request_head host r) ≤ HEAD_LIMIT → Say requests r (request_bytes host r ++ after)
request_says host r after is small = record {
  front = Headed (request_parts r) (r.body ++ after) (request_again host r after is) (within_limit (request_head host r) r.body after small);
  said = λ ended. ap (λ s. with_body requests (request_parts r) s) (asked_says r.method r.body after ended is.asked is.body);
}

pub response_says : (r : Response) (after : List ℕ) → IsReadableResponse r → length (response_head r) ≤ HEAD_LIMIT → Say responses r (response_bytes r ++ after)
response_says r after is small = record {
  front = Headed (response_parts r) (r.body ++ after) (response_again r after is) (within_limit (response_head r) r.body after small);
  said = λ ended. ap (λ s. with_body responses (response_parts r) s) (told_says (is_bodiless r.status) r.body after ended is.bodiless is.body);
}
