-- Requests and responses.
use Rattle.std.specs.Prelude.{ℕ, List}
use Rattle.http_message.specs.declared.Request.{Request}
use Rattle.http_message.specs.declared.Response.{Response}
use Rattle.http_head.specs.declared.parts.RequestParts.{RequestParts}
use Rattle.http_head.specs.declared.parts.ResponseParts.{ResponseParts}
use Rattle.http_head.specs.Requests.{ReadsRequestHead, BeginsRequest, IsNoRequest}
use Rattle.http_head.specs.Responses.{ReadsResponseHead, BeginsResponse, IsNoResponse}
use Rattle.http_wire.specs.Messages.{Kind}
use Rattle.http_wire.specs.GrowLaws.{request_grows, response_grows}

-- the request that a head and a body make
abbrev pub request_of : RequestParts → List ℕ → Request
request_of p body = record { method = p.method; target = p.target; lock = p.lock; over = p.over; old_lock = p.old_lock; body = body }

-- the response that a head and a body make
abbrev pub response_of : ResponseParts → List ℕ → Response
response_of p body = record { status = p.status; lock = p.lock; body = body }

abbrev pub requests : Kind RequestParts Request
requests = record {
  reads = ReadsRequestHead;
  begins = BeginsRequest;
  refuses = IsNoRequest;
  framing = λ p. p.framing;
  message = request_of;
  grows = request_grows;
}

abbrev pub responses : Kind ResponseParts Response
responses = record {
  reads = ReadsResponseHead;
  begins = BeginsResponse;
  refuses = IsNoResponse;
  framing = λ p. p.framing;
  message = response_of;
  grows = response_grows;
}
