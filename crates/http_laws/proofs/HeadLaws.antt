-- The laws of heads, for requests and for responses.
use Rattle.std.proofs.Common.{ℕ, ◌≡◌, ◌+◌, ◌-◌, ◌≤◌, List, ◌++◌, length, take, ap, ◌∙◌, arith}
use Rattle.std.proofs.lemmas.List.{length-append}
use Rattle.httparse.specs.Grammar.{print_request, print_response}
use Rattle.http_head.specs.declared.parts.RequestParts.{RequestParts}
use Rattle.http_head.specs.declared.parts.ResponseParts.{ResponseParts}
use Rattle.http_head.specs.Requests.{ReadsRequestHead}
use Rattle.http_head.specs.Responses.{ReadsResponseHead}
use Rattle.http_head.proofs.RequestLaws as ask
use Rattle.http_head.proofs.ResponseLaws as tell
use Rattle.http_wire.specs.Kinds.{requests, responses}
use Rattle.http_laws.proofs.Fronts.{Laws, take_over}

-- the first bytes of a front and what is behind it
first_bytes : (bytes front rest : List ℕ) (n : ℕ) → bytes ≡ front ++ rest → length bytes ≤ n + length rest → take n bytes ≡ front ++ take (n - length front) rest
first_bytes bytes front rest n is within =
    ap (λ xs. take n xs) is ∙ take_over front rest n (omega (arith, length-append front rest, ap length is))

cut_request : (bytes : List ℕ) (p : RequestParts) (r : List ℕ) (n : ℕ) → length bytes ≤ n + length r → ReadsRequestHead bytes p r → (s : List ℕ) × ReadsRequestHead (take n bytes) p s
cut_request bytes p r n within reads = (
  take (n - length (print_request reads.0)) r,
  (reads.0, ((reads.1.0.0, first_bytes bytes (print_request reads.0) r n reads.1.0.1 within), reads.1.1), reads.2, reads.3),
)

cut_response : (bytes : List ℕ) (p : ResponseParts) (r : List ℕ) (n : ℕ) → length bytes ≤ n + length r → ReadsResponseHead bytes p r → (s : List ℕ) × ReadsResponseHead (take n bytes) p s
cut_response bytes p r n within reads = (
  take (n - length (print_response reads.0)) r,
  (reads.0, (reads.1.0, first_bytes bytes (print_response reads.0) r n reads.1.1 within), reads.2, reads.3),
)

pub request_laws : Laws requests
request_laws = record {
  one = ask.one_request;
  not_begun = ask.whole_not_begun;
  not_none = ask.whole_not_none;
  begun_or_none = ask.begun_not_none;
  none_stays = ask.none_stays;
  cut = cut_request;
}

pub response_laws : Laws responses
response_laws = record {
  one = tell.one_response;
  not_begun = tell.whole_not_begun;
  not_none = tell.whole_not_none;
  begun_or_none = tell.begun_not_none;
  none_stays = tell.none_stays;
  cut = cut_response;
}
