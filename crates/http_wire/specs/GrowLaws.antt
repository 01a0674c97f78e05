-- Laws: bytes that come behind a whole head are more of the rest.
use Rattle.std.proofs.Common.{ℕ, ◌≡◌, List, ◌++◌, ap, ◌∙◌, append_assoc}
use Rattle.httparse.specs.Grammar.{print_request, print_response}
use Rattle.http_head.specs.declared.parts.RequestParts.{RequestParts}
use Rattle.http_head.specs.declared.parts.ResponseParts.{ResponseParts}
use Rattle.http_head.specs.Requests.{ReadsRequestHead}
use Rattle.http_head.specs.Responses.{ReadsResponseHead}

longer : (bytes front rest more : List ℕ) → bytes ≡ front ++ rest → bytes ++ more ≡ front ++ (rest ++ more)
longer bytes front rest more is = ap (λ xs. xs ++ more) is ∙ append_assoc front rest more

pub request_grows : (bytes : List ℕ) (parts : RequestParts) (rest more : List ℕ) → ReadsRequestHead bytes parts rest → ReadsRequestHead (bytes ++ more) parts (rest ++ more)
request_grows bytes parts rest more reads = (reads.0, ((reads.1.0.0, longer bytes (print_request reads.0) rest more reads.1.0.1), reads.1.1), reads.2, reads.3)

pub response_grows : (bytes : List ℕ) (parts : ResponseParts) (rest more : List ℕ) → ReadsResponseHead bytes parts rest → ReadsResponseHead (bytes ++ more) parts (rest ++ more)
response_grows bytes parts rest more reads = (reads.0, (reads.1.0, longer bytes (print_response reads.0) rest more reads.1.1), reads.2, reads.3)
