use Rattle.http_wire.specs.Kinds.{requests}
use Rattle.http_laws.proofs.HeadLaws.{request_laws}
use Rattle.http_again.proofs.Answered.{itself_between}
use Rattle.http_again.proofs.Fronts.{request_says}
use Rattle.wopi_client.specs.Asks.{request_for}
use Rattle.wopi_limits.proofs.Words.{readable}
use Rattle.wopi_limits.proofs.Lengths.{small}
use Rattle.wopi_limits.proofs.client_requests_are_within.Goals as goal

pub returns : goal.returns
returns c = record {
  read_again = readable;
  head = small;
  answered = λ host ask after old new result named few sound given reads.
      itself_between requests request_laws (request_for ask) _ old new result
      (request_says host (request_for ask) after (readable host ask named sound) (small host ask few sound)) given reads;
}
