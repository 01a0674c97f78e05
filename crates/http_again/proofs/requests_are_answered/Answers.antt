use Rattle.http_wire.specs.Kinds.{requests}
use Rattle.http_laws.proofs.HeadLaws.{request_laws}
use Rattle.http_again.proofs.Answered.{itself, itself_between}
use Rattle.http_again.proofs.Fronts.{request_says}
use Rattle.http_again.proofs.requests_are_answered.Goals as goal

pub returns : goal.returns
returns c = record {
  bytes = λ host r after bytes ended result is small given answer.
      itself requests request_laws r _ bytes ended result (request_says host r after is small) given answer;
  talks = λ host r after old new result is small given reads.
      itself_between requests request_laws r _ old new result (request_says host r after is small) given reads;
}
