use Rattle.http_wire.specs.Kinds.{responses}
use Rattle.http_laws.proofs.HeadLaws.{response_laws}
use Rattle.http_again.proofs.Answered.{itself, itself_between}
use Rattle.http_again.proofs.Fronts.{response_says}
use Rattle.http_again.proofs.responses_are_answered.Goals as goal

pub returns : goal.returns
returns c = record {
  bytes = λ r after bytes ended result is small given answer.
      itself responses response_laws r _ bytes ended result (response_says r after is small) given answer;
  talks = λ r after old new result is small given reads.
      itself_between responses response_laws r _ old new result (response_says r after is small) given reads;
}
