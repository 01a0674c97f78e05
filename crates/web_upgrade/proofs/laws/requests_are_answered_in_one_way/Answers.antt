use Rattle.web_upgrade.proofs.Stays.{answer_stays, one_answer}
use Rattle.web_upgrade.proofs.laws.requests_are_answered_in_one_way.Goals as goal

pub returns : goal.returns
returns c = record {
  one = one_answer;
  stays = answer_stays;
}
