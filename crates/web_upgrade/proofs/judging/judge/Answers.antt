use Rattle.web_upgrade.proofs.Answering.{lies_in_all}
use Rattle.web_upgrade.proofs.judging.judge.Goals as goal

pub returns-clause-within : goal.returns-clause-within
returns-clause-within c =
    lies_in_all c.args.bytes.now c.front_of-front.result.now c.judged_by.result c.front_of-front.ensures
    c.judged_by.ensures.within
