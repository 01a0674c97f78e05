use Rattle.std.proofs.Common.{arith}
use Rattle.web_upgrade.proofs.Answering.{judged_whole, judged_more}
use Rattle.web_upgrade.proofs.judging.judged_by.Goals as goal

pub returns-in-Whole-clause-judges : goal.returns-in-Whole-clause-judges
returns-in-Whole-clause-judges c =
    judged_whole c.args.bytes.now c.args.front.now _ c.answer.result c.requires.front c.answer.ensures.answered

pub returns-then-bytes-lt-HEAD_LIMIT-clause-judges : goal.returns-then-bytes-lt-HEAD_LIMIT-clause-judges
returns-then-bytes-lt-HEAD_LIMIT-clause-judges c =
    judged_more c.args.bytes.now c.args.front.now c.requires.front (omega arith) (rw c.in-Begun.is at c.requires.scans)
