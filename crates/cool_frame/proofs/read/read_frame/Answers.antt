use Rattle.cool_frame.proofs.ReadLaws.{says_by, gives_again, gives_wrong}
use Rattle.cool_frame.proofs.read.read_frame.Goals as goal

pub returns-clause-fault : goal.returns-clause-fault
returns-clause-fault c = says_by c.args.bytes.now c.frame_of.result c.frame_of.ensures.value c.frame_of.ensures.wrong

pub returns-clause-again : goal.returns-clause-again
returns-clause-again c = gives_again c.args.bytes.now c.frame_of.result c.frame_of.ensures.value

pub returns-clause-wrong : goal.returns-clause-wrong
returns-clause-wrong c = gives_wrong c.args.bytes.now c.frame_of.result c.frame_of.ensures.value
