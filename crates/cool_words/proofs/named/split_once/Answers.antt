use Rattle.cool_words.proofs.Cuts.{cut_from_no_place, cut_from_place}
use Rattle.cool_words.proofs.named.split_once.Goals as goal

pub returns-in-None : goal.returns-in-None
returns-in-None c = cut_from_no_place c.args.byte c.args.line.now c.in-None.ensures

pub returns-in-Some : goal.returns-in-Some
returns-in-Some c = cut_from_place c.args.byte c.args.line.now c.in-Some.place c.in-Some.ensures
