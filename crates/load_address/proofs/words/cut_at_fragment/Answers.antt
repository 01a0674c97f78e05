use Rattle.std.proofs.Common.{lit<}
use Rattle.std.proofs.lemmas.Str.Pattern.{split_once_first}
use Rattle.cool_words.proofs.Cuts.{cut_from_search}
use Rattle.load_address.proofs.words.cut_at_fragment.Goals as goal

pub returns : goal.returns
returns c =
    cut_from_search 35 c.args.text.now c.split_once.result
    (split_once_first 35 c.args.text.now c.split_once.result c.split_once.ensures.cases (lit< tt))
