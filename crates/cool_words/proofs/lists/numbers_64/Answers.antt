use Rattle.std.proofs.Common.{rules, tests, lit<}
use Rattle.cool_base.specs.Numbers.{number_64}
use Rattle.std.proofs.lemmas.Iterator.Splits.{YieldsList-from_str_split}
use Rattle.std.proofs.lemmas.Iterator.{YieldsList-from_map, items_from_collect}
use Rattle.std.proofs.lemmas.Iterator.Consumers.{YieldsList-at}
use Rattle.cool_words.specs.Lists.{number_in}
use Rattle.cool_words.proofs.lists.numbers_64.Goals as goal

pub returns : goal.returns
returns c = items_from_collect _ c.collect.ensures.ran (YieldsList-from_map _ (number_in number_64) (YieldsList-at c.map.ensures.source (YieldsList-from_str_split 44 c.args.text.now (lit< tt) c.split.ensures.text c.split.ensures.has_more c.split.ensures.pattern)) c.map.ensures.closure (λ x r q k. search (rules, tests)))
