use Rattle.std.proofs.Common.{rules, tests, lit<}
use Rattle.std.proofs.lemmas.Iterator.Splits.{YieldsList-from_str_split}
use Rattle.std.proofs.lemmas.Iterator.Consumers.{map_from_collect, YieldsList-from_filter, YieldsList-at}
use Rattle.cool_words.specs.Words.{words, is_filled}
use Rattle.cool_words.proofs.split.filled_parts.Goals as goal

pub returns : goal.returns
unfolding words
returns c = map_from_collect _ c.collect.ensures.ran (YieldsList-from_filter _ is_filled (YieldsList-at c.filter.ensures.source (YieldsList-from_str_split 32 c.args.text.now (lit< tt) c.split.ensures.text c.split.ensures.has_more c.split.ensures.pattern)) c.filter.ensures.closure (λ x r q k. search (rules, tests)))
