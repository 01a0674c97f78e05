use Rattle.std.proofs.Common.{◌≡◌, rules, tests, length, ◌∙◌}
use Rattle.std.specs.List.{filter}
use Rattle.std.proofs.lemmas.Iterator.{YieldsList-from_slice}
use Rattle.std.proofs.lemmas.Iterator.Consumers.{YieldsList-at, YieldsList-from_filter, count_from_yields_List}
use Rattle.cool_words.specs.Words.{is_named}
use Rattle.cool_words.proofs.Mapped.{count-mapped}
use Rattle.cool_words.proofs.named.count_named.Goals as goal

pub returns : goal.returns
returns c =
    let found : c.count.result ≡ length (filter (λ word. is_named c.args.name.now word.now) c.args.words.now) =
    count_from_yields_List c.filter.result _ c.count.ensures.ran (YieldsList-from_filter _ (λ word. is_named c.args.name.now word.now) (YieldsList-at c.filter.ensures.source (YieldsList-from_slice c.args.words.now cc)) c.filter.ensures.closure (λ x r q k. search (rules, tests))) in
    found ∙ count-mapped (is_named c.args.name.now) (λ word. word.now) c.args.words.now
