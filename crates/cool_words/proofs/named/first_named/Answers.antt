use Rattle.std.proofs.Common.{◌≡◌, rules, tests}
use Rattle.std.specs.Option.{option_map}
use Rattle.std.specs.List.{find}
use Rattle.std.proofs.lemmas.Iterator.{YieldsList-from_slice}
use Rattle.std.proofs.lemmas.Iterator.Consumers.{YieldsList-at, YieldsList-from_copied}
use Rattle.std.proofs.lemmas.Iterator.Search.{find_from_yields_List}
use Rattle.cool_words.specs.Words.{is_named}
use Rattle.cool_words.proofs.Mapped.{found-mapped}
use Rattle.cool_words.proofs.named.first_named.Goals as goal

pub returns : goal.returns
returns c =
    let found : option_map (λ word. word) c.find.result ≡ find (λ word. is_named c.args.name.now word.now) c.args.words.now =
    find_from_yields_List (λ word. is_named c.args.name.now word.now) _ _ c.find.result c.find.ensures.ran (YieldsList-from_copied (YieldsList-at c.copied.ensures.source (YieldsList-from_slice c.args.words.now cc))) (λ x b q k. search (rules, tests)) in
    found-mapped (is_named c.args.name.now) (λ word. word.now) c.args.words.now c.find.result found
