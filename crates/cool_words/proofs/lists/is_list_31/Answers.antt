use Rattle.std.proofs.Common.{◌≡◌, rules, tests, lit<, true, nat_le, length, refl}
use Rattle.std.proofs.lemmas.Iterator.Splits.{YieldsList-from_str_split}
use Rattle.std.proofs.lemmas.Iterator.Search.{all_from_yields_List}
use Rattle.std.specs.List.{list_all}
use Rattle.std.specs.Option.{is_some}
use Rattle.cool_base.specs.Numbers.{number_31}
use Rattle.cool_words.specs.Lists.{parts}
use Rattle.cool_words.specs.declared.lists.TheConstants.{MOST_NUMBERS}
use Rattle.cool_words.proofs.lists.is_list_31.Goals as goal

pub returns-then-is_short : goal.returns-then-is_short
returns-then-is_short c =
    let all : c.all.result ≡ list_all (λ part. is_some (number_31 part)) (parts c.args.text.now) =
    all_from_yields_List (λ part. is_some (number_31 part)) _ _ _ c.all.ensures.ran (YieldsList-from_str_split 44 c.args.text.now (lit< tt) c.split.ensures.text c.split.ensures.has_more c.split.ensures.pattern) (λ x b q k. search (rules, tests)) in
    let short : nat_le (length (parts c.args.text.now)) MOST_NUMBERS ≡ true = search rules in
    rw (all, short) refl
