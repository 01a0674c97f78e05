use Rattle.std.proofs.Common.{Global, codes, string_bytes, rules}
use Rattle.cool_script.proofs.Words.{two, same_text, second_of, other_text}
use Rattle.cool_script.proofs.command.plays.Goals as goal

pub returns-else-ne-2 : goal.returns-else-ne-2
returns-else-ne-2 c = (
  λ _. two (string_bytes {Z = Global}) c.args.words.now c.first-item.result c.second-item.result (codes "replay") c.args.name.now
      c.in-len2.len_at_least c.in-len2.len_below c.first-item.is c.second-item.is
      (same_text c.as_str.result.now (codes "replay") _ c.if-ne.ensures c.as_str.ensures.value)
      (same_text c.as_str-in-len2.result.now c.args.name.now _ c.if-ne-2.ensures c.as_str-in-len2.ensures.value),
  λ _. search rules,
)

pub returns-then-ne-2 : goal.returns-then-ne-2
returns-then-ne-2 c = (
  λ e. absurd (cc),
  λ is. absurd (other_text c.as_str-in-len2.result.now c.args.name.now _ c.if-ne-2.ensures c.as_str-in-len2.ensures.value
      (second_of (string_bytes {Z = Global}) c.args.words.now c.second-item.result (codes "replay") c.args.name.now c.in-len2.len_at_least c.in-len2.len_below c.second-item.is is)),
)
