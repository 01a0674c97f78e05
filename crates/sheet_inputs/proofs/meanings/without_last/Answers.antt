use Rattle.std.proofs.Common.{◌≡◌, ap, ◌∙◌, length, rules}
use Rattle.std.specs.String.{string_bytes, string_len}
use Rattle.std.proofs.lemmas.Str.{IsUtf8-string_bytes}
use Rattle.sheet_rules.specs.Typing.{without_last}
use Rattle.sheet_rules.proofs.Typings.{last_gone}
use Rattle.sheet_inputs.proofs.meanings.without_last.Goals as goal

pub returns : goal.returns
returns c =
    let old = c.in_ok-shorter.shorter in
    let new = c.pop.new.self in
    let before : string_len old ≡ length (string_bytes old) = search rules in
    let after : string_len new ≡ length (string_bytes new) = search rules in
    c.of.ensures
    ∙ last_gone (string_bytes old) (string_bytes new) (string_len old) (string_len new) c.pop.result before after (IsUtf8-string_bytes old) (IsUtf8-string_bytes new) c.pop.ensures.bytes c.pop.ensures.none c.pop.ensures.bound
    ∙ ap without_last c.in_ok-shorter.ensures.ok
