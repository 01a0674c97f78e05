use Rattle.std.proofs.Common.{◌≡◌, ◌≤◌, false, length, Err, refl, rules, arith}
use Rattle.std.specs.List.{list_all}
use Rattle.cool_words.specs.Words.{words, is_blank}
use Rattle.cool_message.specs.Reading.{reading, said}
use Rattle.cool_message.specs.declared.fault.MessageFault.TheVariants.{NotUtf8}
use Rattle.cool_message.specs.declared.limits.TheConstants.{MESSAGE_LIMIT}
use Rattle.cool_message.proofs.Early.{none_empty, none_too_long, none_not_utf8}
use Rattle.cool_message.proofs.Readings.{reading_of_words, reading_of_no_utf8}
use Rattle.cool_message.proofs.reading.read_message.Goals as goal
use Rattle.cool_message.proofs.reading.read_message.Goals.{In_default, After-read_text}

same_text : (c : After-read_text) → reading c.args.text.now ≡ said (words c.args.text.now)
same_text c =
    let blank : list_all is_blank c.args.text.now ≡ false = search rules in
    let short : length c.args.text.now ≤ MESSAGE_LIMIT = omega arith in
    reading_of_words c.args.text.now blank short c.in-Ok.ensures.cases.1

meaning : (c : After-read_text) → reading c.args.text.now ≡ said (words c.in-Ok.text.now)
meaning c = rw (c.in-Ok.ensures.cases.0) (same_text c)

not_utf8 : (c : In_default) → reading c.args.text.now ≡ Err NotUtf8
not_utf8 c =
    let blank : list_all is_blank c.args.text.now ≡ false = search rules in
    let short : length c.args.text.now ≤ MESSAGE_LIMIT = omega arith in
    reading_of_no_utf8 c.args.text.now blank short c.in_default.ensures.cases.0

pub returns-in_default-clause-refused : goal.returns-in_default-clause-refused
returns-in_default-clause-refused c = λ _. not_utf8 c

pub returns-in_default-clause-empty : goal.returns-in_default-clause-empty
returns-in_default-clause-empty c = let is : reading c.args.text.now ≡ Err NotUtf8 = not_utf8 c in (λ e. absurd (cc), λ e. absurd (cc))

pub returns-in_default-clause-too_long : goal.returns-in_default-clause-too_long
returns-in_default-clause-too_long c = let is : reading c.args.text.now ≡ Err NotUtf8 = not_utf8 c in (λ e. absurd (cc), λ e. absurd (cc))

pub returns-in_default-clause-not_utf8 : goal.returns-in_default-clause-not_utf8
returns-in_default-clause-not_utf8 c = (λ _. not_utf8 c, λ _. refl)

pub returns-clause-ok : goal.returns-clause-ok
returns-clause-ok c = rw (meaning c) c.read_text.ensures.ok

pub returns-clause-refused : goal.returns-clause-refused
returns-clause-refused c = rw (meaning c) c.read_text.ensures.refused

pub returns-clause-empty : goal.returns-clause-empty
returns-clause-empty c =
    let blank : list_all is_blank c.args.text.now ≡ false = search rules in
    none_empty c.args.text.now c.read_text.result blank (same_text c) (rw c.in-Ok.ensures.cases.0 at c.read_text.ensures.refused)

pub returns-clause-too_long : goal.returns-clause-too_long
returns-clause-too_long c =
    let blank : list_all is_blank c.args.text.now ≡ false = search rules in
    none_too_long c.args.text.now c.read_text.result blank (same_text c) (rw c.in-Ok.ensures.cases.0 at c.read_text.ensures.refused)

pub returns-clause-not_utf8 : goal.returns-clause-not_utf8
returns-clause-not_utf8 c =
    let blank : list_all is_blank c.args.text.now ≡ false = search rules in
    none_not_utf8 c.args.text.now c.read_text.result blank (same_text c) (rw c.in-Ok.ensures.cases.0 at c.read_text.ensures.refused)
