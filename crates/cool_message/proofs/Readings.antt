-- What a text means, by its first three tests.
use Rattle.std.proofs.Common.{◌≡◌, ℕ, ◌≤◌, List, length, Err, false, ltb, le-ltb, refl, sym}
use Rattle.std.specs.List.{list_all}
use Rattle.std.specs.Str.{is_utf8, IsUtf8}
use Rattle.std.proofs.lemmas.Str.{is_utf8-from_IsUtf8}
use Rattle.cool_words.specs.Words.{words, is_blank}
use Rattle.cool_message.specs.Reading.{reading, said}
use Rattle.cool_message.specs.declared.fault.MessageFault.TheVariants.{NotUtf8}
use Rattle.cool_message.specs.declared.limits.TheConstants.{MESSAGE_LIMIT}
use Rattle.cool_message.proofs.Letters.{false_for_others}

pub reading_of_words : (text : List ℕ) → list_all is_blank text ≡ false → length text ≤ MESSAGE_LIMIT → IsUtf8 text → reading text ≡ said (words text)
unfolding reading
reading_of_words text blank short utf8 =
    let long : ltb MESSAGE_LIMIT (length text) ≡ false = le-ltb MESSAGE_LIMIT (length text) short in
    rw (blank, long, is_utf8-from_IsUtf8 text utf8) refl

pub reading_of_no_utf8 : (text : List ℕ) → list_all is_blank text ≡ false → length text ≤ MESSAGE_LIMIT → ¬ IsUtf8 text → reading text ≡ Err NotUtf8
unfolding reading
reading_of_no_utf8 text blank short utf8 =
    let long : ltb MESSAGE_LIMIT (length text) ≡ false = le-ltb MESSAGE_LIMIT (length text) short in
    let none : is_utf8 text ≡ false = sym (false_for_others text utf8) in
    rw (blank, long, none) refl
