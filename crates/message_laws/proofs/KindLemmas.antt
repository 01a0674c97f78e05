-- The values of words by their kinds: what is written of a value is a value of the kind again.
use Rattle.std.proofs.Common.{◌≡◌, ℕ, ◌^◌, ◌<◌, ◌≤◌, Bool, true, false, not, ◌&&◌, eqb, ltb, leb, List, length, arith, refl, sym, ap, ◌∙◌, eq-eqb}
use Rattle.std.proofs.lemmas.Bool.{and_parts, leb-true, eqb-true}
use Rattle.std.proofs.lemmas.Bool.Decides.{nat_tests}
use Rattle.std.specs.Fmt.{decimal}
use Rattle.std.specs.List.{list_all}
use Rattle.std.specs.Option.{unwrap_or}
use Rattle.std.specs.Bool.{⊤}
use Rattle.cool_base.specs.Numbers.{number_31, number_64}
use Rattle.cool_words.specs.Lists.{parts, is_list, numbers, list_text}
use Rattle.cool_words.specs.Words.{is_blank}
use Rattle.tile_key.specs.Places.{look_of}
use Rattle.tile_key.proofs.PlaceFacts.{look_same}
use Rattle.cool_message.specs.declared.fault.Word.TheVariants as word
use Rattle.cool_message.specs.declared.message.KeyKind.{KeyKind}
use Rattle.cool_message.specs.declared.message.KeyKind.TheVariants as key
use Rattle.cool_message.specs.declared.message.MouseKind.{MouseKind}
use Rattle.cool_message.specs.declared.message.MouseKind.TheVariants as mouse
use Rattle.cool_message.specs.declared.table.Kind.{Kind}
use Rattle.cool_message.specs.declared.table.Kind.TheVariants as kind
use Rattle.cool_message.specs.Reading.{fits, text_of, number_at, look_at, key_kind, mouse_kind, flag}
use Rattle.cool_message.specs.Writing.{key_text, mouse_text, flag_text}
use Rattle.message_laws.proofs.Texts.{weaker, utf8_from_low}
use Rattle.message_laws.proofs.Parts.{IsSound}
use Rattle.message_laws.proofs.Numbers.{IsWritten, written_31, again_31, again_64, number_again, list_again, is_plain, plain_digits}

-- what is written of a value of the kind
abbrev pub canonical : Kind → List ℕ → List ℕ
canonical kind.Address text = text
canonical kind.KeyType text = key_text (key_kind text)
canonical kind.MouseType text = mouse_text (mouse_kind text)
canonical kind.Number text = decimal (number_at text)
canonical kind.Look text = decimal (look_at text)
canonical kind.Numbers text = list_text (numbers number_31 text)
canonical kind.AsManyNumbers text = list_text (numbers number_31 text)
canonical kind.LongNumbers text = list_text (numbers number_64 text)
canonical kind.Flag text = flag_text (flag text)

-- the most bytes of it
abbrev pub cap : Kind → ℕ
cap kind.Address = 8192
cap kind.KeyType = 20
cap kind.MouseType = 20
cap kind.Number = 20
cap kind.Look = 20
cap kind.Numbers = 21504
cap kind.AsManyNumbers = 21504
cap kind.LongNumbers = 21504
cap kind.Flag = 20

pub record IsGood (of : Kind) (value : List ℕ) : Type 0 where
  pub sound : IsSound value
  pub short : length value ≤ cap of

clean_plain : (b : ℕ) → is_plain b ≡ true → not (is_blank b) ≡ true
unfolding is_plain
clean_plain b h = grind (arith, nat_tests)

low_plain : (b : ℕ) → is_plain b ≡ true → ltb b 128 ≡ true
unfolding is_plain
low_plain b h = grind (arith, nat_tests)

pub sound_plain : (text : List ℕ) → list_all is_plain text ≡ true → IsSound text
sound_plain text h = record {
  clean = weaker is_plain (λ b. not (is_blank b)) clean_plain text h;
  utf8 = utf8_from_low text (weaker is_plain (λ b. ltb b 128) low_plain text h);
}

pub good_key : (k : KeyKind) → IsGood kind.KeyType (key_text k)
good_key key.Input = record { sound = record { clean = refl; utf8 = utf8_from_low (key_text key.Input) refl }; short = omega arith }
good_key key.Up = record { sound = record { clean = refl; utf8 = utf8_from_low (key_text key.Up) refl }; short = omega arith }

pub good_mouse : (k : MouseKind) → IsGood kind.MouseType (mouse_text k)
good_mouse mouse.ButtonDown = record { sound = record { clean = refl; utf8 = utf8_from_low (mouse_text mouse.ButtonDown) refl }; short = omega arith }
good_mouse mouse.ButtonUp = record { sound = record { clean = refl; utf8 = utf8_from_low (mouse_text mouse.ButtonUp) refl }; short = omega arith }
good_mouse mouse.Move = record { sound = record { clean = refl; utf8 = utf8_from_low (mouse_text mouse.Move) refl }; short = omega arith }

pub good_flag : (b : Bool) → IsGood kind.Flag (flag_text b)
good_flag true = record { sound = record { clean = refl; utf8 = utf8_from_low (flag_text true) refl }; short = omega arith }
good_flag false = record { sound = record { clean = refl; utf8 = utf8_from_low (flag_text false) refl }; short = omega arith }

good_number : (text : List ℕ) → IsWritten number_31 (number_at text) → IsGood kind.Number (decimal (number_at text))
good_number text w = record { sound = sound_plain (decimal (number_at text)) (plain_digits (decimal (number_at text)) w.digits); short = w.short }

-- a look is 0 or 1
pub look_few : (n : ℕ) → look_of n ≤ 1
look_few n = grind (arith, nat_tests)

-- a look that is written is read again
look_written : (text : List ℕ) → IsWritten number_31 (look_at text)
look_written text =
    let few : look_at text ≤ 1 = look_few (number_at text) in
    written_31 (look_at text) (omega (arith, few))

good_look : (text : List ℕ) → IsWritten number_31 (look_at text) → IsGood kind.Look (decimal (look_at text))
good_look text w = record { sound = sound_plain (decimal (look_at text)) (plain_digits (decimal (look_at text)) w.digits); short = w.short }

-- what is written is clean, UTF-8 and short
pub good : (list : List (List ℕ)) (of : Kind) (text : List ℕ) → IsSound text → fits list of text ≡ true → IsGood of (canonical of text)
good list kind.Address text sound h = record { sound = sound; short = leb-true (length text) 8192 (and_parts (leb 1 (length text)) (leb (length text) 8192) h).1 }
good list kind.KeyType text sound h = good_key (key_kind text)
good list kind.MouseType text sound h = good_mouse (mouse_kind text)
good list kind.Number text sound h = good_number text (number_again number_31 again_31 text h)
good list kind.Look text sound h = good_look text (look_written text)
good list kind.Numbers text sound h =
    let w = (list_again number_31 again_31 text h).0 in
    record { sound = sound_plain (list_text (numbers number_31 text)) w.plain; short = w.short }
good list kind.AsManyNumbers text sound h =
    let w = (list_again number_31 again_31 text (and_parts (is_list number_31 text) (eqb (length (parts text)) (length (parts (text_of list word.TilePosX)))) h).0).0 in
    record { sound = sound_plain (list_text (numbers number_31 text)) w.plain; short = w.short }
good list kind.LongNumbers text sound h =
    let w = (list_again number_64 again_64 text h).0 in
    record { sound = sound_plain (list_text (numbers number_64 text)) w.plain; short = w.short }
good list kind.Flag text sound h = good_flag (flag text)

-- a list that has to have as many numbers as `tileposx` finds that many
abbrev pub Carries : Kind → List (List ℕ) → List (List ℕ) → Type 0
Carries kind.AsManyNumbers old new = length (parts (text_of new word.TilePosX)) ≡ length (parts (text_of old word.TilePosX))
Carries kind.Address old new = ⊤
Carries kind.KeyType old new = ⊤
Carries kind.MouseType old new = ⊤
Carries kind.Number old new = ⊤
Carries kind.Look old new = ⊤
Carries kind.Numbers old new = ⊤
Carries kind.LongNumbers old new = ⊤
Carries kind.Flag old new = ⊤

pub fits_key : (list : List (List ℕ)) (k : KeyKind) → fits list kind.KeyType (key_text k) ≡ true
fits_key list key.Input = refl
fits_key list key.Up = refl

pub fits_mouse : (list : List (List ℕ)) (k : MouseKind) → fits list kind.MouseType (mouse_text k) ≡ true
fits_mouse list mouse.ButtonDown = refl
fits_mouse list mouse.ButtonUp = refl
fits_mouse list mouse.Move = refl

pub fits_flag : (list : List (List ℕ)) (b : Bool) → fits list kind.Flag (flag_text b) ≡ true
fits_flag list true = refl
fits_flag list false = refl

as_many : (text across new : List ℕ) → (is_list number_31 text && eqb (length (parts text)) (length (parts across))) ≡ true → length (parts new) ≡ length (parts across)
    → (is_list number_31 (list_text (numbers number_31 text)) && eqb (length (parts (list_text (numbers number_31 text)))) (length (parts new))) ≡ true
as_many text across new h carried =
    let both = and_parts (is_list number_31 text) (eqb (length (parts text)) (length (parts across))) h in
    let w = list_again number_31 again_31 text both.0 in
    let same : length (parts (list_text (numbers number_31 text))) ≡ length (parts new) =
    w.0.many ∙ w.1 ∙ eqb-true (length (parts text)) (length (parts across)) both.1 ∙ sym carried in
    rw (w.0.is_list, eq-eqb (length (parts (list_text (numbers number_31 text)))) (length (parts new)) same) refl

-- what is written is of the kind again
pub fits_again : (old new : List (List ℕ)) (of : Kind) (text : List ℕ) → Carries of old new → fits old of text ≡ true → fits new of (canonical of text) ≡ true
fits_again old new kind.Address text carried h = h
fits_again old new kind.KeyType text carried h = fits_key new (key_kind text)
fits_again old new kind.MouseType text carried h = fits_mouse new (mouse_kind text)
fits_again old new kind.Number text carried h =
    let w = number_again number_31 again_31 text h in
    rw w.back refl
fits_again old new kind.Look text carried h = rw (look_written text).back refl
fits_again old new kind.Numbers text carried h = (list_again number_31 again_31 text h).0.is_list
fits_again old new kind.AsManyNumbers text carried h = as_many text (text_of old word.TilePosX) (text_of new word.TilePosX) h carried
fits_again old new kind.LongNumbers text carried h = (list_again number_64 again_64 text h).0.is_list
fits_again old new kind.Flag text carried h = fits_flag new (flag text)

-- and means the same
pub same_key : (k : KeyKind) → key_kind (key_text k) ≡ k
same_key key.Input = refl
same_key key.Up = refl

pub same_mouse : (k : MouseKind) → mouse_kind (mouse_text k) ≡ k
same_mouse mouse.ButtonDown = refl
same_mouse mouse.ButtonUp = refl
same_mouse mouse.Move = refl

pub same_flag : (b : Bool) → flag (flag_text b) ≡ b
same_flag true = refl
same_flag false = refl

pub same_number : (list : List (List ℕ)) (text : List ℕ) → fits list kind.Number text ≡ true → number_at (decimal (number_at text)) ≡ number_at text
same_number list text h = ap (λ o. unwrap_or o 0) (number_again number_31 again_31 text h).back

pub same_look : (text : List ℕ) → look_at (decimal (look_at text)) ≡ look_at text
same_look text =
    ap (λ o. look_of (unwrap_or o 0)) (look_written text).back ∙ look_same (look_at text) (look_few (number_at text))

pub same_numbers : (list : List (List ℕ)) (text : List ℕ) → fits list kind.Numbers text ≡ true → numbers number_31 (list_text (numbers number_31 text)) ≡ numbers number_31 text
same_numbers list text h = (list_again number_31 again_31 text h).0.values

pub same_many : (list : List (List ℕ)) (text : List ℕ) → fits list kind.AsManyNumbers text ≡ true → numbers number_31 (list_text (numbers number_31 text)) ≡ numbers number_31 text
same_many list text h =
    (list_again number_31 again_31 text (and_parts (is_list number_31 text) (eqb (length (parts text)) (length (parts (text_of list word.TilePosX)))) h).0).0.values

pub same_wids : (list : List (List ℕ)) (text : List ℕ) → fits list kind.LongNumbers text ≡ true → numbers number_64 (list_text (numbers number_64 text)) ≡ numbers number_64 text
same_wids list text h = (list_again number_64 again_64 text h).0.values

pub same_count : (list : List (List ℕ)) (text : List ℕ) → fits list kind.Numbers text ≡ true → length (parts (list_text (numbers number_31 text))) ≡ length (parts text)
same_count list text h =
    let w = list_again number_31 again_31 text h in
    w.0.many ∙ w.1
