-- A command with its words, written in one line.
use Rattle.std.proofs.Common.{◌≡◌, ℕ, ◌+◌, ◌<◌, ◌≤◌, true, false, not, ltb, List, [], ◌∷◌, ◌++◌, length, map, Some, arith, refl, sym, ap, ◌∙◌, length-append, append_assoc, append-nil}
use Rattle.std.proofs.lemmas.Str.{IsUtf8-append, IsUtf8-nil}
use Rattle.std.specs.List.{list_all, AllByRecursion}
use Rattle.std.specs.Str.{IsUtf8, bytes_eq}
use Rattle.std.specs.Prelude.{codes}
use Rattle.cool_words.specs.Words.{is_blank, words}
use Rattle.cool_message.specs.declared.fault.Word.{Word}
use Rattle.cool_message.specs.declared.fault.Word.TheVariants as word
use Rattle.cool_message.specs.declared.table.Command.{Command}
use Rattle.cool_message.specs.declared.table.Command.TheVariants as command
use Rattle.cool_message.specs.declared.table.Field.{Field}
use Rattle.cool_message.specs.Names.{name_of, command_text, command_named}
use Rattle.cool_message.specs.Table.{fields_of}
use Rattle.cool_message.specs.Writing.{spelled}
use Rattle.message_laws.proofs.Texts.{IsClean, words_end, words_step, all_join, utf8_from_low}
use Rattle.message_laws.proofs.KindLemmas.{canonical, cap, IsGood}

-- a name has no blank, is ASCII, and has at most 20 bytes
pub record IsName (name : List ℕ) : Type 0 where
  pub clean : IsClean name
  pub low : list_all (λ b. ltb b 128) name ≡ true
  pub short : length name ≤ 20

pub names : (w : Word) → IsName (name_of w)
names word.Url = record { clean = refl; low = refl; short = omega arith }
names word.«Type» = record { clean = refl; low = refl; short = omega arith }
names word.Char = record { clean = refl; low = refl; short = omega arith }
names word.Key = record { clean = refl; low = refl; short = omega arith }
names word.X = record { clean = refl; low = refl; short = omega arith }
names word.Y = record { clean = refl; low = refl; short = omega arith }
names word.Count = record { clean = refl; low = refl; short = omega arith }
names word.Buttons = record { clean = refl; low = refl; short = omega arith }
names word.Modifier = record { clean = refl; low = refl; short = omega arith }
names word.Part = record { clean = refl; low = refl; short = omega arith }
names word.Width = record { clean = refl; low = refl; short = omega arith }
names word.Height = record { clean = refl; low = refl; short = omega arith }
names word.TilePosX = record { clean = refl; low = refl; short = omega arith }
names word.TilePosY = record { clean = refl; low = refl; short = omega arith }
names word.TileWidth = record { clean = refl; low = refl; short = omega arith }
names word.TileHeight = record { clean = refl; low = refl; short = omega arith }
names word.TilePixelWidth = record { clean = refl; low = refl; short = omega arith }
names word.TilePixelHeight = record { clean = refl; low = refl; short = omega arith }
names word.TileTwipWidth = record { clean = refl; low = refl; short = omega arith }
names word.TileTwipHeight = record { clean = refl; low = refl; short = omega arith }
names word.NViewId = record { clean = refl; low = refl; short = omega arith }
names word.Wids = record { clean = refl; low = refl; short = omega arith }
names word.KeepEdit = record { clean = refl; low = refl; short = omega arith }
names word.SkipUnmodified = record { clean = refl; low = refl; short = omega arith }
names word.Command = record { clean = refl; low = refl; short = omega arith }

-- the values that are written
abbrev pub values_of : (Word → List ℕ) → List Field → List (List ℕ)
values_of text fields = map (λ f. canonical f.kind (text f.word)) fields

abbrev pub word_list : List Field → List (List ℕ) → List (List ℕ)
word_list [] values = []
word_list (f ∷ fs) [] = []
word_list (f ∷ fs) (v ∷ vs) = (name_of f.word ++ (61 ∷ v)) ∷ word_list fs vs

-- the words of a first word with the words behind it
pub words_spelled : (w : List ℕ) (fields : List Field) (values : List (List ℕ)) → IsClean w → 0 < length w → AllByRecursion IsClean values → words (w ++ spelled fields values) ≡ w ∷ word_list fields values
words_spelled w [] values clean long all = ap words (append-nil w) ∙ words_end w clean long
words_spelled w (f ∷ fs) [] clean long all = ap words (append-nil w) ∙ words_end w clean long
words_spelled w (f ∷ fs) (v ∷ vs) clean long all =
    let name : List ℕ = name_of f.word in
    let next : List ℕ = name ++ (61 ∷ v) in
    let next_clean : IsClean next = all_join (λ b. not (is_blank b)) name (61 ∷ v) (names f.word).clean all.0 in
    let next_long : 0 < length next = omega (arith, length-append name (61 ∷ v)) in
    ap (λ bs. words (w ++ (32 ∷ bs))) (sym (append_assoc name (61 ∷ v) (spelled fs vs)))
    ∙ words_step w (next ++ spelled fs vs) clean long
    ∙ ap (λ ws. w ∷ ws) (words_spelled next fs vs next_clean next_long all.1)

abbrev pub AreGood : (Word → List ℕ) → List Field → Type 0
AreGood text fields = AllByRecursion (λ f. IsGood f.kind (canonical f.kind (text f.word))) fields

pub clean_values : (text : Word → List ℕ) (fields : List Field) → AreGood text fields → AllByRecursion IsClean (values_of text fields)
clean_values text [] all = tt
clean_values text (f ∷ fs) all = (all.0.sound.clean, clean_values text fs all.1)

pub utf8_spelled : (text : Word → List ℕ) (fields : List Field) → AreGood text fields → IsUtf8 (spelled fields (values_of text fields))
utf8_spelled text [] all = IsUtf8-nil
utf8_spelled text (f ∷ fs) all =
    let name : List ℕ = name_of f.word in
    let value : List ℕ = canonical f.kind (text f.word) in
    let rest : List ℕ = spelled fs (values_of text fs) in
    IsUtf8-append (32 ∷ []) (name ++ (61 ∷ (value ++ rest))) (utf8_from_low (32 ∷ []) refl)
    (IsUtf8-append name (61 ∷ (value ++ rest)) (utf8_from_low name (names f.word).low)
    (IsUtf8-append (61 ∷ []) (value ++ rest) (utf8_from_low (61 ∷ []) refl)
    (IsUtf8-append value rest all.0.sound.utf8 (utf8_spelled text fs all.1))))

abbrev pub room : List Field → ℕ
room [] = 0
room (f ∷ fs) = 22 + cap f.kind + room fs

pub short_spelled : (text : Word → List ℕ) (fields : List Field) → AreGood text fields → length (spelled fields (values_of text fields)) ≤ room fields
short_spelled text [] all = omega arith
short_spelled text (f ∷ fs) all =
    let value : List ℕ = canonical f.kind (text f.word) in
    let rest : List ℕ = spelled fs (values_of text fs) in
    let here : length value ≤ cap f.kind = all.0.short in
    let named : length (name_of f.word) ≤ 20 = (names f.word).short in
    let behind : length rest ≤ room fs = short_spelled text fs all.1 in
    let outer : length (name_of f.word ++ (61 ∷ (value ++ rest))) ≡ length (name_of f.word) + length (61 ∷ (value ++ rest)) = length-append (name_of f.word) (61 ∷ (value ++ rest)) in
    let inner : length (value ++ rest) ≡ length value + length rest = length-append value rest in
    omega arith

-- what holds of a command's first word and of the length of its line
pub record IsFirst (first : Command) : Type 0 where
  pub clean : IsClean (command_text first)
  pub long : 0 < length (command_text first)
  pub low : list_all (λ b. ltb b 128) (command_text first) ≡ true
  pub short : length (command_text first) ≤ 17
  pub begins : (rest : List ℕ) → list_all is_blank (command_text first ++ rest) ≡ false
  pub named : command_named (command_text first) ≡ Some first
  pub other : bytes_eq (command_text first) (codes "uno") ≡ false
  pub fits : room (fields_of first) ≤ 60000

pub firsts : (first : Command) → IsFirst first
firsts command.CoolClient = record { clean = refl; long = omega arith; low = refl; short = omega arith; begins = λ rest. refl; named = refl; other = refl; fits = omega arith }
firsts command.Load = record { clean = refl; long = omega arith; low = refl; short = omega arith; begins = λ rest. refl; named = refl; other = refl; fits = omega arith }
firsts command.Key = record { clean = refl; long = omega arith; low = refl; short = omega arith; begins = λ rest. refl; named = refl; other = refl; fits = omega arith }
firsts command.Mouse = record { clean = refl; long = omega arith; low = refl; short = omega arith; begins = λ rest. refl; named = refl; other = refl; fits = omega arith }
firsts command.Tile = record { clean = refl; long = omega arith; low = refl; short = omega arith; begins = λ rest. refl; named = refl; other = refl; fits = omega arith }
firsts command.TileCombine = record { clean = refl; long = omega arith; low = refl; short = omega arith; begins = λ rest. refl; named = refl; other = refl; fits = omega arith }
firsts command.CancelTiles = record { clean = refl; long = omega arith; low = refl; short = omega arith; begins = λ rest. refl; named = refl; other = refl; fits = omega arith }
firsts command.VisibleArea = record { clean = refl; long = omega arith; low = refl; short = omega arith; begins = λ rest. refl; named = refl; other = refl; fits = omega arith }
firsts command.Zoom = record { clean = refl; long = omega arith; low = refl; short = omega arith; begins = λ rest. refl; named = refl; other = refl; fits = omega arith }
firsts command.SetPart = record { clean = refl; long = omega arith; low = refl; short = omega arith; begins = λ rest. refl; named = refl; other = refl; fits = omega arith }
firsts command.TileProcessed = record { clean = refl; long = omega arith; low = refl; short = omega arith; begins = λ rest. refl; named = refl; other = refl; fits = omega arith }
firsts command.Save = record { clean = refl; long = omega arith; low = refl; short = omega arith; begins = λ rest. refl; named = refl; other = refl; fits = omega arith }
