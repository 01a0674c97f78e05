-- Which messages some text says.
use Rattle.std.proofs.Common.{◌≡◌, ℕ, ◌^◌, ◌<◌, ◌≤◌, true, not, ◌&&◌, eqb, leb, List, [], ◌∷◌, ◌++◌, length, Option, Some, None, Ok, arith, refl, sym, ap, ◌∙◌, subst}
use Rattle.std.proofs.lemmas.Bool.{and_parts, leb-true, eqb-true}
use Rattle.std.proofs.lemmas.Str.{IsUtf8-append, IsUtf8-from_is_utf8, is_utf8-from_IsUtf8}
use Rattle.std.proofs.lemmas.Bool.{le-leb, eq-eqb}
use Rattle.std.proofs.lemmas.List.Splits.{length-slice_split}
use Rattle.std.specs.Fmt.{decimal}
use Rattle.std.specs.List.{AllByRecursion, find, list_all}
use Rattle.std.specs.Option.{is_some, unwrap_or}
use Rattle.cool_base.specs.Numbers.{number_31, number_64}
use Rattle.cool_words.specs.Words.{is_blank}
use Rattle.cool_words.specs.Lists.{parts, is_list, number_in, numbers, list_text}
use Rattle.cool_message.specs.declared.fault.Word.{Word}
use Rattle.cool_message.specs.declared.fault.Word.TheVariants as word
use Rattle.cool_message.specs.declared.message.ClientMessage.{ClientMessage}
use Rattle.cool_message.specs.declared.message.ClientMessage.TheVariants as message
use Rattle.cool_message.specs.declared.table.Command.{Command}
use Rattle.cool_message.specs.declared.table.Command.TheVariants as command
use Rattle.cool_message.specs.declared.table.Field.{Field}
use Rattle.cool_message.specs.declared.table.Kind.TheVariants as kind
use Rattle.cool_message.specs.Names.{name_of}
use Rattle.cool_message.specs.Table.{fields_of}
use Rattle.tile_key.specs.Places.{look_of}
use Rattle.tile_key.proofs.PlaceFacts.{look_same}
use Rattle.cool_message.specs.Reading.{reading, fits, text_of, number_at, look_at, is_missing, is_bad, is_repeated, fault_of, message_from}
use Rattle.cool_message.specs.Writing.{written, key_text, mouse_text, flag_text}
use Rattle.message_laws.specs.Bounds.{IsMessage, IsSmall, IsLook, IsAddress}
use Rattle.message_laws.proofs.Texts.{all_join, utf8_from_low}
use Rattle.message_laws.proofs.Parts.{IsSound}
use Rattle.message_laws.proofs.Numbers.{IsWritten, IsWrittenList, written_31, written_64, small_31, small_64, some_is, parts_hold, written_list, length_mapped, plain_digits}
use Rattle.message_laws.proofs.KindLemmas.{sound_plain, look_few, good_key, good_mouse, good_flag, fits_key, fits_mouse, fits_flag, same_key, same_mouse, same_flag}
use Rattle.message_laws.proofs.Lines.{word_list, names}
use Rattle.message_laws.proofs.Lookups.{Fit, fit_from_none, sound_text}
use Rattle.message_laws.proofs.Again.{holds_of_said, tabled_again, uno_again}

small_at : (list : List (List ℕ)) (text : List ℕ) → fits list kind.Number text ≡ true → number_at text < 2 ^ 31
small_at list text h = small_31 text (number_at text) (some_is (number_31 text) h)

look_at_few : (text : List ℕ) → IsLook (look_at text)
look_at_few text = look_few (number_at text)

-- how many numbers a list has, and that they are small
record HasNumbers (P : ℕ → Type 0) (ns : List ℕ) (text : List ℕ) : Type 0 where
  pub all : AllByRecursion P ns
  pub some : 1 ≤ length ns
  pub few : length ns ≤ 1024
  pub count : length ns ≡ length (parts text)

has_numbers : (read : List ℕ → Option ℕ) (P : ℕ → Type 0) → ((text : List ℕ) (n : ℕ) → read text ≡ Some n → P n) → (text : List ℕ) → is_list read text ≡ true → HasNumbers P (numbers read text) text
has_numbers read P holds text h =
    let both = and_parts (leb (length (parts text)) 1024) (list_all (λ p. is_some (read p)) (parts text)) h in
    let few : length (parts text) ≤ 1024 = leb-true (length (parts text)) 1024 both.0 in
    let count : length (numbers read text) ≡ length (parts text) = length_mapped (number_in read) (parts text) in
    let some = length-slice_split (λ b. eqb b 44) text in
    record { all = parts_hold read P holds (parts text) both.1; some = omega arith; few = omega arith; count = count }

address : (list : List (List ℕ)) (text : List ℕ) → IsSound text → fits list kind.Address text ≡ true → IsAddress text
address list text sound h =
    let both = and_parts (leb 1 (length text)) (leb (length text) 8192) h in
    record {
      some = leb-true 1 (length text) both.0;
      short = leb-true (length text) 8192 both.1;
      clean = sound.clean;
      utf8 = is_utf8-from_IsUtf8 text sound.utf8;
    }

bounds_of : (first : Command) (list : List (List ℕ)) → AllByRecursion IsSound list → Fit list (fields_of first) → IsMessage (message_from first (text_of list))
bounds_of command.CoolClient list sound fit = tt
bounds_of command.Load list sound fit = address list (text_of list word.Url) (sound_text list word.Url sound) fit.0
bounds_of command.Key list sound fit = (small_at list (text_of list word.Char) fit.1.0, small_at list (text_of list word.Key) fit.1.1.0)
bounds_of command.Mouse list sound fit = (
  small_at list (text_of list word.X) fit.1.0,
  small_at list (text_of list word.Y) fit.1.1.0,
  small_at list (text_of list word.Count) fit.1.1.1.0,
  small_at list (text_of list word.Buttons) fit.1.1.1.1.0,
  small_at list (text_of list word.Modifier) fit.1.1.1.1.1.0,
)
bounds_of command.Tile list sound fit = record {
  part = small_at list (text_of list word.Part) fit.0;
  width = small_at list (text_of list word.Width) fit.1.0;
  height = small_at list (text_of list word.Height) fit.1.1.0;
  tileposx = small_at list (text_of list word.TilePosX) fit.1.1.1.0;
  tileposy = small_at list (text_of list word.TilePosY) fit.1.1.1.1.0;
  tilewidth = small_at list (text_of list word.TileWidth) fit.1.1.1.1.1.0;
  tileheight = small_at list (text_of list word.TileHeight) fit.1.1.1.1.1.1.0;
  nviewid = look_at_few (text_of list word.NViewId);
}
bounds_of command.TileCombine list sound fit =
    let down = and_parts (is_list number_31 (text_of list word.TilePosY)) (eqb (length (parts (text_of list word.TilePosY))) (length (parts (text_of list word.TilePosX)))) fit.1.1.1.1.0 in
    let xs = has_numbers number_31 IsSmall small_31 (text_of list word.TilePosX) fit.1.1.1.0 in
    let ys = has_numbers number_31 IsSmall small_31 (text_of list word.TilePosY) down.0 in
    record {
      part = small_at list (text_of list word.Part) fit.0;
      width = small_at list (text_of list word.Width) fit.1.0;
      height = small_at list (text_of list word.Height) fit.1.1.0;
      tileposx = xs.all;
      tileposy = ys.all;
      many = (xs.some, xs.few);
      as_many = ys.count ∙ eqb-true (length (parts (text_of list word.TilePosY))) (length (parts (text_of list word.TilePosX))) down.1 ∙ sym xs.count;
      tilewidth = small_at list (text_of list word.TileWidth) fit.1.1.1.1.1.0;
      tileheight = small_at list (text_of list word.TileHeight) fit.1.1.1.1.1.1.0;
      nviewid = look_at_few (text_of list word.NViewId);
    }
bounds_of command.CancelTiles list sound fit = tt
bounds_of command.VisibleArea list sound fit = (
  small_at list (text_of list word.X) fit.0,
  small_at list (text_of list word.Y) fit.1.0,
  small_at list (text_of list word.Width) fit.1.1.0,
  small_at list (text_of list word.Height) fit.1.1.1.0,
)
bounds_of command.Zoom list sound fit = (
  small_at list (text_of list word.TilePixelWidth) fit.0,
  small_at list (text_of list word.TilePixelHeight) fit.1.0,
  small_at list (text_of list word.TileTwipWidth) fit.1.1.0,
  small_at list (text_of list word.TileTwipHeight) fit.1.1.1.0,
  look_at_few (text_of list word.NViewId),
)
bounds_of command.SetPart list sound fit = small_at list (text_of list word.Part) fit.0
bounds_of command.TileProcessed list sound fit =
    let wids = has_numbers number_64 (λ n. n < 2 ^ 64) small_64 (text_of list word.Wids) fit.0 in
    (wids.all, (wids.some, wids.few))
bounds_of command.Save list sound fit = tt

pub bounds : (m : ClientMessage) (text : List ℕ) → reading text ≡ Ok m → IsMessage m
bounds m text h = holds_of_said IsMessage (λ first list sound none. bounds_of first list sound (fit_from_none (fields_of first) list none)) tt m text h

-- the other way: the words of a message within the bounds say it
sound_word : (w : Word) (v : List ℕ) → IsSound v → IsSound (name_of w ++ (61 ∷ v))
sound_word w v sound = record {
  clean = all_join (λ b. not (is_blank b)) (name_of w) (61 ∷ v) (names w).clean sound.clean;
  utf8 = IsUtf8-append (name_of w) (61 ∷ v) (utf8_from_low (name_of w) (names w).low) (IsUtf8-append (61 ∷ []) v (utf8_from_low (61 ∷ []) refl) sound.utf8);
}

sound_list : (fields : List Field) (values : List (List ℕ)) → AllByRecursion IsSound values → AllByRecursion IsSound (word_list fields values)
sound_list [] values all = tt
sound_list (f ∷ fs) [] all = tt
sound_list (f ∷ fs) (v ∷ vs) all = (sound_word f.word v all.0, sound_list fs vs all.1)

none_from_fit : (list : List (List ℕ)) (fields : List Field) → Fit list fields → find (is_bad list) fields ≡ None
none_from_fit list [] fit = refl
none_from_fit list (f ∷ fs) fit = rw (fit.0, none_from_fit list fs fit.1) refl

said_by : (first : Command) (values : List (List ℕ)) (m : ClientMessage)
    → find (is_missing (word_list (fields_of first) values)) (fields_of first) ≡ None
    → find (is_repeated (word_list (fields_of first) values)) (fields_of first) ≡ None
    → Fit (word_list (fields_of first) values) (fields_of first)
    → AllByRecursion IsSound values
    → message_from first (text_of (word_list (fields_of first) values)) ≡ m
    → reading (written m) ≡ Ok m
said_by first values m missing repeated fit sound same =
    let list : List (List ℕ) = word_list (fields_of first) values in
    let none : fault_of (fields_of first) list ≡ None = rw (missing, none_from_fit list (fields_of first) fit, repeated) refl in
    subst (λ (n : ClientMessage). reading (written n) ≡ Ok n) same (tabled_again first list (sound_list (fields_of first) values sound) none)

-- a number as it is written
record IsNumberText (n : ℕ) : Type 0 where
  pub fit : is_some (number_31 (decimal n)) ≡ true
  pub sound : IsSound (decimal n)
  pub value : number_at (decimal n) ≡ n

number_text : (n : ℕ) → n < 2 ^ 31 → IsNumberText n
number_text n small =
    let w = written_31 n small in
    record { fit = ap is_some w.back; sound = sound_plain (decimal n) (plain_digits (decimal n) w.digits); value = ap (λ o. unwrap_or o 0) w.back }

-- a look as it is written
record IsLookText (n : ℕ) : Type 0 where
  pub fit : is_some (number_31 (decimal n)) ≡ true
  pub sound : IsSound (decimal n)
  pub value : look_at (decimal n) ≡ n

look_text : (n : ℕ) → n ≤ 1 → IsLookText n
look_text n few =
    let w = number_text n (omega (arith, few)) in
    record { fit = w.fit; sound = w.sound; value = ap look_of w.value ∙ look_same n few }

all_written : {P : ℕ → Type 0} (read : List ℕ → Option ℕ) → ((n : ℕ) → P n → IsWritten read n) → (ns : List ℕ) → AllByRecursion P ns → AllByRecursion (IsWritten read) ns
all_written read holds [] all = tt
all_written read holds (n ∷ ns) all = (holds n all.0, all_written read holds ns all.1)

url_fits : (url : List ℕ) → IsAddress url → (leb 1 (length url) && leb (length url) 8192) ≡ true
url_fits url a = rw (le-leb 1 (length url) a.some, le-leb (length url) 8192 a.short) refl

many_fits : (xs ys : List ℕ) → IsWrittenList number_31 xs → IsWrittenList number_31 ys → length ys ≡ length xs
    → (is_list number_31 (list_text ys) && eqb (length (parts (list_text ys))) (length (parts (list_text xs)))) ≡ true
many_fits xs ys x y same = rw (y.is_list, eq-eqb (length (parts (list_text ys))) (length (parts (list_text xs))) (y.many ∙ same ∙ sym x.many)) refl

pub text_again : (m : ClientMessage) → IsMessage m → reading (written m) ≡ Ok m
text_again message.CoolClient h = said_by command.CoolClient [] message.CoolClient refl refl tt tt refl
text_again (message.Load url) h = said_by command.Load (url ∷ []) (message.Load url) refl refl (url_fits url h, tt) (record { clean = h.clean; utf8 = IsUtf8-from_is_utf8 url h.utf8 }, tt) refl
text_again (message.Key kind chr code) h =
    let n0 = number_text chr h.0 in
    let n1 = number_text code h.1 in
    said_by command.Key (key_text kind ∷ decimal chr ∷ decimal code ∷ []) (message.Key kind chr code) refl refl (fits_key [] kind, (n0.fit, (n1.fit, tt))) ((good_key kind).sound, (n0.sound, (n1.sound, tt))) (λ i. message.Key (same_key kind i) (n0.value i) (n1.value i))
text_again (message.Mouse kind x y count buttons modifier) h =
    let n0 = number_text x h.0 in
    let n1 = number_text y h.1 in
    let n2 = number_text count h.2 in
    let n3 = number_text buttons h.3 in
    let n4 = number_text modifier h.4 in
    said_by command.Mouse (mouse_text kind ∷ decimal x ∷ decimal y ∷ decimal count ∷ decimal buttons ∷ decimal modifier ∷ []) (message.Mouse kind x y count buttons modifier) refl refl (fits_mouse [] kind, (n0.fit, (n1.fit, (n2.fit, (n3.fit, (n4.fit, tt)))))) ((good_mouse kind).sound, (n0.sound, (n1.sound, (n2.sound, (n3.sound, (n4.sound, tt)))))) (λ i. message.Mouse (same_mouse kind i) (n0.value i) (n1.value i) (n2.value i) (n3.value i) (n4.value i))
text_again (message.Tile t) h =
    let n0 = number_text t.part h.part in
    let n1 = number_text t.width h.width in
    let n2 = number_text t.height h.height in
    let n3 = number_text t.tileposx h.tileposx in
    let n4 = number_text t.tileposy h.tileposy in
    let n5 = number_text t.tilewidth h.tilewidth in
    let n6 = number_text t.tileheight h.tileheight in
    let n7 = look_text t.nviewid h.nviewid in
    said_by command.Tile (decimal t.part ∷ decimal t.width ∷ decimal t.height ∷ decimal t.tileposx ∷ decimal t.tileposy ∷ decimal t.tilewidth ∷ decimal t.tileheight ∷ decimal t.nviewid ∷ []) (message.Tile t) refl refl (n0.fit, (n1.fit, (n2.fit, (n3.fit, (n4.fit, (n5.fit, (n6.fit, (n7.fit, tt)))))))) (n0.sound, (n1.sound, (n2.sound, (n3.sound, (n4.sound, (n5.sound, (n6.sound, (n7.sound, tt)))))))) (λ i. message.Tile (record { part = n0.value i; width = n1.value i; height = n2.value i; tileposx = n3.value i; tileposy = n4.value i; tilewidth = n5.value i; tileheight = n6.value i; nviewid = n7.value i }))
text_again (message.TileCombine t) h =
    let n0 = number_text t.part h.part in
    let n1 = number_text t.width h.width in
    let n2 = number_text t.height h.height in
    let n3 = number_text t.tilewidth h.tilewidth in
    let n4 = number_text t.tileheight h.tileheight in
    let n5 = look_text t.nviewid h.nviewid in
    let some : 0 < length t.tileposx = h.many.0 in
    let few : length t.tileposx ≤ 1024 = h.many.1 in
    let same : length t.tileposy ≡ length t.tileposx = h.as_many in
    let xs = written_list number_31 t.tileposx some few (all_written number_31 written_31 t.tileposx h.tileposx) in
    let ys = written_list number_31 t.tileposy (omega arith) (omega arith) (all_written number_31 written_31 t.tileposy h.tileposy) in
    said_by command.TileCombine (decimal t.part ∷ decimal t.width ∷ decimal t.height ∷ list_text t.tileposx ∷ list_text t.tileposy ∷ decimal t.tilewidth ∷ decimal t.tileheight ∷ decimal t.nviewid ∷ []) (message.TileCombine t) refl refl
    (n0.fit, (n1.fit, (n2.fit, (xs.is_list, (many_fits t.tileposx t.tileposy xs ys same, (n3.fit, (n4.fit, (n5.fit, tt))))))))
    (n0.sound, (n1.sound, (n2.sound, (sound_plain (list_text t.tileposx) xs.plain, (sound_plain (list_text t.tileposy) ys.plain, (n3.sound, (n4.sound, (n5.sound, tt))))))))
    (λ i. message.TileCombine (record { part = n0.value i; width = n1.value i; height = n2.value i; tileposx = xs.values i; tileposy = ys.values i; tilewidth = n3.value i; tileheight = n4.value i; nviewid = n5.value i }))
text_again message.CancelTiles h = said_by command.CancelTiles [] message.CancelTiles refl refl tt tt refl
text_again (message.VisibleArea r) h =
    let n0 = number_text r.x h.0 in
    let n1 = number_text r.y h.1 in
    let n2 = number_text r.w h.2 in
    let n3 = number_text r.h h.3 in
    said_by command.VisibleArea (decimal r.x ∷ decimal r.y ∷ decimal r.w ∷ decimal r.h ∷ []) (message.VisibleArea r) refl refl (n0.fit, (n1.fit, (n2.fit, (n3.fit, tt)))) (n0.sound, (n1.sound, (n2.sound, (n3.sound, tt)))) (λ i. message.VisibleArea (record { x = n0.value i; y = n1.value i; w = n2.value i; h = n3.value i }))
text_again (message.Zoom pixel_w pixel_h twip_w twip_h nviewid) h =
    let n0 = number_text pixel_w h.0 in
    let n1 = number_text pixel_h h.1 in
    let n2 = number_text twip_w h.2 in
    let n3 = number_text twip_h h.3 in
    let n4 = look_text nviewid h.4 in
    said_by command.Zoom (decimal pixel_w ∷ decimal pixel_h ∷ decimal twip_w ∷ decimal twip_h ∷ decimal nviewid ∷ []) (message.Zoom pixel_w pixel_h twip_w twip_h nviewid) refl refl
    (n0.fit, (n1.fit, (n2.fit, (n3.fit, (n4.fit, tt)))))
    (n0.sound, (n1.sound, (n2.sound, (n3.sound, (n4.sound, tt)))))
    (λ i. message.Zoom (n0.value i) (n1.value i) (n2.value i) (n3.value i) (n4.value i))
text_again (message.SetPart part) h =
    let n0 = number_text part h in
    said_by command.SetPart (decimal part ∷ []) (message.SetPart part) refl refl (n0.fit, tt) (n0.sound, tt) (λ i. message.SetPart (n0.value i))
text_again (message.TileProcessed wids) h =
    let ws = written_list number_64 wids h.1.0 h.1.1 (all_written number_64 written_64 wids h.0) in
    said_by command.TileProcessed (list_text wids ∷ []) (message.TileProcessed wids) refl refl (ws.is_list, tt) (sound_plain (list_text wids) ws.plain, tt) (λ i. message.TileProcessed (ws.values i))
text_again (message.Save keep skip) h =
    said_by command.Save (flag_text keep ∷ flag_text skip ∷ []) (message.Save keep skip) refl refl (fits_flag [] keep, (fits_flag [] skip, tt)) ((good_flag keep).sound, ((good_flag skip).sound, tt)) (λ i. message.Save (same_flag keep i) (same_flag skip i))
text_again message.UnoSave h = uno_again
