-- What a command's written words say: each has the value that was written, once.
use Rattle.std.proofs.Common.{◌≡◌, ℕ, true, false, not, cond, List, [], ◌∷◌, Option, Some, None, refl, sym, ap, subst}
use Rattle.std.specs.List.{AllByRecursion, find}
use Rattle.std.specs.Option.{option_map, option_or, option_and_then, unwrap_or}
use Rattle.std.specs.Prelude.{codes}
use Rattle.cool_words.specs.Words.{is_named, value_of, cut_at, first_value}
use Rattle.cool_message.specs.declared.fault.MessageFault.TheVariants.{MissingWord, BadWord, RepeatedWord}
use Rattle.cool_message.specs.declared.fault.Word.{Word}
use Rattle.cool_message.specs.declared.fault.Word.TheVariants as word
use Rattle.cool_message.specs.declared.message.ClientMessage.TheVariants as message
use Rattle.cool_message.specs.declared.table.Command.{Command}
use Rattle.cool_message.specs.declared.table.Command.TheVariants as command
use Rattle.cool_message.specs.declared.table.Field.{Field}
use Rattle.cool_message.specs.Names.{name_of}
use Rattle.cool_message.specs.Table.{fields_of, default_of}
use Rattle.cool_message.specs.Reading.{text_of, fits, is_missing, is_bad, is_repeated, fault_of, key_kind, mouse_kind, flag, message_from}
use Rattle.cool_message.specs.Writing.{written, line}
use Rattle.message_laws.proofs.Texts.{found, utf8_from_low}
use Rattle.message_laws.proofs.Parts.{IsSound, sound_value}
use Rattle.message_laws.proofs.KindLemmas.{canonical, Carries, good, fits_again, same_key, same_mouse, same_flag, same_number, same_look, same_numbers, same_many, same_wids, same_count}
use Rattle.message_laws.proofs.Lines.{values_of, word_list, AreGood}

abbrev pub written_words : Command → List (List ℕ) → List (List ℕ)
written_words first list = word_list (fields_of first) (values_of (text_of list) (fields_of first))

abbrev pub Fit : List (List ℕ) → List Field → Type 0
Fit list fields = AllByRecursion (λ f. fits list f.kind (text_of list f.word) ≡ true) fields

-- a word has the value that was written
abbrev pub Finds : List (List ℕ) → List (List ℕ) → Field → Type 0
Finds old new f = (text_of new f.word ≡ canonical f.kind (text_of old f.word)) × Carries f.kind old new

pub lookups : (first : Command) (list : List (List ℕ)) → Fit list (fields_of first) → AllByRecursion (Finds list (written_words first list)) (fields_of first)
lookups command.CoolClient list all = tt
lookups command.Load list all = ((refl, tt), tt)
lookups command.Key list all = ((refl, tt), ((refl, tt), ((refl, tt), tt)))
lookups command.Mouse list all = ((refl, tt), ((refl, tt), ((refl, tt), ((refl, tt), ((refl, tt), ((refl, tt), tt))))))
lookups command.Tile list all = ((refl, tt), ((refl, tt), ((refl, tt), ((refl, tt), ((refl, tt), ((refl, tt), ((refl, tt), ((refl, tt), tt))))))))
lookups command.TileCombine list all = ((refl, tt), ((refl, tt), ((refl, tt), ((refl, tt), ((refl, same_count list (text_of list word.TilePosX) all.1.1.1.0), ((refl, tt), ((refl, tt), ((refl, tt), tt))))))))
lookups command.CancelTiles list all = tt
lookups command.VisibleArea list all = ((refl, tt), ((refl, tt), ((refl, tt), ((refl, tt), tt))))
lookups command.Zoom list all = ((refl, tt), ((refl, tt), ((refl, tt), ((refl, tt), ((refl, tt), tt)))))
lookups command.SetPart list all = ((refl, tt), tt)
lookups command.TileProcessed list all = ((refl, tt), tt)
lookups command.Save list all = ((refl, tt), ((refl, tt), tt))

-- no word is missing, and none stands twice
pub unfaulted : (first : Command) (list : List (List ℕ)) → (find (is_missing (written_words first list)) (fields_of first) ≡ None) × (find (is_repeated (written_words first list)) (fields_of first) ≡ None)
unfaulted command.CoolClient list = (refl, refl)
unfaulted command.Load list = (refl, refl)
unfaulted command.Key list = (refl, refl)
unfaulted command.Mouse list = (refl, refl)
unfaulted command.Tile list = (refl, refl)
unfaulted command.TileCombine list = (refl, refl)
unfaulted command.CancelTiles list = (refl, refl)
unfaulted command.VisibleArea list = (refl, refl)
unfaulted command.Zoom list = (refl, refl)
unfaulted command.SetPart list = (refl, refl)
unfaulted command.TileProcessed list = (refl, refl)
unfaulted command.Save list = (refl, refl)

fit_again : (old new : List (List ℕ)) (fields : List Field) → Fit old fields → AllByRecursion (Finds old new) fields → find (is_bad new) fields ≡ None
fit_again old new [] all finds = refl
fit_again old new (f ∷ fs) all finds =
    let here : fits new f.kind (text_of new f.word) ≡ true = subst (λ (text : List ℕ). fits new f.kind text ≡ true) (sym finds.0.0) (fits_again old new f.kind (text_of old f.word) finds.0.1 all.0) in
    let behind : find (is_bad new) fs ≡ None = fit_again old new fs all.1 finds.1 in
    rw (here, behind) refl

pub no_fault : (first : Command) (list : List (List ℕ)) → Fit list (fields_of first) → fault_of (fields_of first) (written_words first list) ≡ None
no_fault first list all =
    let none = unfaulted first list in
    rw (none.0, fit_again list (written_words first list) (fields_of first) all (lookups first list all), none.1) refl

-- where there is no fault each word has a value of its kind
second_none : (a b c : Option Field) → option_or (option_map (λ f. MissingWord f.word) a) (option_or (option_map (λ f. BadWord f.word) b) (option_map (λ f. RepeatedWord f.word) c)) ≡ None → b ≡ None
second_none None None c h = refl
second_none None (Some f) c h = absurd (cc)
second_none (Some f) b c h = absurd (cc)

none_bad : (list : List (List ℕ)) (fields : List Field) → find (is_bad list) fields ≡ None → Fit list fields
none_bad list [] h = tt
none_bad list (f ∷ fs) h =
    elim (fits list f.kind (text_of list f.word)) as (λ b. fits list f.kind (text_of list f.word) ≡ b → cond (not b) (Some f) (find (is_bad list) fs) ≡ None → Fit list (f ∷ fs)) [
      | true ↦ λ t e. (t, none_bad list fs e)
      | false ↦ λ t e. absurd (cc)
    ] refl h

pub fit_from_none : (fields : List Field) (list : List (List ℕ)) → fault_of fields list ≡ None → Fit list fields
fit_from_none fields list h = none_bad list fields (second_none (find (is_missing list) fields) (find (is_bad list) fields) (find (is_repeated list) fields) h)

-- the text that stands for a word of sound words is sound
cut_sound : (x v : List ℕ) (r : Option (List ℕ × List ℕ)) → cut_at 61 x ≡ r → option_map (λ sides. sides.1) r ≡ Some v → IsSound x → IsSound v
cut_sound x v None q e sound = absurd (cc)
cut_sound x v (Some p) q e sound = subst IsSound (ap (λ (o : Option (List ℕ)). unwrap_or o []) e) (sound_value x p.0 p.1 q sound)

value_sound : (r : Option (List ℕ)) → ((x : List ℕ) → r ≡ Some x → IsSound x) → (v : List ℕ) → option_and_then value_of r ≡ Some v → IsSound v
value_sound None h v e = absurd (cc)
value_sound (Some x) h v e = cut_sound x v (cut_at 61 x) refl e (h x refl)

sound_default : (w : Word) → IsSound (unwrap_or (default_of w) [])
sound_default word.Count = record { clean = refl; utf8 = utf8_from_low (codes "1") refl }
sound_default word.Buttons = record { clean = refl; utf8 = utf8_from_low (codes "1") refl }
sound_default word.Modifier = record { clean = refl; utf8 = utf8_from_low (codes "0") refl }
sound_default word.NViewId = record { clean = refl; utf8 = utf8_from_low (codes "0") refl }
sound_default word.KeepEdit = record { clean = refl; utf8 = utf8_from_low (codes "0") refl }
sound_default word.SkipUnmodified = record { clean = refl; utf8 = utf8_from_low (codes "0") refl }
sound_default w = record { clean = refl; utf8 = utf8_from_low [] refl }

sound_or : (o : Option (List ℕ)) (w : Word) → ((v : List ℕ) → o ≡ Some v → IsSound v) → IsSound (unwrap_or (option_or o (default_of w)) [])
sound_or None w h = sound_default w
sound_or (Some v) w h = h v refl

pub sound_text : (list : List (List ℕ)) (w : Word) → AllByRecursion IsSound list → IsSound (text_of list w)
sound_text list w all =
    sound_or (first_value (name_of w) list) w (value_sound (find (is_named (name_of w)) list) (λ x e. found IsSound (is_named (name_of w)) list x all e))

goods : (list : List (List ℕ)) (fields : List Field) → AllByRecursion IsSound list → Fit list fields → AreGood (text_of list) fields
goods list [] sound all = tt
goods list (f ∷ fs) sound all = (good list f.kind (text_of list f.word) (sound_text list f.word sound) all.0, goods list fs sound all.1)

pub all_good : (first : Command) (list : List (List ℕ)) → AllByRecursion IsSound list → Fit list (fields_of first) → AreGood (text_of list) (fields_of first)
all_good first list sound all = goods list (fields_of first) sound all

pub written_from : (first : Command) (text : Word → List ℕ) → written (message_from first text) ≡ line first (values_of text (fields_of first))
written_from command.CoolClient text = refl
written_from command.Load text = refl
written_from command.Key text = refl
written_from command.Mouse text = refl
written_from command.Tile text = refl
written_from command.TileCombine text = refl
written_from command.CancelTiles text = refl
written_from command.VisibleArea text = refl
written_from command.Zoom text = refl
written_from command.SetPart text = refl
written_from command.TileProcessed text = refl
written_from command.Save text = refl

-- the written words mean the same message
pub same_message : (first : Command) (list : List (List ℕ)) → Fit list (fields_of first) → message_from first (text_of (written_words first list)) ≡ message_from first (text_of list)
same_message command.CoolClient list all = refl
same_message command.Load list all = refl
same_message command.Key list all =
    let kind = same_key (key_kind (text_of list word.«Type»)) in
    let e0 = same_number list (text_of list word.Char) all.1.0 in
    let e1 = same_number list (text_of list word.Key) all.1.1.0 in
    λ i. message.Key (kind i) (e0 i) (e1 i)
same_message command.Mouse list all =
    let kind = same_mouse (mouse_kind (text_of list word.«Type»)) in
    let e0 = same_number list (text_of list word.X) all.1.0 in
    let e1 = same_number list (text_of list word.Y) all.1.1.0 in
    let e2 = same_number list (text_of list word.Count) all.1.1.1.0 in
    let e3 = same_number list (text_of list word.Buttons) all.1.1.1.1.0 in
    let e4 = same_number list (text_of list word.Modifier) all.1.1.1.1.1.0 in
    λ i. message.Mouse (kind i) (e0 i) (e1 i) (e2 i) (e3 i) (e4 i)
same_message command.Tile list all =
    let e0 = same_number list (text_of list word.Part) all.0 in
    let e1 = same_number list (text_of list word.Width) all.1.0 in
    let e2 = same_number list (text_of list word.Height) all.1.1.0 in
    let e3 = same_number list (text_of list word.TilePosX) all.1.1.1.0 in
    let e4 = same_number list (text_of list word.TilePosY) all.1.1.1.1.0 in
    let e5 = same_number list (text_of list word.TileWidth) all.1.1.1.1.1.0 in
    let e6 = same_number list (text_of list word.TileHeight) all.1.1.1.1.1.1.0 in
    let e7 = same_look (text_of list word.NViewId) in
    λ i. message.Tile (record { part = e0 i; width = e1 i; height = e2 i; tileposx = e3 i; tileposy = e4 i; tilewidth = e5 i; tileheight = e6 i; nviewid = e7 i })
same_message command.TileCombine list all =
    let e0 = same_number list (text_of list word.Part) all.0 in
    let e1 = same_number list (text_of list word.Width) all.1.0 in
    let e2 = same_number list (text_of list word.Height) all.1.1.0 in
    let e3 = same_numbers list (text_of list word.TilePosX) all.1.1.1.0 in
    let e4 = same_many list (text_of list word.TilePosY) all.1.1.1.1.0 in
    let e5 = same_number list (text_of list word.TileWidth) all.1.1.1.1.1.0 in
    let e6 = same_number list (text_of list word.TileHeight) all.1.1.1.1.1.1.0 in
    let e7 = same_look (text_of list word.NViewId) in
    λ i. message.TileCombine (record { part = e0 i; width = e1 i; height = e2 i; tileposx = e3 i; tileposy = e4 i; tilewidth = e5 i; tileheight = e6 i; nviewid = e7 i })
same_message command.CancelTiles list all = refl
same_message command.VisibleArea list all =
    let e0 = same_number list (text_of list word.X) all.0 in
    let e1 = same_number list (text_of list word.Y) all.1.0 in
    let e2 = same_number list (text_of list word.Width) all.1.1.0 in
    let e3 = same_number list (text_of list word.Height) all.1.1.1.0 in
    λ i. message.VisibleArea (record { x = e0 i; y = e1 i; w = e2 i; h = e3 i })
same_message command.Zoom list all =
    let e0 = same_number list (text_of list word.TilePixelWidth) all.0 in
    let e1 = same_number list (text_of list word.TilePixelHeight) all.1.0 in
    let e2 = same_number list (text_of list word.TileTwipWidth) all.1.1.0 in
    let e3 = same_number list (text_of list word.TileTwipHeight) all.1.1.1.0 in
    let e4 = same_look (text_of list word.NViewId) in
    λ i. message.Zoom (e0 i) (e1 i) (e2 i) (e3 i) (e4 i)
same_message command.SetPart list all =
    let e0 = same_number list (text_of list word.Part) all.0 in
    λ i. message.SetPart (e0 i)
same_message command.TileProcessed list all =
    let e0 = same_wids list (text_of list word.Wids) all.0 in
    λ i. message.TileProcessed (e0 i)
same_message command.Save list all =
    let keep = same_flag (flag (text_of list word.KeepEdit)) in
    let skip = same_flag (flag (text_of list word.SkipUnmodified)) in
    λ i. message.Save (keep i) (skip i)
