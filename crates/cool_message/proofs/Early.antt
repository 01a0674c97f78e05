-- The first three faults of a text come by the text alone, before its words are looked at.
use Rattle.std.proofs.Common.{◌≡◌, ◌≢◌, ◌↔◌, ℕ, Bool, true, false, not, eqb, cond, List, [], ◌∷◌, length, Option, Some, None, Result, Ok, Err, IfErr, refl, sym, ap, ◌∙◌, subst, arith}
use Rattle.std.specs.Prelude.{codes}
use Rattle.std.specs.Bool.{⊤}
use Rattle.std.specs.List.{list_all, filter, find, slice_split, join_with_byte}
use Rattle.std.specs.Option.{option_map, option_or}
use Rattle.std.specs.Str.{bytes_eq}
use Rattle.std.proofs.lemmas.Bool.{ne_eqb}
use Rattle.std.proofs.lemmas.List.Splits.{join_with_byte-slice_split}
use Rattle.cool_words.specs.Words.{words, is_blank, is_filled}
use Rattle.cool_message.specs.declared.fault.MessageFault.{MessageFault}
use Rattle.cool_message.specs.declared.fault.MessageFault.TheVariants.{Empty, TooLong, NotUtf8, UnknownCommand, MissingWord, BadWord, RepeatedWord, Memory}
use Rattle.cool_message.specs.declared.fault.Word.TheVariants as word
use Rattle.cool_message.specs.declared.message.ClientMessage.{ClientMessage}
use Rattle.cool_message.specs.declared.message.ClientMessage.TheVariants as message
use Rattle.cool_message.specs.declared.table.Command.{Command}
use Rattle.cool_message.specs.declared.table.Field.{Field}
use Rattle.cool_message.specs.Names.{command_named}
use Rattle.cool_message.specs.Table.{fields_of}
use Rattle.cool_message.specs.Reading.{reading, said, uno, with_command, tabled, fault_of, is_missing, is_bad, is_repeated}

-- none of the first three faults
abbrev IsLate : MessageFault → Type 0
IsLate Empty = ⊥
IsLate TooLong = ⊥
IsLate NotUtf8 = ⊥
IsLate UnknownCommand = ⊤
IsLate (MissingWord name) = ⊤
IsLate (BadWord name) = ⊤
IsLate (RepeatedWord name) = ⊤
IsLate Memory = ⊤

late_fault : (a b c : Option Field) (f : MessageFault)
    → option_or (option_map (λ field. MissingWord field.word) a) (option_or (option_map (λ field. BadWord field.word) b) (option_map (λ field. RepeatedWord field.word) c)) ≡ Some f → IsLate f
late_fault (Some x) b c f e = let same : MissingWord x.word ≡ f = cc in subst IsLate same tt
late_fault None (Some x) c f e = let same : BadWord x.word ≡ f = cc in subst IsLate same tt
late_fault None None (Some x) f e = let same : RepeatedWord x.word ≡ f = cc in subst IsLate same tt
late_fault None None None f e = absurd (cc)

late_tabled : (first : Command) (list : List (List ℕ)) (r : Option MessageFault) (f : MessageFault) → ((g : MessageFault) → r ≡ Some g → IsLate g) → tabled first list r ≡ Err f → IsLate f
late_tabled first list (Some g) f late e = let same : g ≡ f = cc in subst IsLate same (late g refl)
late_tabled first list None f late e = absurd (cc)

late_command : (r : Option Command) (list : List (List ℕ)) (f : MessageFault) → with_command r list ≡ Err f → IsLate f
late_command None list f e = let same : UnknownCommand ≡ f = cc in subst IsLate same tt
late_command (Some first) list f e =
    late_tabled first list (fault_of (fields_of first) list) f
    (λ g h. late_fault (find (is_missing list) (fields_of first)) (find (is_bad list) (fields_of first)) (find (is_repeated list) (fields_of first)) g h) e

late_uno : (list : List (List ℕ)) (f : MessageFault) → uno list ≡ Err f → IsLate f
late_uno [] f e = let same : MissingWord word.Command ≡ f = cc in subst IsLate same tt
late_uno (second ∷ others) f e =
    elim (bytes_eq second (codes ".uno:Save")) as (λ b. cond b (Ok message.UnoSave) (Err (BadWord word.Command)) ≡ Err f → IsLate f) [
      | true ↦ λ h. absurd (cc)
      | false ↦ λ h. let same : BadWord word.Command ≡ f = cc in subst IsLate same tt
    ] e

-- where there is a word, what the words say is none of the first three faults
late_said : (list : List (List ℕ)) (f : MessageFault) → ¬ (list ≡ []) → said list ≡ Err f → IsLate f
late_said [] f some e = absurd (some refl)
late_said (first ∷ others) f some e =
    elim (bytes_eq first (codes "uno")) as (λ b. cond b (uno others) (with_command (command_named first) others) ≡ Err f → IsLate f) [
      | true ↦ λ h. late_uno others f h
      | false ↦ λ h. late_command (command_named first) others f h
    ] e

-- parts without a byte are blanks alone where they are joined by blanks
blank_parts : (parts : List (List ℕ)) → filter is_filled parts ≡ [] → list_all is_blank (join_with_byte 32 parts) ≡ true
blank_parts [] e = refl
blank_parts ([] ∷ []) e = refl
blank_parts ([] ∷ q ∷ ps) e = blank_parts (q ∷ ps) e
blank_parts ((b ∷ bs) ∷ ps) e =
    let full : is_filled (b ∷ bs) ≡ true = ap not (ne_eqb (length (b ∷ bs)) 0 (λ z. omega arith)) in
    let some : (b ∷ bs) ∷ filter is_filled ps ≡ [] = rw full at e in
    absurd (cc)

words_some : (text : List ℕ) → list_all is_blank text ≡ false → ¬ (words text ≡ [])
unfolding words
words_some text other none =
    let all : list_all is_blank (join_with_byte 32 (slice_split is_blank text)) ≡ true = blank_parts (slice_split is_blank text) none in
    let same : join_with_byte 32 (slice_split is_blank text) ≡ text = join_with_byte-slice_split 32 text in
    let blank : list_all is_blank text ≡ true = rw same at all in
    cc

-- a text with a word gets none of the first three faults
none_early : (text : List ℕ) (r : Result ClientMessage MessageFault) → list_all is_blank text ≡ false → reading text ≡ said (words text)
    → IfErr r (λ fault. fault ≢ Memory → said (words text) ≡ Err fault) → (f : MessageFault) → (IsLate f → ⊥) → f ≢ Memory
    → (r ≡ Err f) ↔ (reading text ≡ Err f)
none_early text r other meaning refused f early known = (
  λ e.
      let told : f ≢ Memory → said (words text) ≡ Err f = rw e at refused in
      absurd (early (late_said (words text) f (words_some text other) (told known))),
  λ e. absurd (early (late_said (words text) f (words_some text other) (sym meaning ∙ e))),
)

pub none_empty : (text : List ℕ) (r : Result ClientMessage MessageFault) → list_all is_blank text ≡ false → reading text ≡ said (words text)
    → IfErr r (λ fault. fault ≢ Memory → said (words text) ≡ Err fault) → (r ≡ Err Empty) ↔ (reading text ≡ Err Empty)
none_empty text r other meaning refused = none_early text r other meaning refused Empty (λ b. b) (λ e. cc)

pub none_too_long : (text : List ℕ) (r : Result ClientMessage MessageFault) → list_all is_blank text ≡ false → reading text ≡ said (words text)
    → IfErr r (λ fault. fault ≢ Memory → said (words text) ≡ Err fault) → (r ≡ Err TooLong) ↔ (reading text ≡ Err TooLong)
none_too_long text r other meaning refused = none_early text r other meaning refused TooLong (λ b. b) (λ e. cc)

pub none_not_utf8 : (text : List ℕ) (r : Result ClientMessage MessageFault) → list_all is_blank text ≡ false → reading text ≡ said (words text)
    → IfErr r (λ fault. fault ≢ Memory → said (words text) ≡ Err fault) → (r ≡ Err NotUtf8) ↔ (reading text ≡ Err NotUtf8)
none_not_utf8 text r other meaning refused = none_early text r other meaning refused NotUtf8 (λ b. b) (λ e. cc)
