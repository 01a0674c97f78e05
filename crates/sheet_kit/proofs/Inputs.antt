-- An input of the kit is the plain step.
use Rattle.std.proofs.Common.{◌≡◌, ℕ, ◌<◌, Bool, true, nat_lt, List, length, Result, Ok, Err, OnOk, OnErr, IfOk, if◌then◌else◌, refl, ap, sym, ◌∙◌, subst, lt-ltb}
use Rattle.kit_trait.specs.declared.values.Input.{Input}
use Rattle.kit_trait.specs.declared.values.Damage.{Damage}
use Rattle.sheet_cells.specs.Cells.{IsCell}
use Rattle.sheet_calc.specs.Books.{Parts}
use Rattle.sheet_rules.specs.declared.cursors.Cursor.{Cursor}
use Rattle.sheet_rules.specs.declared.cursors.Meaning.{Meaning}
use Rattle.sheet_rules.specs.Typing.{Sheet, cursor_of, meaning_of, carried_out, stepped, writes_raw}
use Rattle.sheet_rules.specs.Damage.{damage_between, step_damage}
use Rattle.sheet_rules.specs.Sheets.{IsSheet}
use Rattle.sheet_rules.proofs.Soundness.{cursor_cell, cursor_part, meaning_is, meaning_writes, carried_out_sound}

-- an input to a document that has its part, the cursor of its view there, and what it means
pub record IsMeant (c : Sheet) (input : Input) (a : Cursor) (meaning : Meaning) : Type 0 where
  pub sound : IsSheet c
  pub part : input.part < length c.parts
  pub cursor : a ≡ cursor_of c.cursors input.view.0 input.part
  pub meant : meaning ≡ meaning_of c.parts a input.part input.what

pub cell_of : (c : Sheet) (input : Input) (a : Cursor) → IsSheet c → input.part < length c.parts → a ≡ cursor_of c.cursors input.view.0 input.part → IsCell (length c.parts) a.at
cell_of c input a sound h is =
    subst (λ (k : Cursor). IsCell (length c.parts) k.at) (sym is) (cursor_cell (length c.parts) c.cursors input.view.0 input.part sound.cursors h)

pub raw_of : (c : Sheet) (input : Input) (a : Cursor) (meaning : Meaning) → IsMeant c input a meaning → writes_raw meaning ≡ true
raw_of c input a meaning m =
    ap writes_raw m.meant
    ∙ meaning_writes (length c.parts) (meaning_of c.parts a input.part input.what) (meaning_is (length c.parts) c.parts a input.part input.what m.sound.book (cell_of c input a m.sound m.part m.cursor) m.part)

pub step_of : (c : Sheet) (input : Input) (a : Cursor) (meaning : Meaning) → IsMeant c input a meaning → carried_out c input.view.0 a.at meaning ≡ stepped c input
step_of c input a meaning m =
    ap (carried_out c input.view.0 a.at) m.meant
    ∙ ap (λ (k : Cursor). carried_out c input.view.0 k.at (meaning_of c.parts k input.part input.what)) m.cursor
    ∙ sym (ap (λ (b : Bool). if b then carried_out c input.view.0 (cursor_of c.cursors input.view.0 input.part).at (meaning_of c.parts (cursor_of c.cursors input.view.0 input.part) input.part input.what) else c) (lt-ltb input.part (length c.parts) m.part))

pub sound_of : {X E : Type 0} (r : Result X E) (c new : Sheet) (input : Input) (a : Cursor) (meaning : Meaning) → IsMeant c input a meaning → OnOk r (new ≡ carried_out c input.view.0 a.at meaning) → OnErr r (new.parts ≡ c.parts) → OnErr r (new.cursors ≡ c.cursors) → IsSheet new
sound_of (Ok x) c new input a meaning m is parts cursors =
    let cell = cell_of c input a m.sound m.part m.cursor in
    subst IsSheet (sym (is ∙ ap (carried_out c input.view.0 a.at) m.meant))
    (carried_out_sound c input.view.0 a.at (meaning_of c.parts a input.part input.what) m.sound cell (meaning_is (length c.parts) c.parts a input.part input.what m.sound.book cell m.part))
sound_of (Err e) c new input a meaning m is parts cursors =
    let same : new ≡ c = ap (λ (ps : Parts). record { parts = ps; cursors = new.cursors }) parts ∙ ap (λ (ks : List (ℕ × Cursor)). record { parts = c.parts; cursors = ks }) cursors in
    subst IsSheet (sym same) m.sound

pub contents_of : {X E : Type 0} (r : Result X E) (c now new : Sheet) (input : Input) (a : Cursor) (meaning : Meaning) → c ≡ now → IsMeant c input a meaning → OnOk r (new ≡ carried_out c input.view.0 a.at meaning) → OnOk r (new ≡ stepped now input)
contents_of (Ok x) c now new input a meaning view m is = is ∙ step_of c input a meaning m ∙ ap (λ (s : Sheet). stepped s input) view
contents_of (Err e) c now new input a meaning view m is = tt

pub damage_is : {X E : Type 0} (items : X → List Damage) (r : Result X E) (c now new : Sheet) (input : Input) (a : Cursor) (meaning : Meaning) → c ≡ now → IsMeant c input a meaning → OnOk r (new ≡ carried_out c input.view.0 a.at meaning)
    → IfOk r (λ x. items x ≡ damage_between c.parts new.parts a.at.part) → IfOk r (λ x. items x ≡ step_damage now input)
damage_is items (Ok x) c now new input a meaning view m is told =
    told
    ∙ ap (λ (s : Sheet). damage_between c.parts s.parts a.at.part) (is ∙ step_of c input a meaning m)
    ∙ ap (damage_between c.parts (stepped c input).parts) (ap (λ (k : Cursor). k.at.part) m.cursor ∙ cursor_part c.cursors input.view.0 input.part)
    ∙ ap (λ (s : Sheet). step_damage s input) view
damage_is items (Err e) c now new input a meaning view m is told = tt

-- the part is there in what the kit holds, too
pub part_of : (c now : Sheet) (part : ℕ) → c ≡ now → part < length now.parts → part < length c.parts
part_of c now part view h = subst (λ (s : Sheet). part < length s.parts) (sym view) h
