-- What is gathered of more values.
use Rattle.std.proofs.Common.{◌≡◌, ℕ, ◌≤◌, length, take, ℤ, List, [], ◌∷◌, ◌++◌, refl, ap, sym, ◌∙◌, append_assoc}
use Rattle.std.specs.Prelude.{Option, Some, None, fold}
use Rattle.std.specs.List.{filter}
use Rattle.std.specs.Option.{option_or}
use Rattle.std.proofs.lemmas.List.{append-nil, take_all}
use Rattle.formula_base.specs.declared.gathering.Gathered.{Gathered}
use Rattle.formula_base.specs.declared.values.CellFault.{CellFault}
use Rattle.formula_base.specs.declared.values.Value.{Value}
use Rattle.formula_base.specs.declared.values.Value.TheVariants.{Empty, Number, Words, Fault}
use Rattle.formula_base.specs.Evaluation.{numbers_in, first_fault}
use Rattle.formula_base.specs.Gathering.{gathered, is_filled, with_value}

pub numbers_in-append : (vs ws : List Value) → numbers_in (vs ++ ws) ≡ numbers_in vs ++ numbers_in ws
numbers_in-append [] ws = refl
numbers_in-append (Number z ∷ vs) ws = ap (λ (zs : List ℤ). z ∷ zs) (numbers_in-append vs ws)
numbers_in-append (Empty ∷ vs) ws = numbers_in-append vs ws
numbers_in-append (Words t ∷ vs) ws = numbers_in-append vs ws
numbers_in-append (Fault f ∷ vs) ws = numbers_in-append vs ws

pub first_fault-append : (vs ws : List Value) → first_fault (vs ++ ws) ≡ option_or (first_fault vs) (first_fault ws)
first_fault-append [] ws = refl
first_fault-append (Number z ∷ vs) ws = first_fault-append vs ws
first_fault-append (Empty ∷ vs) ws = first_fault-append vs ws
first_fault-append (Words t ∷ vs) ws = first_fault-append vs ws
first_fault-append (Fault f ∷ vs) ws = refl

same_gathered : (n m : List ℤ) (f g : Option CellFault) → n ≡ m → f ≡ g → ◌≡◌ {A = Gathered} (record { numbers = n; fault = f }) (record { numbers = m; fault = g })
same_gathered n m f g p q i = record { numbers = p i; fault = q i }

option_or-none : (o : Option CellFault) → option_or o None ≡ o
option_or-none None = refl
option_or-none (Some f) = refl

-- one more value
pub gathered_push : (vs : List Value) (v : Value) → with_value (gathered vs) v ≡ gathered (vs ++ v ∷ [])
gathered_push vs (Number z) = same_gathered _ _ _ _ (sym (numbers_in-append vs (Number z ∷ []))) (sym (first_fault-append vs (Number z ∷ []) ∙ option_or-none (first_fault vs)))
gathered_push vs (Fault f) = same_gathered _ _ _ _ (sym (numbers_in-append vs (Fault f ∷ []) ∙ append-nil (numbers_in vs))) (sym (first_fault-append vs (Fault f ∷ [])))
gathered_push vs Empty = same_gathered _ _ _ _ (sym (numbers_in-append vs (Empty ∷ []) ∙ append-nil (numbers_in vs))) (sym (first_fault-append vs (Empty ∷ []) ∙ option_or-none (first_fault vs)))
gathered_push vs (Words t) = same_gathered _ _ _ _ (sym (numbers_in-append vs (Words t ∷ []) ∙ append-nil (numbers_in vs))) (sym (first_fault-append vs (Words t ∷ []) ∙ option_or-none (first_fault vs)))

-- all of more values
pub gathered_all : (vs ws : List Value) → fold with_value (gathered vs) ws ≡ gathered (vs ++ ws)
gathered_all vs [] = ap gathered (sym (append-nil vs))
gathered_all vs (w ∷ ws) =
    ap (λ (g : Gathered). fold with_value g ws) (gathered_push vs w) ∙ gathered_all (vs ++ w ∷ []) ws ∙ ap gathered (append_assoc vs (w ∷ []) ws)

-- an Empty value adds nothing
pub gathered_filled : (g : Gathered) (vs : List Value) → fold with_value g (filter is_filled vs) ≡ fold with_value g vs
gathered_filled g [] = refl
gathered_filled g (Empty ∷ vs) = gathered_filled g vs
gathered_filled g (Number z ∷ vs) = gathered_filled (with_value g (Number z)) vs
gathered_filled g (Words t ∷ vs) = gathered_filled (with_value g (Words t)) vs
gathered_filled g (Fault f ∷ vs) = gathered_filled (with_value g (Fault f)) vs

-- so what is gathered of the values that aren't Empty is what is gathered of all
pub gathered_done : (g after : Gathered) (items filled all : List Value) (i : ℕ) → length items ≤ i → after ≡ fold with_value g (take i items) → items ≡ filled → filled ≡ filter is_filled all → after ≡ fold with_value g all
gathered_done g after items filled all i h told items_are is =
    told ∙ ap (fold with_value g) (take_all i items h ∙ items_are ∙ is) ∙ gathered_filled g all
