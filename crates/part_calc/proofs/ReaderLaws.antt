-- Readers are found by the blocks of formulas, cell by cell.
use Rattle.std.proofs.Common.{◌≡◌, ℕ, Bool, true, false, cond, List, [], ◌∷◌, ◌++◌, map, refl, ap, sym, ◌∙◌, append_assoc, append-nil}
use Rattle.std.specs.List.{list_any, filter}
use Rattle.formula_base.specs.Ranges.{Position}
use Rattle.formula_base.specs.Blocks.{is_within}
use Rattle.part_calc.specs.declared.contents.Content.{Content}
use Rattle.part_calc.specs.Contents.{content_of, reads_in, blocks_in}
use Rattle.part_calc.specs.Finding.{is_listed}
use Rattle.part_calc.specs.Parts.{Part}
use Rattle.part_calc.specs.Readers.{readers_of}
use Rattle.part_calc.proofs.KnowLaws.{read_within}

-- what lies in a block of a cell's formula it reads
pub named : (c : Content) (p : Position) (b : Bool) → b ≡ list_any (is_within p) (blocks_in c) → b ≡ is_listed (reads_in c) p
named c p b is = is ∙ read_within c p

one_reader : (p : Position) (e : Position × List ℕ) (part : Part) (b : Bool) → b ≡ is_listed (reads_in (content_of e.1)) p → readers_of (e ∷ part) p ≡ cond b (e.0 ∷ readers_of part p) (readers_of part p)
unfolding readers_of
one_reader p e part b is =
    by (is_listed (reads_in (content_of e.1)) p) ∙ ap (λ (t : Bool). cond t (e.0 ∷ readers_of part p) (readers_of part p)) (sym is)
  where
    by : (t : Bool) → map (λ d. d.0) (cond t (e ∷ filter (λ d. is_listed (reads_in (content_of d.1)) p) part) (filter (λ d. is_listed (reads_in (content_of d.1)) p) part)) ≡ cond t (e.0 ∷ map (λ d. d.0) (filter (λ d. is_listed (reads_in (content_of d.1)) p) part)) (map (λ d. d.0) (filter (λ d. is_listed (reads_in (content_of d.1)) p) part))
    by true = refl
    by false = refl

-- a cell that reads it
pub reader_found : (p : Position) (e : Position × List ℕ) (s t all : Part) (before after : List Position) → before ++ readers_of s p ≡ readers_of all p → s ≡ e ∷ t → true ≡ is_listed (reads_in (content_of e.1)) p → after ≡ before ++ e.0 ∷ [] → after ++ readers_of t p ≡ readers_of all p
reader_found p e s t all before after told is named more =
    ap (λ (xs : List Position). xs ++ readers_of t p) more
    ∙ append_assoc before (e.0 ∷ []) (readers_of t p)
    ∙ ap (λ (xs : List Position). before ++ xs) (sym (ap (λ (u : Part). readers_of u p) is ∙ one_reader p e t true named))
    ∙ told

-- a cell that doesn't
pub reader_passed : (p : Position) (e : Position × List ℕ) (s t all : Part) (before : List Position) → before ++ readers_of s p ≡ readers_of all p → s ≡ e ∷ t → false ≡ is_listed (reads_in (content_of e.1)) p → before ++ readers_of t p ≡ readers_of all p
reader_passed p e s t all before told is named =
    ap (λ (xs : List Position). before ++ xs) (sym (ap (λ (u : Part). readers_of u p) is ∙ one_reader p e t false named)) ∙ told

pub readers_end : (p : Position) (s all : Part) (readers : List Position) → readers ++ readers_of s p ≡ readers_of all p → s ≡ [] → readers ≡ readers_of all p
unfolding readers_of
readers_end p s all readers told none =
    sym (append-nil readers) ∙ ap (λ (u : Part). readers ++ map (λ d. d.0) (filter (λ d. is_listed (reads_in (content_of d.1)) p) u)) (sym none) ∙ told
