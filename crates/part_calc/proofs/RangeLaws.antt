-- The cells of a block that are there have all that the block has.
use Rattle.std.proofs.Common.{◌≡◌, ℕ, ◌≤◌, min, max, Bool, true, false, cond, not, ◌||◌, ◌&&◌, leb-true, nat_le, List, [], ◌∷◌, ◌++◌, map, Option, Some, None, refl, ap, sym, ◌∙◌, ⊎_elim, unwrap_or, arith, append_assoc}
use Rattle.std.specs.BTreeMap.{is_at}
use Rattle.std.specs.BTreeMap.Range.{range_contains}
use Rattle.std.specs.List.{filter, list_all, list_any, flat_map, AllByRecursion}
use Rattle.std.specs.List.Sorted.{IsStrictlySortedBy}
use Rattle.std.specs.Map.{keys_of, lookup}
use Rattle.std.specs.Option.{is_some}
use Rattle.std.specs.Ordering.{nat_cmp, ordering_then, ordering_reverse, is_eq, is_lt, is_le, is_gt}
use Rattle.std.specs.declared.cmp.Ordering.{Ordering}
use Rattle.std.specs.declared.cmp.Ordering.TheVariants.{Less, Equal, Greater}
use Rattle.std.specs.declared.ops.Bound.TheVariants.{Included}
use Rattle.std.proofs.lemmas.Bool.{both_ways, cases_Bool, or_cases, or_left, or_right, and_parts, and_from, cond-true, cond-false}
use Rattle.std.proofs.lemmas.List.{map-append, append-nil}
use Rattle.std.proofs.lemmas.List.Elements.{filter-append}
use Rattle.std.proofs.lemmas.List.Folds.{list_any-append, list_all-append}
use Rattle.std.proofs.lemmas.List.Kept.{IsStrictlySortedBy-filter}
use Rattle.formula_base.specs.declared.values.Value.{Value}
use Rattle.formula_base.specs.declared.values.Value.TheVariants.{Fault}
use Rattle.formula_base.specs.declared.values.CellFault.TheVariants.{Circ}
use Rattle.formula_base.specs.declared.expressions.Expr.{Expr}
use Rattle.formula_base.specs.Blocks.{Block, is_within, blocks_of}
use Rattle.formula_base.specs.Evaluation.{eval_of, reads_of}
use Rattle.formula_base.specs.Gathering.{is_filled}
use Rattle.formula_base.specs.Ranges.{Position, position_cmp, cells_between}
use Rattle.formula_base.proofs.BlockLaws.{between, one_cell}
use Rattle.formula_base.proofs.RangeLaws.{IsBelow, sorted_append, sorted_cells}
use Rattle.part_calc.specs.declared.contents.Content.{Content}
use Rattle.part_calc.specs.declared.contents.Content.TheVariants.{Formula}
use Rattle.part_calc.specs.declared.ranges.Stretch.{Stretch}
use Rattle.part_calc.specs.Contents.{content_of, is_formula}
use Rattle.part_calc.specs.Finding.{Known, seen_in, seen_at, look_at, is_listed}
use Rattle.part_calc.specs.Parts.{Part, text_at, with_text, content_at}
use Rattle.part_calc.specs.Present.{first_of, last_of, whole, before, behind, within, stretched, is_entry_seen, entry_value}
use Rattle.part_calc.proofs.ChangeLaws.{no_text, formula_texted, texted_before}
use Rattle.part_calc.proofs.FindLaws.{is_seen_plain, look_empty}
use Rattle.part_calc.proofs.KnowLaws.{read_within}
use Rattle.part_calc.proofs.ListLaws.{listed_filter, same_filters, above_more}
use Rattle.part_calc.proofs.PositionLaws.{positions_total, at_itself, at_one, at_flip}
use Rattle.part_calc.proofs.TextLaws.{empty_at, text_same, text_other}

-- ---- cell by cell

-- a cell of the block
within_taken : (b : Block) (e : Position × List ℕ) (s t : Part) → s ≡ e ∷ t → true ≡ is_within e.0 b
    → within b s ≡ e ∷ within b t
within_taken b e s t is inside =
    ap (within b) is ∙ ap (λ (u : Bool). cond u (e ∷ within b t) (within b t)) (sym inside)

-- and another
within_passed : (b : Block) (e : Position × List ℕ) (s t : Part) → s ≡ e ∷ t
    → false ≡ is_within e.0 b → within b s ≡ within b t
within_passed b e s t is out =
    ap (within b) is ∙ ap (λ (u : Bool). cond u (e ∷ within b t) (within b t)) (sym out)

-- the values of entries that aren't Empty
abbrev pub filled_of : Known → Part → List Value
filled_of known es = filter is_filled (map (entry_value known) es)

pub value_taken : (known : Known) (b : Block) (e : Position × List ℕ) (s t : Part)
    (first after all : List Value) → first ++ filled_of known (within b s) ≡ all → s ≡ e ∷ t
    → true ≡ is_within e.0 b → after ≡ first ++ filter is_filled (entry_value known e ∷ [])
    → after ++ filled_of known (within b t) ≡ all
value_taken known b e s t first after all told is inside more =
    ap (λ (vs : List Value). vs ++ filled_of known (within b t)) more
    ∙ append_assoc first (filter is_filled (entry_value known e ∷ []))
    (filled_of known (within b t))
    ∙ ap (λ (vs : List Value). first ++ vs)
    (sym
    (filter-append is_filled (entry_value known e ∷ []) (map (entry_value known) (within b t))))
    ∙ ap (λ (u : Part). first ++ filled_of known u) (sym (within_taken b e s t is inside))
    ∙ told

pub value_passed : (known : Known) (b : Block) (e : Position × List ℕ) (s t : Part)
    (first all : List Value) → first ++ filled_of known (within b s) ≡ all → s ≡ e ∷ t
    → false ≡ is_within e.0 b → first ++ filled_of known (within b t) ≡ all
value_passed known b e s t first all told is out =
    ap (λ (u : Part). first ++ filled_of known u) (sym (within_passed b e s t is out)) ∙ told

pub values_end : (known : Known) (b : Block) (s : Part) (first all : List Value)
    → first ++ filled_of known (within b s) ≡ all → s ≡ [] → first ≡ all
values_end known b s first all told none =
    sym (append-nil first) ∙ ap (λ (u : Part). first ++ filled_of known (within b u)) (sym none)
    ∙ told

pub seen_passed : (known : Known) (b : Block) (e : Position × List ℕ) (s t : Part) (all : Bool)
    → list_all (is_entry_seen known) (within b s) ≡ all → s ≡ e ∷ t
    → true ≡ (not (is_within e.0 b) || is_entry_seen known e)
    → list_all (is_entry_seen known) (within b t) ≡ all
seen_passed known b e s t all told is passed = by (is_within e.0 b) refl
  where
    by : (w : Bool) → is_within e.0 b ≡ w → list_all (is_entry_seen known) (within b t) ≡ all
    by true inside =
        ap (λ (u : Bool). u && list_all (is_entry_seen known) (within b t))
        (passed ∙ ap (λ (u : Bool). not u || is_entry_seen known e) inside)
        ∙ ap (list_all (is_entry_seen known)) (sym (within_taken b e s t is (sym inside))) ∙ told
    by false out =
        ap (list_all (is_entry_seen known)) (sym (within_passed b e s t is (sym out))) ∙ told

pub seen_stopped : (known : Known) (b : Block) (e : Position × List ℕ) (s t : Part) (all : Bool)
    → list_all (is_entry_seen known) (within b s) ≡ all → s ≡ e ∷ t
    → false ≡ (not (is_within e.0 b) || is_entry_seen known e) → false ≡ all
seen_stopped known b e s t all told is stopped = by (is_within e.0 b) refl
  where
    by : (w : Bool) → is_within e.0 b ≡ w → false ≡ all
    by true inside =
        ap (λ (u : Bool). u && list_all (is_entry_seen known) (within b t))
        (stopped ∙ ap (λ (u : Bool). not u || is_entry_seen known e) inside)
        ∙ ap (list_all (is_entry_seen known)) (sym (within_taken b e s t is (sym inside))) ∙ told
    by false out =
        absurd
        (both_ways true
        (sym (stopped ∙ ap (λ (u : Bool). not u || is_entry_seen known e) out)) refl)

pub seen_end : (known : Known) (b : Block) (s : Part) (all : Bool)
    → list_all (is_entry_seen known) (within b s) ≡ all → s ≡ [] → true ≡ all
seen_end known b s all told none =
    ap (λ (u : Part). list_all (is_entry_seen known) (within b u)) (sym none) ∙ told

-- ---- tests of cells in lists

all_from : (test : Position → Bool) (ps : List Position)
    → ((p : Position) → is_listed ps p ≡ true → test p ≡ true) → list_all test ps ≡ true
all_from test [] h = refl
all_from test (p ∷ ps) h =
    and_from (test p) (list_all test ps)
    (h p (or_left (is_at (position_cmp p) p) (is_listed ps p) (at_itself p)))
    (all_from test ps
    (λ q listed. h q (or_right (is_at (position_cmp q) p) (is_listed ps q) listed)))

all_to : (test : Position → Bool) (ps : List Position) → list_all test ps ≡ true → (p : Position)
    → is_listed ps p ≡ true → test p ≡ true
all_to test [] all p h = absurd (both_ways false refl h)
all_to test (q ∷ ps) all p h =
    let parts = and_parts (test q) (list_all test ps) all in
    ⊎_elim (λ (here : is_at (position_cmp p) q ≡ true). ap test (at_one p q here) ∙ parts.0)
    (λ (there : is_listed ps p ≡ true). all_to test ps parts.1 p there)
    (or_cases (is_at (position_cmp p) q) (is_listed ps p) h)

half_same : (test : Position → Bool) (xs ys : List Position)
    → ((p : Position) → test p ≡ false → is_listed xs p ≡ is_listed ys p) → list_all test ys ≡ true
    → list_all test xs ≡ true
half_same test xs ys same all =
    all_from test xs
    (λ p h. ⊎_elim (λ (e : test p ≡ true). e)
    (λ (e : test p ≡ false). all_to test ys all p (sym (same p e) ∙ h))
    (cases_Bool (test p)))

-- lists that have the same of the cells that fail
all_same : (test : Position → Bool) (xs ys : List Position)
    → ((p : Position) → test p ≡ false → is_listed xs p ≡ is_listed ys p)
    → list_all test xs ≡ list_all test ys
all_same test xs ys same =
    equal (list_all test xs) (list_all test ys) (half_same test ys xs (λ p e. sym (same p e)))
    (half_same test xs ys same)
  where
    equal : (a b : Bool) → (a ≡ true → b ≡ true) → (b ≡ true → a ≡ true) → a ≡ b
    equal true b f g = sym (f refl)
    equal false true f g = g refl
    equal false false f g = refl

all_flat : (test : Position → Bool) (blocks : List Block)
    → list_all (λ b. list_all test (cells_between b.0 b.1)) blocks
    ≡ list_all test (flat_map (λ b. cells_between b.0 b.1) blocks)
all_flat test [] = refl
all_flat test (b ∷ blocks) =
    ap (λ (t : Bool). list_all test (cells_between b.0 b.1) && t) (all_flat test blocks)
    ∙ sym
    (list_all-append test (cells_between b.0 b.1) (flat_map (λ d. cells_between d.0 d.1) blocks))

listed_flat : (blocks : List Block) (p : Position)
    → is_listed (flat_map (λ b. cells_between b.0 b.1) blocks) p ≡ list_any (is_within p) blocks
listed_flat [] p = refl
listed_flat (b ∷ blocks) p =
    list_any-append (is_at (position_cmp p)) (cells_between b.0 b.1)
    (flat_map (λ d. cells_between d.0 d.1) blocks)
    ∙ ap (λ (t : Bool). t || is_listed (flat_map (λ d. cells_between d.0 d.1) blocks) p)
    (between p b.0 b.1)
    ∙ ap (λ (t : Bool). is_within p b || t) (listed_flat blocks p)

-- all cells of the blocks of an expression are seen where all cells that it reads are
all_read : (part : Part) (known : Known) (e : Expr) (blocks : List Block) (b : Bool)
    → blocks ≡ blocks_of e
    → b
    ≡ list_all (λ d. list_all (λ r. is_some (seen_at part known r)) (cells_between d.0 d.1)) blocks
    → b ≡ list_all (λ r. is_some (seen_at part known r)) (reads_of e)
all_read part known e blocks b is told =
    let seen = λ (r : Position). is_some (seen_at part known r) in
    told ∙ all_flat seen blocks
    ∙ all_same seen (flat_map (λ d. cells_between d.0 d.1) blocks) (reads_of e)
    (λ p lost. listed_flat blocks p ∙ ap (list_any (is_within p)) is ∙ read_within (Formula e) p)

-- so the value of an expression is found, or it waits
pub attempt_seen : (part : Part) (known : Known) (e : Expr) (blocks : List Block) (b : Bool)
    (v : Value) → blocks ≡ blocks_of e
    → b
    ≡ list_all (λ d. list_all (λ r. is_some (seen_at part known r)) (cells_between d.0 d.1)) blocks
    → b ≡ true → v ≡ eval_of (look_at part known) e
    → Some v
    ≡ cond (list_all (λ r. is_some (seen_at part known r)) (reads_of e))
    (Some (eval_of (look_at part known) e)) None
attempt_seen part known e blocks b v is told seen value =
    ap Some value
    ∙ sym
    (cond-true (list_all (λ r. is_some (seen_at part known r)) (reads_of e))
    (Some (eval_of (look_at part known) e)) None
    (sym (all_read part known e blocks b is told) ∙ seen))

pub attempt_unseen : (part : Part) (known : Known) (e : Expr) (blocks : List Block) (b : Bool)
    → blocks ≡ blocks_of e
    → b
    ≡ list_all (λ d. list_all (λ r. is_some (seen_at part known r)) (cells_between d.0 d.1)) blocks
    → b ≡ false
    → None
    ≡ cond (list_all (λ r. is_some (seen_at part known r)) (reads_of e))
    (Some (eval_of (look_at part known) e)) None
attempt_unseen part known e blocks b is told lost =
    sym
    (cond-false (list_all (λ r. is_some (seen_at part known r)) (reads_of e))
    (Some (eval_of (look_at part known) e)) None
    (sym (all_read part known e blocks b is told) ∙ lost))

-- ---- values of cells in lists

filter_values : (look : Position → Value) (ps : List Position)
    → filter is_filled (map look ps) ≡ map look (filter (λ p. is_filled (look p)) ps)
filter_values look [] = refl
filter_values look (p ∷ ps) = by (is_filled (look p)) (filter_values look ps)
  where
    by : (b : Bool)
        → filter is_filled (map look ps) ≡ map look (filter (λ q. is_filled (look q)) ps)
        → cond b (look p ∷ filter is_filled (map look ps)) (filter is_filled (map look ps))
        ≡ map look
        (cond b (p ∷ filter (λ q. is_filled (look q)) ps) (filter (λ q. is_filled (look q)) ps))
    by true ih = ap (λ (vs : List Value). look p ∷ vs) ih
    by false ih = ih

-- cells in order, among them each of a block that had a text or is edited
record IsPresent (cells : Part) (at : Position) (b : Block) (ps : List Position) : Type 0 where
  ordered : IsStrictlySortedBy position_cmp ps
  listed : (p : Position) → (is_at (position_cmp p) at || is_listed (keys_of cells) p) ≡ true
      → is_listed ps p ≡ is_within p b

filled_texted : (part : Part) (known : Known) (p : Position)
    → is_filled (look_at part known p) ≡ true → is_listed (keys_of part) p ≡ true
filled_texted part known p h =
    ⊎_elim (λ (e : is_listed (keys_of part) p ≡ true). e)
    (λ (e : is_listed (keys_of part) p ≡ false).
    absurd
    (both_ways (is_filled (look_at part known p))
    (ap is_filled (sym (look_empty part known p (empty_at part p (no_text part p e))))) h))
    (cases_Bool (is_listed (keys_of part) p))

unseen_formula : (part : Part) (known : Known) (p : Position)
    → is_some (seen_at part known p) ≡ false → is_formula (content_at part p) ≡ true
unseen_formula part known p lost =
    ⊎_elim (λ (e : is_formula (content_at part p) ≡ true). e)
    (λ (e : is_formula (content_at part p) ≡ false). absurd
    (both_ways (is_some (seen_at part known p)) lost (is_seen_plain part known p e)))
    (cases_Bool (is_formula (content_at part p)))

-- these cells have the values of the block
values_present : (cells : Part) (at : Position) (raw : List ℕ) (known : Known) (b : Block)
    (ps : List Position) → IsStrictlySortedBy position_cmp (keys_of cells) → IsPresent cells at b ps
    → filter is_filled (map (look_at (with_text cells at raw) known) ps)
    ≡ filter is_filled (map (look_at (with_text cells at raw) known) (cells_between b.0 b.1))
values_present cells at raw known b ps sorted present =
    let part = with_text cells at raw in
    let look = look_at part known in
    filter_values look ps
    ∙ ap (map look)
    (same_filters (λ p. is_filled (look p)) ps (cells_between b.0 b.1) present.ordered
    (sorted_cells b.0 b.1)
    (λ p h. present.listed p (texted_before cells at raw p sorted (filled_texted part known p h))
    ∙ sym (between p b.0 b.1)))
    ∙ sym (filter_values look (cells_between b.0 b.1))

-- and all are seen where those of the block are
seen_present : (cells : Part) (at : Position) (raw : List ℕ) (known : Known) (b : Block)
    (ps : List Position) → IsStrictlySortedBy position_cmp (keys_of cells) → IsPresent cells at b ps
    → list_all (λ r. is_some (seen_at (with_text cells at raw) known r)) ps
    ≡ list_all (λ r. is_some (seen_at (with_text cells at raw) known r)) (cells_between b.0 b.1)
seen_present cells at raw known b ps sorted present =
    let part = with_text cells at raw in
    all_same (λ r. is_some (seen_at part known r)) ps (cells_between b.0 b.1)
    (λ p lost. present.listed p
    (texted_before cells at raw p sorted (formula_texted part p (unseen_formula part known p lost)))
    ∙ sym (between p b.0 b.1))

-- ---- stretches

-- whether a cell lies in a stretch
abbrev lies : Stretch → Position → Bool
lies s p = is_within p s.block && range_contains position_cmp s.start s.end p

filter_twice : {X : Type 0} (f g : X → Bool) (xs : List X)
    → filter g (filter f xs) ≡ filter (λ x. g x && f x) xs
filter_twice f g [] = refl
filter_twice {X} f g (x ∷ xs) = by (f x) (g x) refl (filter_twice f g xs)
  where
    by : (a b : Bool) → g x ≡ b → filter g (filter f xs) ≡ filter (λ y. g y && f y) xs
        → filter g (cond a (x ∷ filter f xs) (filter f xs))
        ≡ cond (b && a) (x ∷ filter (λ y. g y && f y) xs) (filter (λ y. g y && f y) xs)
    by true true e ih =
        ap (λ (t : Bool). cond t (x ∷ filter g (filter f xs)) (filter g (filter f xs))) e
        ∙ ap (λ (ys : List X). x ∷ ys) ih
    by true false e ih =
        ap (λ (t : Bool). cond t (x ∷ filter g (filter f xs)) (filter g (filter f xs))) e ∙ ih
    by false true e ih = ih
    by false false e ih = ih

stretched_is : (s : Stretch) (cells : Part) → stretched s cells ≡ filter (λ e. lies s e.0) cells
stretched_is s cells =
    filter_twice (λ e. range_contains position_cmp s.start s.end e.0)
    (λ e. is_within e.0 s.block) cells

-- each entry has its cell's text
texts_above : (e : Position × List ℕ) (es ds : Part)
    → AllByRecursion (λ y. position_cmp e.0 y ≡ Less) (keys_of ds)
    → AllByRecursion (λ d. text_at es d.0 ≡ d.1) ds
    → AllByRecursion (λ d. text_at (e ∷ es) d.0 ≡ d.1) ds
unfolding text_at
texts_above e es [] above all = tt
texts_above e es (d ∷ ds) above all = (
  ap (λ (o : Option (List ℕ)). unwrap_or o [])
      (cond-false (is_at (position_cmp d.0) e.0) (Some e.1) (lookup (is_at (position_cmp d.0)) es)
      (at_flip d.0 e.0 ∙ ap is_eq above.0))
      ∙ all.0,
  texts_above e es ds above.1 all.1,
)

each_text : (es : Part) → IsStrictlySortedBy position_cmp (keys_of es)
    → AllByRecursion (λ e. text_at es e.0 ≡ e.1) es
unfolding text_at IsStrictlySortedBy
each_text [] sorted = tt
each_text (e ∷ es) sorted = (
  ap (λ (o : Option (List ℕ)). unwrap_or o [])
      (cond-true (is_at (position_cmp e.0) e.0) (Some e.1) (lookup (is_at (position_cmp e.0)) es)
      (at_itself e.0)),
  texts_above e es es sorted.0 (each_text es sorted.1),
)

-- what holds of a stretch's entries by their texts holds by their cells
entries_map : {X : Type 0} (f : Position × List ℕ → X) (look : Position → X)
    (test : Position → Bool) (texts : Position → List ℕ) (es : Part)
    → ((e : Position × List ℕ) → texts e.0 ≡ e.1 → test e.0 ≡ true → f e ≡ look e.0)
    → AllByRecursion (λ e. texts e.0 ≡ e.1) es
    → map f (filter (λ e. test e.0) es) ≡ map look (filter test (keys_of es))
entries_map f look test texts [] same all = refl
entries_map {X} f look test texts (e ∷ es) same all =
    by (test e.0) refl (entries_map f look test texts es same all.1)
  where
    by : (b : Bool) → test e.0 ≡ b
        → map f (filter (λ d. test d.0) es) ≡ map look (filter test (keys_of es))
        → map f (cond b (e ∷ filter (λ d. test d.0) es) (filter (λ d. test d.0) es))
        ≡ map look (cond b (e.0 ∷ filter test (keys_of es)) (filter test (keys_of es)))
    by true is ih =
        ap (λ (v : X). v ∷ map f (filter (λ d. test d.0) es)) (same e all.0 is)
        ∙ ap (λ (vs : List X). look e.0 ∷ vs) ih
    by false is ih = ih

-- an entry that isn't the edited one says what its cell says
entry_content : (cells : Part) (at : Position) (raw : List ℕ) (test : Position → Bool)
    → IsStrictlySortedBy position_cmp (keys_of cells) → test at ≡ false → (e : Position × List ℕ)
    → text_at cells e.0 ≡ e.1 → test e.0 ≡ true
    → content_of e.1 ≡ content_at (with_text cells at raw) e.0
entry_content cells at raw test sorted none e is passes =
    ap content_of
    (sym is
    ∙ sym
    (text_other cells at raw e.0 sorted
    (λ same. both_ways (test e.0) (ap test same ∙ none) passes)))

stretch_values : (cells : Part) (at : Position) (raw : List ℕ) (known : Known) (s : Stretch)
    → IsStrictlySortedBy position_cmp (keys_of cells) → lies s at ≡ false
    → map (entry_value known) (stretched s cells)
    ≡ map (look_at (with_text cells at raw) known) (filter (lies s) (keys_of cells))
unfolding seen_at
stretch_values cells at raw known s sorted none =
    ap (map (entry_value known)) (stretched_is s cells)
    ∙ entries_map (entry_value known) (look_at (with_text cells at raw) known) (lies s)
    (text_at cells) cells
    (λ e is passes. ap (λ (c : Content). unwrap_or (seen_in c (known e.0)) (Fault Circ))
    (entry_content cells at raw (lies s) sorted none e is passes))
    (each_text cells sorted)

all_passed : {X : Type 0} (f : X → Bool) (xs : List X)
    → list_all f xs ≡ list_all (λ b. b) (map f xs)
all_passed f [] = refl
all_passed f (x ∷ xs) = ap (λ (b : Bool). f x && b) (all_passed f xs)

stretch_seen : (cells : Part) (at : Position) (raw : List ℕ) (known : Known) (s : Stretch)
    → IsStrictlySortedBy position_cmp (keys_of cells) → lies s at ≡ false
    → list_all (is_entry_seen known) (stretched s cells)
    ≡ list_all (λ r. is_some (seen_at (with_text cells at raw) known r))
    (filter (lies s) (keys_of cells))
unfolding seen_at
stretch_seen cells at raw known s sorted none =
    let seen = λ (r : Position). is_some (seen_at (with_text cells at raw) known r) in
    ap (list_all (is_entry_seen known)) (stretched_is s cells)
    ∙ all_passed (is_entry_seen known) (filter (λ e. lies s e.0) cells)
    ∙ ap (list_all (λ (b : Bool). b))
    (entries_map (is_entry_seen known) seen (lies s) (text_at cells) cells
    (λ e is passes. ap (λ (c : Content). is_some (seen_in c (known e.0)))
    (entry_content cells at raw (lies s) sorted none e is passes))
    (each_text cells sorted))
    ∙ sym (all_passed seen (filter (lies s) (keys_of cells)))

-- ---- the corners of a block

at_most : (a b : ℕ) → a ≤ b → is_gt (nat_cmp a b) ≡ false
at_most a b h = grind arith

both_most : (o q : Ordering) → is_gt o ≡ false → is_gt q ≡ false → is_gt (ordering_then o q) ≡ false
both_most Less q h k = refl
both_most Equal q h k = k
both_most Greater q h k = h

pub first_least : (b : Block) (p : Position) → is_within p b ≡ true
    → is_gt (position_cmp (first_of b) p) ≡ false
first_least b p h =
    let rows = min b.0.0 b.1.0 in
    let columns = min b.0.1 b.1.1 in
    let parts =
    and_parts (nat_le rows p.0 && nat_le p.0 (max b.0.0 b.1.0))
    (nat_le columns p.1 && nat_le p.1 (max b.0.1 b.1.1)) h in
    let row = and_parts (nat_le rows p.0) (nat_le p.0 (max b.0.0 b.1.0)) parts.0 in
    let column = and_parts (nat_le columns p.1) (nat_le p.1 (max b.0.1 b.1.1)) parts.1 in
    both_most (nat_cmp rows p.0) (nat_cmp columns p.1) (at_most rows p.0 (leb-true rows p.0 row.0))
    (at_most columns p.1 (leb-true columns p.1 column.0))

pub last_greatest : (b : Block) (p : Position) → is_within p b ≡ true
    → is_gt (position_cmp p (last_of b)) ≡ false
last_greatest b p h =
    let rows = max b.0.0 b.1.0 in
    let columns = max b.0.1 b.1.1 in
    let parts =
    and_parts (nat_le (min b.0.0 b.1.0) p.0 && nat_le p.0 rows)
    (nat_le (min b.0.1 b.1.1) p.1 && nat_le p.1 columns) h in
    let row = and_parts (nat_le (min b.0.0 b.1.0) p.0) (nat_le p.0 rows) parts.0 in
    let column = and_parts (nat_le (min b.0.1 b.1.1) p.1) (nat_le p.1 columns) parts.1 in
    both_most (nat_cmp p.0 rows) (nat_cmp p.1 columns) (at_most p.0 rows (leb-true p.0 rows row.1))
    (at_most p.1 columns (leb-true p.1 columns column.1))

pub corners_forward : (b : Block) → is_gt (position_cmp (first_of b) (last_of b)) ≡ false
corners_forward b =
    both_most (nat_cmp (min b.0.0 b.1.0) (max b.0.0 b.1.0))
    (nat_cmp (min b.0.1 b.1.1) (max b.0.1 b.1.1))
    (at_most (min b.0.0 b.1.0) (max b.0.0 b.1.0) (omega arith))
    (at_most (min b.0.1 b.1.1) (max b.0.1 b.1.1) (omega arith))

not_greater : (o : Ordering) → is_gt o ≡ false → is_le o ≡ true
not_greater Less h = refl
not_greater Equal h = refl
not_greater Greater h = absurd (both_ways true h refl)

not_before : (o q : Ordering) → is_gt o ≡ false → q ≡ ordering_reverse o → not (is_lt q) ≡ true
not_before Less q h e = ap (λ (r : Ordering). not (is_lt r)) e
not_before Equal q h e = ap (λ (r : Ordering). not (is_lt r)) e
not_before Greater q h e = absurd (both_ways true h refl)

-- a cell of a block isn't before its first and not behind its last
from_first : (b : Block) (p : Position) → is_within p b ≡ true
    → is_le (position_cmp (first_of b) p) ≡ true
from_first b p h = not_greater (position_cmp (first_of b) p) (first_least b p h)

to_last : (b : Block) (p : Position) → is_within p b ≡ true
    → not (is_lt (position_cmp (last_of b) p)) ≡ true
to_last b p h =
    not_before (position_cmp p (last_of b)) (position_cmp (last_of b) p) (last_greatest b p h)
    (positions_total.antisymm (last_of b) p)

-- ---- the cells of a block that are there

outside_present : (cells : Part) (at : Position) (b : Block)
    → IsStrictlySortedBy position_cmp (keys_of cells) → is_within at b ≡ false
    → IsPresent cells at b (filter (lies (whole b)) (keys_of cells))
outside_present cells at b sorted out = record {
  ordered = IsStrictlySortedBy-filter position_cmp (lies (whole b)) (keys_of cells) sorted;
  listed = λ p h.
      listed_filter (lies (whole b)) (keys_of cells) p
      ∙ by (is_within p b) (is_le (position_cmp (first_of b) p))
      (not (is_lt (position_cmp (last_of b) p))) (is_at (position_cmp p) at)
      (is_listed (keys_of cells) p) (from_first b p) (to_last b p)
      (λ here inside. both_ways (is_within p b)
      (ap (λ (q : Position). is_within q b) (at_one p at here) ∙ out) inside) h;
}
  where
    by : (w f l here key : Bool) → (w ≡ true → f ≡ true) → (w ≡ true → l ≡ true)
        → (here ≡ true → w ≡ true → ⊥) → (here || key) ≡ true → ((w && (f && l)) && key) ≡ w
    by false f l here key first last apart h = refl
    by true f l true key first last apart h = absurd (apart refl refl)
    by true true true false key first last apart h = h
    by true false l false key first last apart h = absurd (both_ways false refl (first refl))
    by true true false false key first last apart h = absurd (both_ways false refl (last refl))

passes : (P : Position → Type 0) (test : Position → Bool) → ((p : Position) → test p ≡ true → P p)
    → (ps : List Position) → AllByRecursion P (filter test ps)
passes P test h [] = tt
passes P test h (p ∷ ps) = by (test p) refl (passes P test h ps)
  where
    by : (b : Bool) → test p ≡ b → AllByRecursion P (filter test ps)
        → AllByRecursion P (cond b (p ∷ filter test ps) (filter test ps))
    by true is all = (h p is, all)
    by false is all = all

is_less : (o : Ordering) → is_lt o ≡ true → o ≡ Less
is_less Less h = refl
is_less Equal h = absurd (both_ways false refl h)
is_less Greater h = absurd (both_ways false refl h)

is_more : (o : Ordering) → not (is_le o) ≡ true → ordering_reverse o ≡ Less
is_more Less h = absurd (both_ways false refl h)
is_more Equal h = absurd (both_ways false refl h)
is_more Greater h = refl

before_at : (b : Block) (at p : Position) → lies (before b at) p ≡ true → position_cmp p at ≡ Less
before_at b at p h =
    let order =
    and_parts (is_within p b)
    (is_le (position_cmp (first_of b) p) && not (is_le (position_cmp at p))) h in
    let parts =
    and_parts (is_le (position_cmp (first_of b) p)) (not (is_le (position_cmp at p))) order.1 in
    positions_total.antisymm p at ∙ is_more (position_cmp at p) parts.1

behind_at : (b : Block) (at p : Position) → lies (behind b at) p ≡ true → position_cmp at p ≡ Less
behind_at b at p h =
    let order =
    and_parts (is_within p b)
    (is_lt (position_cmp at p) && not (is_lt (position_cmp (last_of b) p))) h in
    let parts =
    and_parts (is_lt (position_cmp at p)) (not (is_lt (position_cmp (last_of b) p))) order.1 in
    is_less (position_cmp at p) parts.0

inside_listed : (o : Ordering) (w f l key : Bool) → (w ≡ true → f ≡ true) → (w ≡ true → l ≡ true)
    → (is_eq o ≡ true → w ≡ true) → (is_eq o || key) ≡ true
    → (((w && (f && not (is_le o))) && key) || (is_eq o || ((w && (is_lt o && l)) && key))) ≡ w
inside_listed Less false f l key first last here h = refl
inside_listed Equal false f l key first last here h = absurd (both_ways false refl (here refl))
inside_listed Greater false f l key first last here h = refl
inside_listed o true false l key first last here h = absurd (both_ways false refl (first refl))
inside_listed o true true false key first last here h = absurd (both_ways false refl (last refl))
inside_listed Less true true true key first last here h = h
inside_listed Equal true true true key first last here h = refl
inside_listed Greater true true true key first last here h = or_left key false h

inside_present : (cells : Part) (at : Position) (b : Block)
    → IsStrictlySortedBy position_cmp (keys_of cells) → is_within at b ≡ true
    → IsPresent cells at b
    (filter (lies (before b at)) (keys_of cells)
    ++ at ∷ filter (lies (behind b at)) (keys_of cells))
unfolding IsStrictlySortedBy
inside_present cells at b sorted inside =
    let keys = keys_of cells in
    let first = filter (lies (before b at)) keys in
    let second = filter (lies (behind b at)) keys in
    let above : IsBelow at second =
    passes (λ q. position_cmp at q ≡ Less) (lies (behind b at)) (behind_at b at) keys in
    record {
      ordered =
          sorted_append first (at ∷ second)
          (IsStrictlySortedBy-filter position_cmp (lies (before b at)) keys sorted)
          (above, IsStrictlySortedBy-filter position_cmp (lies (behind b at)) keys sorted)
          (passes (λ p. IsBelow p (at ∷ second)) (lies (before b at))
          (λ p h. let less = before_at b at p h in (less, above_more p at second less above)) keys);
      listed = λ p h.
          let flipped = at_flip p at in
          list_any-append (is_at (position_cmp p)) first (at ∷ second)
          ∙ ap (λ (t : Bool). t || (is_at (position_cmp p) at || is_listed second p))
          (listed_filter (lies (before b at)) keys p)
          ∙ ap
          (λ (t : Bool). (lies (before b at) p && is_listed keys p) ||
          (is_at (position_cmp p) at || t))
          (listed_filter (lies (behind b at)) keys p)
          ∙ ap
          (λ (t : Bool). (lies (before b at) p && is_listed keys p)
          || (t || (lies (behind b at) p && is_listed keys p))) flipped
          ∙ inside_listed (position_cmp at p) (is_within p b) (is_le (position_cmp (first_of b) p))
          (not (is_lt (position_cmp (last_of b) p))) (is_listed keys p) (from_first b p)
          (to_last b p)
          (λ here. ap (λ (q : Position). is_within q b) (sym (at_one at p here)) ∙ inside)
          (ap (λ (t : Bool). t || is_listed keys p) (sym flipped) ∙ h);
    }

-- the edited cell lies in no stretch
no_before : (b : Block) (at : Position) → lies (before b at) at ≡ false
no_before b at = by (lies (before b at) at) refl
  where
    by : (t : Bool) → lies (before b at) at ≡ t → t ≡ false
    by true h =
        absurd
        (both_ways (is_at (position_cmp at) at) (ap is_eq (before_at b at at h)) (at_itself at))
    by false h = refl

no_behind : (b : Block) (at : Position) → lies (behind b at) at ≡ false
no_behind b at = by (lies (behind b at) at) refl
  where
    by : (t : Bool) → lies (behind b at) at ≡ t → t ≡ false
    by true h =
        absurd
        (both_ways (is_at (position_cmp at) at) (ap is_eq (behind_at b at at h)) (at_itself at))
    by false h = refl

no_whole : (b : Block) (at : Position) → is_within at b ≡ false → lies (whole b) at ≡ false
no_whole b at out =
    ap
    (λ (t : Bool). t
    && range_contains position_cmp (Included (first_of b)) (Included (last_of b)) at) out

-- ---- for the code

-- the values of a block in which the edited cell doesn't lie
pub values_outside : (cells part : Part) (at : Position) (raw : List ℕ) (known : Known) (b : Block)
    (values : List Value) → IsStrictlySortedBy position_cmp (keys_of cells)
    → part ≡ with_text cells at raw → false ≡ is_within at b
    → values ≡ [] ++ filter is_filled (map (entry_value known) (stretched (whole b) cells))
    → values ≡ filter is_filled (map (look_at part known) (cells_between b.0 b.1))
values_outside cells part at raw known b values sorted is out told =
    told
    ∙ ap (filter is_filled)
    (stretch_values cells at raw known (whole b) sorted (no_whole b at (sym out)))
    ∙ values_present cells at raw known b (filter (lies (whole b)) (keys_of cells)) sorted
    (outside_present cells at b sorted (sym out))
    ∙ ap (λ (q : Part). filter is_filled (map (look_at q known) (cells_between b.0 b.1))) (sym is)

-- the value of the edited cell
here_value : (cells : Part) (at : Position) (raw : List ℕ) (known : Known)
    → IsStrictlySortedBy position_cmp (keys_of cells)
    → entry_value known (at, raw) ≡ look_at (with_text cells at raw) known at
unfolding seen_at
here_value cells at raw known sorted =
    ap (λ (t : List ℕ). unwrap_or (seen_in (content_of t) (known at)) (Fault Circ))
    (sym (text_same cells at raw sorted))

three : (look : Position → Value) (xs : List Position) (p : Position) (ys : List Position)
    → (filter is_filled (map look xs) ++ filter is_filled (look p ∷ []))
    ++ filter is_filled (map look ys)
    ≡ filter is_filled (map look (xs ++ p ∷ ys))
three look xs p ys =
    append_assoc (filter is_filled (map look xs)) (filter is_filled (look p ∷ []))
    (filter is_filled (map look ys))
    ∙ ap (λ (vs : List Value). filter is_filled (map look xs) ++ vs)
    (sym (filter-append is_filled (look p ∷ []) (map look ys)))
    ∙ sym (filter-append is_filled (map look xs) (map look (p ∷ ys)))
    ∙ ap (filter is_filled) (sym (map-append look xs (p ∷ ys)))

-- and of one in which it does
pub values_inside : (cells part : Part) (at : Position) (raw : List ℕ) (known : Known) (b : Block)
    (first second third : List Value) → IsStrictlySortedBy position_cmp (keys_of cells)
    → part ≡ with_text cells at raw → true ≡ is_within at b
    → first ≡ [] ++ filter is_filled (map (entry_value known) (stretched (before b at) cells))
    → second ≡ first ++ filter is_filled (entry_value known (at, raw) ∷ [])
    → third ≡ second ++ filter is_filled (map (entry_value known) (stretched (behind b at) cells))
    → third ≡ filter is_filled (map (look_at part known) (cells_between b.0 b.1))
values_inside cells part at raw known b first second third sorted is inside one two all =
    let look = look_at (with_text cells at raw) known in
    let xs = filter (lies (before b at)) (keys_of cells) in
    let ys = filter (lies (behind b at)) (keys_of cells) in
    let one_is : first ≡ filter is_filled (map look xs) =
    one
    ∙ ap (filter is_filled)
    (stretch_values cells at raw known (before b at) sorted (no_before b at)) in
    let last_is : filter is_filled (map (entry_value known) (stretched (behind b at) cells))
    ≡ filter is_filled (map look ys) =
    ap (filter is_filled)
    (stretch_values cells at raw known (behind b at) sorted (no_behind b at)) in
    all
    ∙ ap
    (λ (vs : List Value). vs ++ filter is_filled
    (map (entry_value known) (stretched (behind b at) cells)))
    (two
    ∙ ap (λ (vs : List Value). vs ++ filter is_filled (entry_value known (at, raw) ∷ [])) one_is
    ∙ ap (λ (v : Value). filter is_filled (map look xs) ++ filter is_filled (v ∷ []))
    (here_value cells at raw known sorted))
    ∙ ap
    (λ (vs : List Value). (filter is_filled (map look xs) ++ filter is_filled (look at ∷ [])) ++ vs)
    last_is
    ∙ three look xs at ys
    ∙ values_present cells at raw known b (xs ++ at ∷ ys) sorted
    (inside_present cells at b sorted (sym inside))
    ∙ ap (λ (q : Part). filter is_filled (map (look_at q known) (cells_between b.0 b.1))) (sym is)

pub seen_outside : (cells part : Part) (at : Position) (raw : List ℕ) (known : Known) (b : Block)
    (r : Bool) → IsStrictlySortedBy position_cmp (keys_of cells) → part ≡ with_text cells at raw
    → false ≡ is_within at b
    → r ≡ list_all (is_entry_seen known) (stretched (whole b) cells)
    → r ≡ list_all (λ p. is_some (seen_at part known p)) (cells_between b.0 b.1)
seen_outside cells part at raw known b r sorted is out told =
    told ∙ stretch_seen cells at raw known (whole b) sorted (no_whole b at (sym out))
    ∙ seen_present cells at raw known b (filter (lies (whole b)) (keys_of cells)) sorted
    (outside_present cells at b sorted (sym out))
    ∙ ap (λ (q : Part). list_all (λ p. is_some (seen_at q known p)) (cells_between b.0 b.1))
    (sym is)

here_seen : (cells : Part) (at : Position) (raw : List ℕ) (known : Known)
    → IsStrictlySortedBy position_cmp (keys_of cells)
    → is_entry_seen known (at, raw) ≡ is_some (seen_at (with_text cells at raw) known at)
unfolding seen_at
here_seen cells at raw known sorted =
    ap (λ (t : List ℕ). is_some (seen_in (content_of t) (known at)))
    (sym (text_same cells at raw sorted))

pub seen_inside : (cells part : Part) (at : Position) (raw : List ℕ) (known : Known) (b : Block)
    (r : Bool) → IsStrictlySortedBy position_cmp (keys_of cells) → part ≡ with_text cells at raw
    → true ≡ is_within at b
    → r
    ≡ (list_all (is_entry_seen known) (stretched (before b at) cells)
    && (is_entry_seen known (at, raw)
    && list_all (is_entry_seen known) (stretched (behind b at) cells)))
    → r ≡ list_all (λ p. is_some (seen_at part known p)) (cells_between b.0 b.1)
seen_inside cells part at raw known b r sorted is inside told =
    let seen = λ (p : Position). is_some (seen_at (with_text cells at raw) known p) in
    let xs = filter (lies (before b at)) (keys_of cells) in
    let ys = filter (lies (behind b at)) (keys_of cells) in
    let one : list_all (is_entry_seen known) (stretched (before b at) cells) ≡ list_all seen xs =
    stretch_seen cells at raw known (before b at) sorted (no_before b at) in
    let last : list_all (is_entry_seen known) (stretched (behind b at) cells) ≡ list_all seen ys =
    stretch_seen cells at raw known (behind b at) sorted (no_behind b at) in
    told
    ∙ ap
    (λ (u : Bool). u
    && (is_entry_seen known (at, raw)
    && list_all (is_entry_seen known) (stretched (behind b at) cells)))
    one
    ∙ ap
    (λ (u : Bool). list_all seen xs &&
    (u && list_all (is_entry_seen known) (stretched (behind b at) cells)))
    (here_seen cells at raw known sorted)
    ∙ ap (λ (u : Bool). list_all seen xs && (seen at && u)) last
    ∙ sym (list_all-append seen xs (at ∷ ys))
    ∙ seen_present cells at raw known b (xs ++ at ∷ ys) sorted
    (inside_present cells at b sorted (sym inside))
    ∙ ap (λ (q : Part). list_all (λ p. is_some (seen_at q known p)) (cells_between b.0 b.1))
    (sym is)

-- a block of one cell
pub one_seen : (part : Part) (known : Known) (b : Block) (r : Bool)
    → true ≡ is_at (position_cmp b.0) b.1 → r ≡ is_some (seen_at part known b.0)
    → r ≡ list_all (λ p. is_some (seen_at part known p)) (cells_between b.0 b.1)
one_seen part known b r one told =
    let seen = λ (p : Position). is_some (seen_at part known p) in
    told ∙ and_true (seen b.0) ∙ all_same seen (b.0 ∷ []) (cells_between b.0 b.1)
    (λ p lost. or_false (is_at (position_cmp p) b.0) ∙ single p ∙ sym (between p b.0 b.1))
  where
    and_true : (t : Bool) → t ≡ (t && true)
    and_true true = refl
    and_true false = refl

    or_false : (t : Bool) → (t || false) ≡ t
    or_false true = refl
    or_false false = refl

    single : (p : Position) → is_at (position_cmp p) b.0 ≡ is_within p b
    single p =
        one_cell p b.0 ∙ ap (λ (q : Position). is_within p (b.0, q)) (at_one b.0 b.1 (sym one))
