-- The blocks that an expression names hold exactly the cells that it reads.
use Rattle.std.proofs.Common.{◌≡◌, ℕ, zero, suc, ◌+◌, ◌-◌, ◌≤◌, min, max, Bool, true, false, ◌&&◌, ◌||◌, nat_eq, nat_lt, nat_le, List, [], ◌∷◌, ◌++◌, map, refl, ap, sym, ◌∙◌, arith, subst, length, take, append_assoc}
use Rattle.std.specs.List.{list_any, flat_map, range_with_len}
use Rattle.std.specs.BTreeMap.{is_at}
use Rattle.std.specs.Ordering.{nat_cmp, ordering_then, is_eq}
use Rattle.std.specs.declared.cmp.Ordering.{Ordering}
use Rattle.std.specs.declared.cmp.Ordering.TheVariants.{Less, Equal, Greater}
use Rattle.std.proofs.lemmas.Bool.Decides.{nat_tests}
use Rattle.std.proofs.lemmas.List.{take_all}
use Rattle.std.proofs.lemmas.List.Folds.{list_any-append, flat_map-map}
use Rattle.formula_base.specs.declared.expressions.Argument.{Argument}
use Rattle.formula_base.specs.declared.expressions.Argument.TheVariants.{Range, One}
use Rattle.formula_base.specs.declared.expressions.Function.{Function}
use Rattle.formula_base.specs.declared.expressions.Comparison.{Comparison}
use Rattle.formula_base.specs.declared.expressions.Link.{Link}
use Rattle.formula_base.specs.declared.expressions.Expr.{Expr}
use Rattle.formula_base.specs.declared.expressions.Expr.TheOpen.{Expr-F}
use Rattle.formula_base.specs.declared.expressions.Expr.TheFolds.{fold-Expr, fold-roll-Expr, ind-Expr, map-Expr}
use Rattle.formula_base.specs.declared.expressions.Expr.TheViews.{roll-Expr, rolls-Chain, rolls-Compare, rolls-Call, rolls-If}
use Rattle.formula_base.specs.declared.expressions.Expr.TheViews as view
use Rattle.formula_base.specs.declared.expressions.Expr.TheShapes.{former-Expr-Chain-1-at-2, former-Expr-Call-1-at-3}
use Rattle.formula_base.specs.Ranges.{Position, position_cmp, row_cells, span, cells_between}
use Rattle.formula_base.specs.Evaluation.{names_layer, names_of}
use Rattle.formula_base.specs.Blocks.{Block, is_within, argument_blocks, blocks_layer, blocks_of}
use Rattle.formula_base.proofs.ExprLaws.{link_names, argument_names, names_chain, names_call}

-- whether a cell is among some
abbrev among : Position → List Position → Bool
among p positions = list_any (is_at (position_cmp p)) positions

abbrev in_blocks : Position → List Block → Bool
in_blocks p blocks = list_any (is_within p) blocks

-- ---- ranges

cmp_eq : (a b : ℕ) → is_eq (nat_cmp a b) ≡ nat_eq a b
cmp_eq a b = grind (arith, nat_tests)

at_parts : (p q : Position) → is_at (position_cmp p) q ≡ (nat_eq p.0 q.0 && nat_eq p.1 q.1)
at_parts p q = by (nat_cmp p.0 q.0) refl
  where
    by : (o : Ordering) → nat_cmp p.0 q.0 ≡ o → is_eq (ordering_then o (nat_cmp p.1 q.1)) ≡ (nat_eq p.0 q.0 && nat_eq p.1 q.1)
    by Less e = sym (ap (λ (b : Bool). b && nat_eq p.1 q.1) (sym (cmp_eq p.0 q.0) ∙ ap is_eq e))
    by Equal e = cmp_eq p.1 q.1 ∙ sym (ap (λ (b : Bool). b && nat_eq p.1 q.1) (sym (cmp_eq p.0 q.0) ∙ ap is_eq e))
    by Greater e = sym (ap (λ (b : Bool). b && nat_eq p.1 q.1) (sym (cmp_eq p.0 q.0) ∙ ap is_eq e))

-- a number among those of a range
in_range : (k low n : ℕ) → list_any (nat_eq k) (range_with_len low n) ≡ (nat_le low k && nat_lt k (low + n))
in_range k low zero = grind (arith, nat_tests)
in_range k low (suc n) = ap (λ (b : Bool). nat_eq k low || b) (in_range k (low + 1) n) ∙ grind (arith, nat_tests)

in_span : (k a b : ℕ) → list_any (nat_eq k) (span a b) ≡ (nat_le (min a b) k && nat_le k (max a b))
in_span k a b = in_range k (min a b) (max a b - min a b + 1) ∙ grind (arith, nat_tests)

spread : (a b c : Bool) → ((a && b) || (a && c)) ≡ (a && (b || c))
spread true b c = refl
spread false b c = refl

gathered : (a b c : Bool) → ((a && c) || (b && c)) ≡ ((a || b) && c)
gathered true true true = refl
gathered true true false = refl
gathered true false true = refl
gathered true false false = refl
gathered false true c = refl
gathered false false c = refl

no_and : (a : Bool) → false ≡ (a && false)
no_and true = refl
no_and false = refl

in_row : (p : Position) (columns : List ℕ) (row : ℕ) → among p (row_cells columns row) ≡ (nat_eq p.0 row && list_any (nat_eq p.1) columns)
in_row p [] row = no_and (nat_eq p.0 row)
in_row p (c ∷ columns) row =
    ap (λ (b : Bool). b || among p (row_cells columns row)) (at_parts p (row, c))
    ∙ ap (λ (b : Bool). (nat_eq p.0 row && nat_eq p.1 c) || b) (in_row p columns row)
    ∙ spread (nat_eq p.0 row) (nat_eq p.1 c) (list_any (nat_eq p.1) columns)

in_rows : (p : Position) (columns rows : List ℕ) → among p (flat_map (row_cells columns) rows) ≡ (list_any (nat_eq p.0) rows && list_any (nat_eq p.1) columns)
in_rows p columns [] = refl
in_rows p columns (r ∷ rows) =
    list_any-append (is_at (position_cmp p)) (row_cells columns r) (flat_map (row_cells columns) rows)
    ∙ ap (λ (b : Bool). b || among p (flat_map (row_cells columns) rows)) (in_row p columns r)
    ∙ ap (λ (b : Bool). (nat_eq p.0 r && list_any (nat_eq p.1) columns) || b) (in_rows p columns rows)
    ∙ gathered (nat_eq p.0 r) (list_any (nat_eq p.0) rows) (list_any (nat_eq p.1) columns)

-- a range has exactly the cells within its corners
pub between : (p a b : Position) → among p (cells_between a b) ≡ is_within p (a, b)
between p a b =
    in_rows p (span a.1 b.1) (span a.0 b.0)
    ∙ ap (λ (t : Bool). t && list_any (nat_eq p.1) (span a.1 b.1)) (in_span p.0 a.0 b.0)
    ∙ ap (λ (t : Bool). (nat_le (min a.0 b.0) p.0 && nat_le p.0 (max a.0 b.0)) && t) (in_span p.1 a.1 b.1)

-- ---- expressions

abbrev AreBlocks : Position → Expr → Type 0
AreBlocks p e = among p (names_of e) ≡ in_blocks p (blocks_of e)

abbrev Blocked : Position → Type 0
Blocked p = (e : Expr) × AreBlocks p e

-- the blocks that a link and an argument name
abbrev pub link_blocks : Link Expr → List Block
link_blocks link = blocks_of link.operand

abbrev pub blocks_in : Argument Expr → List Block
blocks_in (Range p q) = (p, q) ∷ []
blocks_in (One e) = blocks_of e

pub blocks_chain : (a : Expr) (links : List (Link Expr)) → blocks_of (roll-Expr (Expr-F.Chain a links)) ≡ blocks_of a ++ flat_map link_blocks links
blocks_chain a links =
    fold-roll-Expr (List Block) blocks_layer (Expr-F.Chain a links)
    ∙ ap (λ (bs : List Block). blocks_of a ++ bs) (flat_map-map (λ (link : Link (List Block)). link.operand) (former-Expr-Chain-1-at-2.map Expr (List Block) (fold-Expr (List Block) blocks_layer)) links)

call_blocks : (arguments : List (Argument Expr)) → flat_map argument_blocks (map (former-Expr-Call-1-at-3.map Expr (List Block) (fold-Expr (List Block) blocks_layer)) arguments) ≡ flat_map blocks_in arguments
call_blocks [] = refl
call_blocks (Range p q ∷ arguments) = ap (λ (bs : List Block). ((p, q) ∷ []) ++ bs) (call_blocks arguments)
call_blocks (One e ∷ arguments) = ap (λ (bs : List Block). blocks_of e ++ bs) (call_blocks arguments)

pub blocks_call : (f : Function) (arguments : List (Argument Expr)) → blocks_of (roll-Expr (Expr-F.Call f arguments)) ≡ flat_map blocks_in arguments
blocks_call f arguments = fold-roll-Expr (List Block) blocks_layer (Expr-F.Call f arguments) ∙ call_blocks arguments

two_parts : (p : Position) (xs ys : List Position) (cs ds : List Block) → among p xs ≡ in_blocks p cs → among p ys ≡ in_blocks p ds → among p (xs ++ ys) ≡ in_blocks p (cs ++ ds)
two_parts p xs ys cs ds first second =
    list_any-append (is_at (position_cmp p)) xs ys
    ∙ ap (λ (b : Bool). b || among p ys) first
    ∙ ap (λ (b : Bool). in_blocks p cs || b) second
    ∙ sym (list_any-append (is_within p) cs ds)

links_of : (p : Position) → List (Link (Blocked p)) → List (Link Expr)
links_of p links = map (former-Expr-Chain-1-at-2.map (Blocked p) Expr (λ e. e.0)) links

chain_within : (p : Position) (links : List (Link (Blocked p))) → among p (flat_map link_names (links_of p links)) ≡ in_blocks p (flat_map link_blocks (links_of p links))
unfolding links_of
chain_within p [] = refl
chain_within p (link ∷ links) =
    two_parts p (names_of link.operand.0) (flat_map link_names (links_of p links)) (blocks_of link.operand.0) (flat_map link_blocks (links_of p links)) link.operand.1 (chain_within p links)

arguments_of : (p : Position) → List (Argument (Blocked p)) → List (Argument Expr)
arguments_of p arguments = map (former-Expr-Call-1-at-3.map (Blocked p) Expr (λ e. e.0)) arguments

one_more : (b : Bool) → b ≡ (b || false)
one_more true = refl
one_more false = refl

call_within : (p : Position) (arguments : List (Argument (Blocked p))) → among p (flat_map argument_names (arguments_of p arguments)) ≡ in_blocks p (flat_map blocks_in (arguments_of p arguments))
unfolding arguments_of
call_within p [] = refl
call_within p (Range a b ∷ arguments) =
    two_parts p (cells_between a b) (flat_map argument_names (arguments_of p arguments)) ((a, b) ∷ []) (flat_map blocks_in (arguments_of p arguments)) (between p a b ∙ one_more (is_within p (a, b))) (call_within p arguments)
call_within p (One e ∷ arguments) =
    two_parts p (names_of e.0) (flat_map argument_names (arguments_of p arguments)) (blocks_of e.0) (flat_map blocks_in (arguments_of p arguments)) e.1 (call_within p arguments)

eq_single : (k a : ℕ) → nat_eq k a ≡ (nat_le (min a a) k && nat_le k (max a a))
eq_single k a = grind (arith, nat_tests)

-- a cell is another exactly where it lies in the block of that one alone
pub one_cell : (p q : Position) → is_at (position_cmp p) q ≡ is_within p (q, q)
one_cell p q =
    at_parts p q
    ∙ ap (λ (b : Bool). b && nat_eq p.1 q.1) (eq_single p.0 q.0)
    ∙ ap (λ (b : Bool). (nat_le (min q.0 q.0) p.0 && nat_le p.0 (max q.0 q.0)) && b) (eq_single p.1 q.1)

single : (p q : Position) → among p (q ∷ []) ≡ in_blocks p ((q, q) ∷ [])
single p q = ap (λ (b : Bool). b || false) (one_cell p q)

layer_within : (p : Position) (y : Expr-F (Blocked p)) → AreBlocks p (roll-Expr (map-Expr (Blocked p) Expr (λ e. e.0) y))
unfolding links_of arguments_of
layer_within p (Expr-F.Number z) =
    ap (among p) (fold-roll-Expr (List Position) names_layer (Expr-F.Number z)) ∙ sym (ap (in_blocks p) (fold-roll-Expr (List Block) blocks_layer (Expr-F.Number z)))
layer_within p (Expr-F.Words text) =
    ap (among p) (fold-roll-Expr (List Position) names_layer (Expr-F.Words text)) ∙ sym (ap (in_blocks p) (fold-roll-Expr (List Block) blocks_layer (Expr-F.Words text)))
layer_within p (Expr-F.Cell q) =
    ap (among p) (fold-roll-Expr (List Position) names_layer (Expr-F.Cell q)) ∙ single p q ∙ sym (ap (in_blocks p) (fold-roll-Expr (List Block) blocks_layer (Expr-F.Cell q)))
layer_within p (Expr-F.Negate a) =
    ap (among p) (fold-roll-Expr (List Position) names_layer (Expr-F.Negate a.0)) ∙ a.1 ∙ sym (ap (in_blocks p) (fold-roll-Expr (List Block) blocks_layer (Expr-F.Negate a.0)))
layer_within p (Expr-F.Chain a links) =
    ap (among p) (names_chain a.0 (links_of p links))
    ∙ two_parts p (names_of a.0) (flat_map link_names (links_of p links)) (blocks_of a.0) (flat_map link_blocks (links_of p links)) a.1 (chain_within p links)
    ∙ sym (ap (in_blocks p) (blocks_chain a.0 (links_of p links)))
layer_within p (Expr-F.Compare sign a b) =
    ap (among p) (fold-roll-Expr (List Position) names_layer (Expr-F.Compare sign a.0 b.0))
    ∙ two_parts p (names_of a.0) (names_of b.0) (blocks_of a.0) (blocks_of b.0) a.1 b.1
    ∙ sym (ap (in_blocks p) (fold-roll-Expr (List Block) blocks_layer (Expr-F.Compare sign a.0 b.0)))
layer_within p (Expr-F.Call function arguments) =
    ap (among p) (names_call function (arguments_of p arguments)) ∙ call_within p arguments ∙ sym (ap (in_blocks p) (blocks_call function (arguments_of p arguments)))
layer_within p (Expr-F.If c a b) =
    ap (among p) (fold-roll-Expr (List Position) names_layer (Expr-F.If c.0 a.0 b.0))
    ∙ two_parts p (names_of c.0) (names_of a.0 ++ names_of b.0) (blocks_of c.0) (blocks_of a.0 ++ blocks_of b.0) c.1 (two_parts p (names_of a.0) (names_of b.0) (blocks_of a.0) (blocks_of b.0) a.1 b.1)
    ∙ sym (ap (in_blocks p) (fold-roll-Expr (List Block) blocks_layer (Expr-F.If c.0 a.0 b.0)))

-- an expression names exactly the cells in its blocks
pub named_within : (p : Position) (e : Expr) → list_any (is_at (position_cmp p)) (names_of e) ≡ list_any (is_within p) (blocks_of e)
named_within p = ind-Expr (AreBlocks p) (λ x y is. subst (λ z. AreBlocks p (roll-Expr z)) is (layer_within p y))

-- ---- blocks that are added

pub blocks_compare : (sign : Comparison) (a b : Expr) → blocks_of (view.Compare sign a b) ≡ blocks_of a ++ blocks_of b
blocks_compare sign a b = ap blocks_of (sym (rolls-Compare sign a b)) ∙ fold-roll-Expr (List Block) blocks_layer (Expr-F.Compare sign a b)

pub blocks_if : (a b c : Expr) → blocks_of (view.If a b c) ≡ blocks_of a ++ (blocks_of b ++ blocks_of c)
blocks_if a b c = ap blocks_of (sym (rolls-If a b c)) ∙ fold-roll-Expr (List Block) blocks_layer (Expr-F.If a b c)

-- two parts one after the other
pub two_added : (e : Expr) (xs ys start first blocks : List Block) → blocks_of e ≡ xs ++ ys → first ≡ start ++ xs → blocks ≡ first ++ ys → blocks ≡ start ++ blocks_of e
two_added e xs ys start first blocks is first_is told =
    told ∙ ap (λ (s : List Block). s ++ ys) first_is ∙ append_assoc start xs ys ∙ ap (λ (s : List Block). start ++ s) (sym is)

-- and three
pub three_added : (e : Expr) (xs ys zs start first second blocks : List Block) → blocks_of e ≡ xs ++ (ys ++ zs) → first ≡ start ++ xs → second ≡ first ++ ys → blocks ≡ second ++ zs → blocks ≡ start ++ blocks_of e
three_added e xs ys zs start first second blocks is first_is second_is told =
    two_added e xs (ys ++ zs) start first blocks is first_is (told ∙ ap (λ (s : List Block). s ++ zs) second_is ∙ append_assoc first ys zs)

-- those of a chain
pub chain_added : (e a : Expr) (links items : List (Link Expr)) (i : ℕ) (start first blocks : List Block) → e ≡ view.Chain a links → items ≡ links → length items ≤ i → first ≡ start ++ blocks_of a
    → blocks ≡ first ++ flat_map link_blocks (take i items) → blocks ≡ start ++ blocks_of e
chain_added e a links items i start first blocks is items_are h first_is told =
    two_added e (blocks_of a) (flat_map link_blocks links) start first blocks (ap blocks_of (is ∙ sym (rolls-Chain a links)) ∙ blocks_chain a links) first_is
    (told ∙ ap (λ (xs : List (Link Expr)). first ++ flat_map link_blocks xs) (take_all i items h ∙ items_are))

-- those of a call
pub call_added : (e : Expr) (f : Function) (arguments items : List (Argument Expr)) (i : ℕ) (start blocks : List Block) → e ≡ view.Call f arguments → items ≡ arguments → length items ≤ i
    → blocks ≡ start ++ flat_map blocks_in (take i items) → blocks ≡ start ++ blocks_of e
call_added e f arguments items i start blocks is items_are h told =
    told ∙ ap (λ (xs : List (Argument Expr)). start ++ flat_map blocks_in xs) (take_all i items h ∙ items_are)
    ∙ ap (λ (s : List Block). start ++ s) (sym (ap blocks_of (is ∙ sym (rolls-Call f arguments)) ∙ blocks_call f arguments))

-- a cell is named exactly where it lies in one of the blocks
pub held : (e : Expr) (blocks : List Block) → blocks ≡ blocks_of e → (p : Position) → list_any (is_within p) blocks ≡ list_any (is_at (position_cmp p)) (names_of e)
held e blocks is p = ap (list_any (is_within p)) is ∙ sym (named_within p e)
