-- The turns and the ends of the loops that evaluate an expression and list its cells.
use Rattle.std.proofs.Common.{◌≡◌, ℕ, ◌+◌, ◌<◌, ◌≤◌, List, [], ◌∷◌, ◌++◌, length, take, get_or, map, ap, sym, ◌∙◌}
use Rattle.std.specs.Prelude.{fold, Result, Ok, Err, OnOk}
use Rattle.std.specs.List.{flat_map}
use Rattle.std.specs.BTreeSet.{insert_key}
use Rattle.std.proofs.lemmas.List.{take_all, take_more, append-nil}
use Rattle.std.proofs.lemmas.List.Concat.{flat_map-append}
use Rattle.std.proofs.lemmas.List.Sums.{fold-append}
use Rattle.formula_base.specs.declared.gathering.Gathered.{Gathered}
use Rattle.formula_base.specs.declared.values.Value.{Value}
use Rattle.formula_base.specs.declared.expressions.Function.{Function}
use Rattle.formula_base.specs.declared.expressions.Comparison.{Comparison}
use Rattle.formula_base.specs.declared.expressions.Argument.{Argument}
use Rattle.formula_base.specs.declared.expressions.Argument.TheVariants.{Range, One}
use Rattle.formula_base.specs.declared.expressions.Link.{Link}
use Rattle.formula_base.specs.declared.expressions.Expr.{Expr}
use Rattle.formula_base.specs.declared.expressions.Expr.TheOpen.{Expr-F}
use Rattle.formula_base.specs.declared.expressions.Expr.TheFolds.{fold-roll-Expr}
use Rattle.formula_base.specs.declared.expressions.Expr.TheViews.{roll-Expr, rolls-Chain, rolls-Compare, rolls-Call, rolls-If}
use Rattle.formula_base.specs.declared.expressions.Expr.TheViews as view
use Rattle.formula_base.specs.Ranges.{Position, cells_between, position_cmp}
use Rattle.formula_base.specs.Evaluation.{eval_of, called, function_of, names_layer, names_of}
use Rattle.formula_base.specs.Gathering.{gathered, with_value}
use Rattle.formula_base.proofs.GatherLaws.{gathered_push, gathered_all}
use Rattle.formula_base.proofs.ExprLaws.{linked, values_of, link_names, argument_names, eval_chain, eval_call, names_chain, names_call}

-- the values of one more argument
values_turn : (f : Argument Expr → List Value) (items : List (Argument Expr)) (i : ℕ) (a b : Argument Expr) → i < length items → a ≡ get_or items i a → a ≡ b → flat_map f (take (i + 1) items) ≡ flat_map f (take i items) ++ f b
values_turn f items i a b h e is =
    ap (flat_map f) (take_more items i a h) ∙ flat_map-append f (take i items) (get_or items i a ∷ [])
    ∙ ap (λ (vs : List Value). flat_map f (take i items) ++ vs) (append-nil (f (get_or items i a)) ∙ ap f (sym e ∙ is))

-- a turn with a range
pub range_turn : (look : Position → Value) (items : List (Argument Expr)) (i : ℕ) (a : Argument Expr) (p q : Position) (before after : Gathered) → i < length items → a ≡ get_or items i a → a ≡ Range p q
    → before ≡ gathered (flat_map (values_of look) (take i items)) → after ≡ fold with_value before (map look (cells_between p q)) → after ≡ gathered (flat_map (values_of look) (take (i + 1) items))
range_turn look items i a p q before after h e is told more =
    more ∙ ap (λ (g : Gathered). fold with_value g (map look (cells_between p q))) told
    ∙ gathered_all (flat_map (values_of look) (take i items)) (map look (cells_between p q))
    ∙ ap gathered (sym (values_turn (values_of look) items i a (Range p q) h e is))

-- a turn with one value
pub one_turn : (look : Position → Value) (items : List (Argument Expr)) (i : ℕ) (a : Argument Expr) (x : Expr) (v : Value) (before after : Gathered) → i < length items → a ≡ get_or items i a → a ≡ One x
    → before ≡ gathered (flat_map (values_of look) (take i items)) → v ≡ eval_of look x → after ≡ with_value before v → after ≡ gathered (flat_map (values_of look) (take (i + 1) items))
one_turn look items i a x v before after h e is told value more =
    more ∙ ap (λ (g : Gathered). with_value g v) told
    ∙ gathered_push (flat_map (values_of look) (take i items)) v
    ∙ ap (λ (w : Value). gathered (flat_map (values_of look) (take i items) ++ w ∷ [])) value
    ∙ ap gathered (sym (values_turn (values_of look) items i a (One x) h e is))

-- a chain has its value
pub chain_done : (look : Position → Value) (e a : Expr) (links items : List (Link Expr)) (i : ℕ) (left first : Value) → e ≡ view.Chain a links → first ≡ eval_of look a → items ≡ links → length items ≤ i
    → left ≡ fold (linked look) first (take i items) → left ≡ eval_of look e
chain_done look e a links items i left first is first_is items_are h told =
    told ∙ ap (fold (linked look) first) (take_all i items h ∙ items_are) ∙ ap (λ (v : Value). fold (linked look) v links) first_is
    ∙ sym (eval_chain look a links) ∙ ap (eval_of look) (rolls-Chain a links ∙ sym is)

-- a call has its value
pub call_done : (look : Position → Value) (e : Expr) (f : Function) (arguments items : List (Argument Expr)) (i : ℕ) (g : Gathered) (v : Value) → e ≡ view.Call f arguments → items ≡ arguments → length items ≤ i
    → g ≡ gathered (flat_map (values_of look) (take i items)) → v ≡ function_of f g.fault g.numbers → v ≡ eval_of look e
call_done look e f arguments items i g v is items_are h told value =
    value ∙ ap (λ (g : Gathered). function_of f g.fault g.numbers) told
    ∙ ap (λ (xs : List (Argument Expr)). called f (flat_map (values_of look) xs)) (take_all i items h ∙ items_are)
    ∙ sym (eval_call look f arguments) ∙ ap (eval_of look) (rolls-Call f arguments ∙ sym is)

-- ---- cells

abbrev insert : List Position → Position → List Position
insert = insert_key position_cmp

pub on_ok : {T E : Type 0} (r : Result T E) {P Q : Type 0} → OnOk r P → (P → Q) → OnOk r Q
on_ok (Ok x) h so = so h
on_ok (Err e) h so = h

pub names_compare : (sign : Comparison) (a b : Expr) → names_of (view.Compare sign a b) ≡ names_of a ++ names_of b
names_compare sign a b = ap names_of (sym (rolls-Compare sign a b)) ∙ fold-roll-Expr (List Position) names_layer (Expr-F.Compare sign a b)

pub names_if : (a b c : Expr) → names_of (view.If a b c) ≡ names_of a ++ (names_of b ++ names_of c)
names_if a b c = ap names_of (sym (rolls-If a b c)) ∙ fold-roll-Expr (List Position) names_layer (Expr-F.If a b c)

-- two parts one after the other
pub two_done : (e : Expr) (xs ys start first keys : List Position) → names_of e ≡ xs ++ ys → first ≡ fold insert start xs → keys ≡ fold insert first ys → keys ≡ fold insert start (names_of e)
two_done e xs ys start first keys is first_is told =
    told ∙ ap (λ (s : List Position). fold insert s ys) first_is ∙ sym (fold-append insert start xs ys) ∙ ap (fold insert start) (sym is)

-- and three
pub three_done : (e : Expr) (xs ys zs start first second keys : List Position) → names_of e ≡ xs ++ (ys ++ zs) → first ≡ fold insert start xs → second ≡ fold insert first ys → keys ≡ fold insert second zs
    → keys ≡ fold insert start (names_of e)
three_done e xs ys zs start first second keys is first_is second_is told =
    two_done e xs (ys ++ zs) start first keys is first_is (told ∙ ap (λ (s : List Position). fold insert s zs) second_is ∙ sym (fold-append insert first ys zs))

-- a chain is named
pub chain_named : (e a : Expr) (links items : List (Link Expr)) (i : ℕ) (start first keys : List Position) → e ≡ view.Chain a links → items ≡ links → length items ≤ i → first ≡ fold insert start (names_of a)
    → keys ≡ fold insert first (flat_map link_names (take i items)) → keys ≡ fold insert start (names_of e)
chain_named e a links items i start first keys is items_are h first_is told =
    two_done e (names_of a) (flat_map link_names links) start first keys (ap names_of (is ∙ sym (rolls-Chain a links)) ∙ names_chain a links) first_is
    (told ∙ ap (λ (xs : List (Link Expr)). fold insert first (flat_map link_names xs)) (take_all i items h ∙ items_are))

-- a call is named
pub call_named : (e : Expr) (f : Function) (arguments items : List (Argument Expr)) (i : ℕ) (start keys : List Position) → e ≡ view.Call f arguments → items ≡ arguments → length items ≤ i
    → keys ≡ fold insert start (flat_map argument_names (take i items)) → keys ≡ fold insert start (names_of e)
call_named e f arguments items i start keys is items_are h told =
    told ∙ ap (λ (xs : List (Argument Expr)). fold insert start (flat_map argument_names xs)) (take_all i items h ∙ items_are)
    ∙ ap (fold insert start) (sym (ap names_of (is ∙ sym (rolls-Call f arguments)) ∙ names_call f arguments))
