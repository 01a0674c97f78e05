-- The value of an expression depends on the cells that it reads alone.
use Rattle.std.proofs.Common.{◌≡◌, List, [], ◌∷◌, ◌++◌, map, refl, ap, sym, ◌∙◌, subst}
use Rattle.std.specs.Prelude.{fold}
use Rattle.std.specs.List.{flat_map, AllByRecursion}
use Rattle.std.specs.BTreeSet.{insert_key}
use Rattle.std.specs.Ordering.{match_ordering}
use Rattle.std.specs.declared.cmp.Ordering.{Ordering}
use Rattle.std.specs.declared.cmp.Ordering.TheVariants.{Less, Equal, Greater}
use Rattle.formula_base.specs.declared.values.Value.{Value}
use Rattle.formula_base.specs.declared.expressions.Argument.{Argument}
use Rattle.formula_base.specs.declared.expressions.Argument.TheVariants.{Range, One}
use Rattle.formula_base.specs.declared.expressions.Link.{Link}
use Rattle.formula_base.specs.declared.expressions.Expr.{Expr}
use Rattle.formula_base.specs.declared.expressions.Expr.TheOpen.{Expr-F}
use Rattle.formula_base.specs.declared.expressions.Expr.TheFolds.{fold-roll-Expr, ind-Expr, map-Expr}
use Rattle.formula_base.specs.declared.expressions.Expr.TheViews.{roll-Expr}
use Rattle.formula_base.specs.declared.expressions.Expr.TheShapes.{former-Expr-Chain-1-at-2, former-Expr-Call-1-at-3}
use Rattle.formula_base.specs.Ranges.{Position, position_cmp, cells_between}
use Rattle.formula_base.specs.Values.{combined, negated, compared, chosen}
use Rattle.formula_base.specs.Evaluation.{eval_layer, eval_of, called, names_layer, names_of, reads_of}
use Rattle.formula_base.proofs.ExprLaws.{linked, values_of, link_names, argument_names, eval_chain, eval_call, names_chain, names_call}
use Rattle.part_calc.proofs.PositionLaws.{exact_positions}

-- the two give these cells the same values
abbrev Agree : (Position → Value) → (Position → Value) → List Position → Type 0
Agree f g positions = AllByRecursion (λ r. f r ≡ g r) positions

abbrev IsLocalAt : (Position → Value) → (Position → Value) → Expr → Type 0
IsLocalAt f g e = Agree f g (names_of e) → eval_of f e ≡ eval_of g e

abbrev Local : (Position → Value) → (Position → Value) → Type 0
Local f g = (e : Expr) × IsLocalAt f g e

all_left : {K : Type 0} (P : K → Type 0) (xs ys : List K) → AllByRecursion P (xs ++ ys) → AllByRecursion P xs
all_left P [] ys all = tt
all_left P (x ∷ xs) ys all = (all.0, all_left P xs ys all.1)

all_right : {K : Type 0} (P : K → Type 0) (xs ys : List K) → AllByRecursion P (xs ++ ys) → AllByRecursion P ys
all_right P [] ys all = all
all_right P (x ∷ xs) ys all = all_right P xs ys all.1

map_local : (f g : Position → Value) (positions : List Position) → Agree f g positions → map f positions ≡ map g positions
map_local f g [] agree = refl
map_local f g (p ∷ positions) agree = ap (λ (v : Value). v ∷ map f positions) agree.0 ∙ ap (λ (vs : List Value). g p ∷ vs) (map_local f g positions agree.1)

expression_of : (f g : Position → Value) → Local f g → Expr
expression_of f g e = e.0

links_of : (f g : Position → Value) → List (Link (Local f g)) → List (Link Expr)
links_of f g links = map (former-Expr-Chain-1-at-2.map (Local f g) Expr (λ e. e.0)) links

chain_local : (f g : Position → Value) (v : Value) (links : List (Link (Local f g))) → Agree f g (flat_map link_names (links_of f g links)) → fold (linked f) v (links_of f g links) ≡ fold (linked g) v (links_of f g links)
unfolding links_of
chain_local f g v [] agree = refl
chain_local f g v (link ∷ links) agree =
    let P = λ (r : Position). f r ≡ g r in
    let first = names_of link.operand.0 in
    let rest = flat_map link_names (links_of f g links) in
    ap (λ (w : Value). fold (linked f) (combined link.operator v w) (links_of f g links)) (link.operand.1 (all_left P first rest agree))
    ∙ chain_local f g (combined link.operator v (eval_of g link.operand.0)) links (all_right P first rest agree)

arguments_of : (f g : Position → Value) → List (Argument (Local f g)) → List (Argument Expr)
arguments_of f g arguments = map (former-Expr-Call-1-at-3.map (Local f g) Expr (λ e. e.0)) arguments

call_local : (f g : Position → Value) (arguments : List (Argument (Local f g))) → Agree f g (flat_map argument_names (arguments_of f g arguments)) → flat_map (values_of f) (arguments_of f g arguments) ≡ flat_map (values_of g) (arguments_of f g arguments)
unfolding arguments_of
call_local f g [] agree = refl
call_local f g (Range p q ∷ arguments) agree =
    let P = λ (r : Position). f r ≡ g r in
    let rest = flat_map argument_names (arguments_of f g arguments) in
    ap (λ (vs : List Value). vs ++ flat_map (values_of f) (arguments_of f g arguments)) (map_local f g (cells_between p q) (all_left P (cells_between p q) rest agree))
    ∙ ap (λ (vs : List Value). map g (cells_between p q) ++ vs) (call_local f g arguments (all_right P (cells_between p q) rest agree))
call_local f g (One e ∷ arguments) agree =
    let P = λ (r : Position). f r ≡ g r in
    let rest = flat_map argument_names (arguments_of f g arguments) in
    ap (λ (v : Value). v ∷ flat_map (values_of f) (arguments_of f g arguments)) (e.1 (all_left P (names_of e.0) rest agree))
    ∙ ap (λ (vs : List Value). eval_of g e.0 ∷ vs) (call_local f g arguments (all_right P (names_of e.0) rest agree))

layer_local : (f g : Position → Value) (y : Expr-F (Local f g)) → IsLocalAt f g (roll-Expr (map-Expr (Local f g) Expr (λ e. e.0) y))
unfolding links_of arguments_of
layer_local f g (Expr-F.Number z) agree = fold-roll-Expr Value (eval_layer f) (Expr-F.Number z) ∙ sym (fold-roll-Expr Value (eval_layer g) (Expr-F.Number z))
layer_local f g (Expr-F.Words text) agree = fold-roll-Expr Value (eval_layer f) (Expr-F.Words text) ∙ sym (fold-roll-Expr Value (eval_layer g) (Expr-F.Words text))
layer_local f g (Expr-F.Cell position) agree =
    fold-roll-Expr Value (eval_layer f) (Expr-F.Cell position)
    ∙ (subst (Agree f g) (fold-roll-Expr (List Position) names_layer (Expr-F.Cell position)) agree).0
    ∙ sym (fold-roll-Expr Value (eval_layer g) (Expr-F.Cell position))
layer_local f g (Expr-F.Negate a) agree =
    fold-roll-Expr Value (eval_layer f) (Expr-F.Negate a.0)
    ∙ ap negated (a.1 (subst (Agree f g) (fold-roll-Expr (List Position) names_layer (Expr-F.Negate a.0)) agree))
    ∙ sym (fold-roll-Expr Value (eval_layer g) (Expr-F.Negate a.0))
layer_local f g (Expr-F.Chain a links) agree =
    let P = λ (r : Position). f r ≡ g r in
    let parts = subst (Agree f g) (names_chain a.0 (links_of f g links)) agree in
    let rest = flat_map link_names (links_of f g links) in
    eval_chain f a.0 (links_of f g links)
    ∙ ap (λ (v : Value). fold (linked f) v (links_of f g links)) (a.1 (all_left P (names_of a.0) rest parts))
    ∙ chain_local f g (eval_of g a.0) links (all_right P (names_of a.0) rest parts)
    ∙ sym (eval_chain g a.0 (links_of f g links))
layer_local f g (Expr-F.Compare sign a b) agree =
    let P = λ (r : Position). f r ≡ g r in
    let parts = subst (Agree f g) (fold-roll-Expr (List Position) names_layer (Expr-F.Compare sign a.0 b.0)) agree in
    fold-roll-Expr Value (eval_layer f) (Expr-F.Compare sign a.0 b.0)
    ∙ ap (λ (v : Value). compared sign v (eval_of f b.0)) (a.1 (all_left P (names_of a.0) (names_of b.0) parts))
    ∙ ap (compared sign (eval_of g a.0)) (b.1 (all_right P (names_of a.0) (names_of b.0) parts))
    ∙ sym (fold-roll-Expr Value (eval_layer g) (Expr-F.Compare sign a.0 b.0))
layer_local f g (Expr-F.Call function arguments) agree =
    eval_call f function (arguments_of f g arguments)
    ∙ ap (called function) (call_local f g arguments (subst (Agree f g) (names_call function (arguments_of f g arguments)) agree))
    ∙ sym (eval_call g function (arguments_of f g arguments))
layer_local f g (Expr-F.If c a b) agree =
    let P = λ (r : Position). f r ≡ g r in
    let parts = subst (Agree f g) (fold-roll-Expr (List Position) names_layer (Expr-F.If c.0 a.0 b.0)) agree in
    let branches = all_right P (names_of c.0) (names_of a.0 ++ names_of b.0) parts in
    fold-roll-Expr Value (eval_layer f) (Expr-F.If c.0 a.0 b.0)
    ∙ ap (λ (v : Value). chosen v (eval_of f a.0) (eval_of f b.0)) (c.1 (all_left P (names_of c.0) (names_of a.0 ++ names_of b.0) parts))
    ∙ ap (λ (v : Value). chosen (eval_of g c.0) v (eval_of f b.0)) (a.1 (all_left P (names_of a.0) (names_of b.0) branches))
    ∙ ap (λ (v : Value). chosen (eval_of g c.0) (eval_of g a.0) v) (b.1 (all_right P (names_of a.0) (names_of b.0) branches))
    ∙ sym (fold-roll-Expr Value (eval_layer g) (Expr-F.If c.0 a.0 b.0))

named_local : (f g : Position → Value) (e : Expr) → IsLocalAt f g e
named_local f g = ind-Expr (IsLocalAt f g) (λ x y is. subst (λ z. IsLocalAt f g (roll-Expr z)) is (layer_local f g y))

-- ---- what is inserted in order keeps each name

insert_keeps : (P : Position → Type 0) (keys : List Position) (k : Position) → AllByRecursion P (insert_key position_cmp keys k) → AllByRecursion P keys × P k
insert_keeps P [] k all = (tt, all.0)
insert_keeps P (x ∷ xs) k all = by (position_cmp k x) refl (insert_keeps P xs k) all
  where
    by : (o : Ordering) → position_cmp k x ≡ o → (AllByRecursion P (insert_key position_cmp xs k) → AllByRecursion P xs × P k) → AllByRecursion P (match_ordering o (k ∷ x ∷ xs) (x ∷ xs) (x ∷ insert_key position_cmp xs k)) → AllByRecursion P (x ∷ xs) × P k
    by Less h ih all = (all.1, all.0)
    by Equal h ih all = (all, subst P (sym (exact_positions k x h)) all.0)
    by Greater h ih all = let rest = ih all.1 in ((all.0, rest.0), rest.1)

fold_keeps : (P : Position → Type 0) (keys xs : List Position) → AllByRecursion P (fold (insert_key position_cmp) keys xs) → AllByRecursion P keys × AllByRecursion P xs
fold_keeps P keys [] all = (all, tt)
fold_keeps P keys (x ∷ xs) all =
    let rest = fold_keeps P (insert_key position_cmp keys x) xs all in
    let first = insert_keeps P keys x rest.0 in
    (first.0, (first.1, rest.1))

pub eval_local : (f g : Position → Value) (e : Expr) → AllByRecursion (λ r. f r ≡ g r) (reads_of e) → eval_of f e ≡ eval_of g e
eval_local f g e agree = named_local f g e (fold_keeps (λ r. f r ≡ g r) [] (names_of e) agree).1
