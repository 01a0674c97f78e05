-- The value of a chain and of a call, and the cells that they name, over their parts as they stand.
use Rattle.std.proofs.Common.{◌≡◌, List, [], ◌∷◌, ◌++◌, map, refl, ap, ◌∙◌}
use Rattle.std.specs.Prelude.{fold}
use Rattle.std.specs.List.{flat_map}
use Rattle.std.proofs.lemmas.List.Folds.{fold-map, flat_map-map}
use Rattle.formula_base.specs.declared.values.Value.{Value}
use Rattle.formula_base.specs.declared.expressions.Function.{Function}
use Rattle.formula_base.specs.declared.expressions.Argument.{Argument}
use Rattle.formula_base.specs.declared.expressions.Argument.TheVariants.{Range, One}
use Rattle.formula_base.specs.declared.expressions.Link.{Link}
use Rattle.formula_base.specs.declared.expressions.Expr.{Expr}
use Rattle.formula_base.specs.declared.expressions.Expr.TheOpen.{Expr-F}
use Rattle.formula_base.specs.declared.expressions.Expr.TheFolds.{fold-Expr, fold-roll-Expr}
use Rattle.formula_base.specs.declared.expressions.Expr.TheViews.{roll-Expr}
use Rattle.formula_base.specs.declared.expressions.Expr.TheShapes.{former-Expr-Chain-1-at-2, former-Expr-Call-1-at-3}
use Rattle.formula_base.specs.Ranges.{Position, cells_between}
use Rattle.formula_base.specs.Values.{combined}
use Rattle.formula_base.specs.Evaluation.{eval_layer, eval_of, called, argument_values, names_layer, names_of, argument_cells}

-- what a chain has so far, and one more link
abbrev pub linked : (Position → Value) → Value → Link Expr → Value
linked look left link = combined link.operator left (eval_of look link.operand)

-- the values of an argument
abbrev pub values_of : (Position → Value) → Argument Expr → List Value
values_of look (Range p q) = map look (cells_between p q)
values_of look (One e) = eval_of look e ∷ []

-- the cells that a link and an argument name
abbrev pub link_names : Link Expr → List Position
link_names link = names_of link.operand

abbrev pub argument_names : Argument Expr → List Position
argument_names (Range p q) = cells_between p q
argument_names (One e) = names_of e

pub eval_chain : (look : Position → Value) (a : Expr) (links : List (Link Expr)) → eval_of look (roll-Expr (Expr-F.Chain a links)) ≡ fold (linked look) (eval_of look a) links
eval_chain look a links =
    fold-roll-Expr Value (eval_layer look) (Expr-F.Chain a links)
    ∙ fold-map (λ (left : Value) (link : Link Value). combined link.operator left link.operand) (former-Expr-Chain-1-at-2.map Expr Value (fold-Expr Value (eval_layer look))) (eval_of look a) links

call_values : (look : Position → Value) (arguments : List (Argument Expr)) → flat_map (argument_values look) (map (former-Expr-Call-1-at-3.map Expr Value (fold-Expr Value (eval_layer look))) arguments) ≡ flat_map (values_of look) arguments
call_values look [] = refl
call_values look (Range p q ∷ arguments) = ap (λ (vs : List Value). map look (cells_between p q) ++ vs) (call_values look arguments)
call_values look (One e ∷ arguments) = ap (λ (vs : List Value). (eval_of look e ∷ []) ++ vs) (call_values look arguments)

pub eval_call : (look : Position → Value) (f : Function) (arguments : List (Argument Expr)) → eval_of look (roll-Expr (Expr-F.Call f arguments)) ≡ called f (flat_map (values_of look) arguments)
eval_call look f arguments = fold-roll-Expr Value (eval_layer look) (Expr-F.Call f arguments) ∙ ap (called f) (call_values look arguments)

pub names_chain : (a : Expr) (links : List (Link Expr)) → names_of (roll-Expr (Expr-F.Chain a links)) ≡ names_of a ++ flat_map link_names links
names_chain a links =
    fold-roll-Expr (List Position) names_layer (Expr-F.Chain a links)
    ∙ ap (λ (ps : List Position). names_of a ++ ps) (flat_map-map (λ (link : Link (List Position)). link.operand) (former-Expr-Chain-1-at-2.map Expr (List Position) (fold-Expr (List Position) names_layer)) links)

call_names : (arguments : List (Argument Expr)) → flat_map argument_cells (map (former-Expr-Call-1-at-3.map Expr (List Position) (fold-Expr (List Position) names_layer)) arguments) ≡ flat_map argument_names arguments
call_names [] = refl
call_names (Range p q ∷ arguments) = ap (λ (ps : List Position). cells_between p q ++ ps) (call_names arguments)
call_names (One e ∷ arguments) = ap (λ (ps : List Position). names_of e ++ ps) (call_names arguments)

pub names_call : (f : Function) (arguments : List (Argument Expr)) → names_of (roll-Expr (Expr-F.Call f arguments)) ≡ flat_map argument_names arguments
names_call f arguments = fold-roll-Expr (List Position) names_layer (Expr-F.Call f arguments) ∙ call_names arguments
