use Rattle.std.proofs.Common.{◌≤◌, length, ap, ◌∙◌, arith}
use Rattle.std.specs.Prelude.{fold}
use Rattle.std.specs.BTreeSet.{insert_key}
use Rattle.formula_base.specs.Ranges.{position_cmp}
use Rattle.formula_base.specs.Evaluation.{names_of}
use Rattle.formula_base.specs.declared.expressions.Expr.{Expr}
use Rattle.formula_base.proofs.Turns.{on_ok, names_compare, names_if, two_done, three_done, chain_named, call_named}
use Rattle.formula_base.proofs.naming.+name.Goals as goal

pub returns-after-loop-link : goal.returns-after-loop-link
returns-after-loop-link t c =
    let all : length c.as_slice-link-items.result.now ≤ c.loop-link.link-index = omega arith in
    let start = c.args.named.now.keys in
    chain_named c.args.expr.now c.in-Chain.first c.in-Chain.links c.as_slice-link-items.result.now c.loop-link.link-index start c.name-in-Chain.new.named.keys c.loop-link.named.keys
    c.in-Chain.is c.as_slice-link-items.ensures all
    (c.in_ok-name-in-Chain.ensures ∙ ap (λ (e : Expr). fold (insert_key position_cmp) start (names_of e)) c.get-in-Chain.ensures) c.loop-link.invariant

pub returns-after-loop-argument : goal.returns-after-loop-argument
returns-after-loop-argument t c =
    let all : length c.as_slice-argument-items.result.now ≤ c.loop-argument.argument-index = omega arith in
    call_named c.args.expr.now c.in-Call.field-0 c.in-Call.arguments c.as_slice-argument-items.result.now c.loop-argument.argument-index c.args.named.now.keys c.loop-argument.named.keys
    c.in-Call.is c.as_slice-argument-items.ensures all c.loop-argument.invariant

pub returns-in_ok-name-in-Compare : goal.returns-in_ok-name-in-Compare
returns-in_ok-name-in-Compare t c =
    let start = c.args.named.now.keys in
    let first = c.name-in-Compare.new.named.keys in
    on_ok c.name-in-Compare-2.result c.name-in-Compare-2.ensures (λ told.
    two_done c.args.expr.now (names_of c.in-Compare.left) (names_of c.in-Compare.right) start first c.name-in-Compare-2.new.named.keys
    (ap names_of c.in-Compare.is ∙ names_compare c.in-Compare.field-0 c.in-Compare.left c.in-Compare.right)
    (c.in_ok-name-in-Compare.ensures ∙ ap (λ (e : Expr). fold (insert_key position_cmp) start (names_of e)) c.get-in-Compare.ensures)
    (told ∙ ap (λ (e : Expr). fold (insert_key position_cmp) first (names_of e)) c.get-in-Compare-2.ensures))

pub returns-in_ok-name-in-If-2 : goal.returns-in_ok-name-in-If-2
returns-in_ok-name-in-If-2 t c =
    let start = c.args.named.now.keys in
    let first = c.name-in-If.new.named.keys in
    let second = c.name-in-If-2.new.named.keys in
    on_ok c.name-in-If-3.result c.name-in-If-3.ensures (λ told.
    three_done c.args.expr.now (names_of c.in-If.condition) (names_of c.in-If.first) (names_of c.in-If.second) start first second c.name-in-If-3.new.named.keys
    (ap names_of c.in-If.is ∙ names_if c.in-If.condition c.in-If.first c.in-If.second)
    (c.in_ok-name-in-If.ensures ∙ ap (λ (e : Expr). fold (insert_key position_cmp) start (names_of e)) c.get-in-If.ensures)
    (c.in_ok-name-in-If-2.ensures ∙ ap (λ (e : Expr). fold (insert_key position_cmp) first (names_of e)) c.get-in-If-2.ensures)
    (told ∙ ap (λ (e : Expr). fold (insert_key position_cmp) second (names_of e)) c.get-in-If-3.ensures))
