use Rattle.std.proofs.Common.{◌≤◌, ◌++◌, length, ap, ◌∙◌, arith}
use Rattle.formula_base.specs.Blocks.{blocks_of}
use Rattle.formula_base.specs.declared.expressions.Expr.{Expr}
use Rattle.formula_base.proofs.Turns.{on_ok}
use Rattle.formula_base.proofs.BlockLaws.{blocks_compare, blocks_if, two_added, three_added, chain_added, call_added}
use Rattle.formula_base.proofs.naming.+add_blocks.Goals as goal

pub returns-after-loop-link : goal.returns-after-loop-link
returns-after-loop-link t c =
    let all : length c.as_slice-link-items.result.now ≤ c.loop-link.link-index = omega arith in
    let start = c.args.blocks.now.items in
    chain_added c.args.expr.now c.in-Chain.first c.in-Chain.links c.as_slice-link-items.result.now c.loop-link.link-index start c.add_blocks-in-Chain.new.blocks.items c.loop-link.blocks.items
    c.in-Chain.is c.as_slice-link-items.ensures all
    (c.in_ok-add_blocks-in-Chain.ensures ∙ ap (λ (e : Expr). start ++ blocks_of e) c.get-in-Chain.ensures) c.loop-link.invariant

pub returns-after-loop-argument : goal.returns-after-loop-argument
returns-after-loop-argument t c =
    let all : length c.as_slice-argument-items.result.now ≤ c.loop-argument.argument-index = omega arith in
    call_added c.args.expr.now c.in-Call.field-0 c.in-Call.arguments c.as_slice-argument-items.result.now c.loop-argument.argument-index c.args.blocks.now.items c.loop-argument.blocks.items
    c.in-Call.is c.as_slice-argument-items.ensures all c.loop-argument.invariant

pub returns-in_ok-add_blocks-in-Compare : goal.returns-in_ok-add_blocks-in-Compare
returns-in_ok-add_blocks-in-Compare t c =
    let start = c.args.blocks.now.items in
    let first = c.add_blocks-in-Compare.new.blocks.items in
    on_ok c.add_blocks-in-Compare-2.result c.add_blocks-in-Compare-2.ensures (λ told.
    two_added c.args.expr.now (blocks_of c.in-Compare.left) (blocks_of c.in-Compare.right) start first c.add_blocks-in-Compare-2.new.blocks.items
    (ap blocks_of c.in-Compare.is ∙ blocks_compare c.in-Compare.field-0 c.in-Compare.left c.in-Compare.right)
    (c.in_ok-add_blocks-in-Compare.ensures ∙ ap (λ (e : Expr). start ++ blocks_of e) c.get-in-Compare.ensures)
    (told ∙ ap (λ (e : Expr). first ++ blocks_of e) c.get-in-Compare-2.ensures))

pub returns-in_ok-add_blocks-in-If-2 : goal.returns-in_ok-add_blocks-in-If-2
returns-in_ok-add_blocks-in-If-2 t c =
    let start = c.args.blocks.now.items in
    let first = c.add_blocks-in-If.new.blocks.items in
    let second = c.add_blocks-in-If-2.new.blocks.items in
    on_ok c.add_blocks-in-If-3.result c.add_blocks-in-If-3.ensures (λ told.
    three_added c.args.expr.now (blocks_of c.in-If.condition) (blocks_of c.in-If.first) (blocks_of c.in-If.second) start first second c.add_blocks-in-If-3.new.blocks.items
    (ap blocks_of c.in-If.is ∙ blocks_if c.in-If.condition c.in-If.first c.in-If.second)
    (c.in_ok-add_blocks-in-If.ensures ∙ ap (λ (e : Expr). start ++ blocks_of e) c.get-in-If.ensures)
    (c.in_ok-add_blocks-in-If-2.ensures ∙ ap (λ (e : Expr). first ++ blocks_of e) c.get-in-If-2.ensures)
    (told ∙ ap (λ (e : Expr). second ++ blocks_of e) c.get-in-If-3.ensures))
