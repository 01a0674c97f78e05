use Rattle.std.proofs.Common.{◌<◌, ◌≤◌, length, ap, ◌∙◌, arith}
use Rattle.formula_base.specs.Evaluation.{eval_of}
use Rattle.formula_base.proofs.Turns.{range_turn, one_turn, chain_done, call_done}
use Rattle.formula_base.proofs.evaluation.+eval.Goals.{in-Range+in_ok-gather_range-in-Range, in-One+in_ok-value-in-One+in_ok-add-in-One+in-Words-1, in-One+in_ok-value-in-One+in_ok-add-in-One+in-Empty-1}
use Rattle.formula_base.proofs.evaluation.+eval.Goals as goal

pub loop-argument-preserved : goal.loop-argument-preserved
loop-argument-preserved g t c =
    let look = g.L.Lookup.value_at c.args.lookup.now in
    let items = c.as_slice-argument-items.result.now in
    let within : c.loop-argument.argument-index < length items = omega arith in
    elim c.match-argument.branch [
      | in-Range+in_ok-gather_range-in-Range w ↦
          w.gathered-is ∙ range_turn look items _ c.argument-item.result w.in-Range.first w.in-Range.last _ _ within c.argument-item.is w.in-Range.is c.loop-argument.invariant w.in_ok-gather_range-in-Range.ensures
      | in-One+in_ok-value-in-One+in_ok-add-in-One+in-Words-1 w ↦
          w.gathered-is ∙ one_turn look items _ c.argument-item.result w.in-One.value w.in_ok-value-in-One.value _ _ within c.argument-item.is w.in-One.is c.loop-argument.invariant w.in_ok-value-in-One.ensures w.in_ok-add-in-One.ensures
      | in-One+in_ok-value-in-One+in_ok-add-in-One+in-Empty-1 w ↦
          w.gathered-is ∙ one_turn look items _ c.argument-item.result w.in-One.value w.in_ok-value-in-One.value _ _ within c.argument-item.is w.in-One.is c.loop-argument.invariant w.in_ok-value-in-One.ensures w.in_ok-add-in-One.ensures
    ]

pub returns-after-loop-link : goal.returns-after-loop-link
returns-after-loop-link g t c =
    let look = g.L.Lookup.value_at c.args.lookup.now in
    let all : length c.as_slice-link-items.result.now ≤ c.loop-link.link-index = omega arith in
    chain_done look c.args.expr.now c.in-Chain.first c.in-Chain.links c.as_slice-link-items.result.now c.loop-link.link-index c.loop-link.left c.in_ok-left-in-Chain.left
    c.in-Chain.is (c.in_ok-left-in-Chain.ensures ∙ ap (eval_of look) c.get-in-Chain.ensures) c.as_slice-link-items.ensures all c.loop-link.invariant

pub returns-after-loop-argument : goal.returns-after-loop-argument
returns-after-loop-argument g t c =
    let look = g.L.Lookup.value_at c.args.lookup.now in
    let all : length c.as_slice-argument-items.result.now ≤ c.loop-argument.argument-index = omega arith in
    call_done look c.args.expr.now c.in-Call.function c.in-Call.arguments c.as_slice-argument-items.result.now c.loop-argument.argument-index c.loop-argument.gathered c.value-in-Call.result
    c.in-Call.is c.as_slice-argument-items.ensures all c.loop-argument.invariant c.value-in-Call.ensures
