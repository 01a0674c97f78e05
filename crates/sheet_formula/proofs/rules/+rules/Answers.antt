use Rattle.std.proofs.Common.{◌≡◌, ◌+◌, ◌-◌, [], arith, sym, ◌∙◌, ap}
use Rattle.std.specs.Prelude.{Some}
use Rattle.std.proofs.lemmas.Result.{err_from_is_err_and}
use Rattle.sheet_formula.specs.declared.tokens.Token.{Token}
use Rattle.sheet_formula.specs.Grammar.{level_of, fact, arguments, joined, links}
use Rattle.sheet_formula.proofs.Repeats.{level_end, level_refused, links_zero, links_none, links_more, arguments_more, arguments_refused, fact_deeper, with_more, gives_by, gives_refused}
use Rattle.sheet_formula.proofs.rules.+rules.Goals as goal
use Rattle.sheet_formula.proofs.rules.+rules.Goals.{level-else-loop-turn-test, level-then-loop-turn-test+in_default-take_sign}

pub arguments-returns-in_default : goal.arguments-returns-in_default
arguments-returns-in_default t c =
    sym c.loop-turn.invariant
    ∙ ap (with_more c.loop-turn.values)
    (arguments_refused (fact c.args.depth) (c.len-turn-end.result - c.loop-turn._turn) c.loop-turn.tokens.items c.argument.new.tokens.items c.next.new.tokens.items c.in_ok-value.value c.in_ok-next.field-0
    (omega arith) c.in_ok-value.ensures c.in_ok-next.ensures c.in_default.not-Comma c.in_default.not-Close)

pub arguments-loop-turn-preserved : goal.arguments-loop-turn-preserved
arguments-loop-turn-preserved t c =
    ap (λ front. with_more front (arguments (fact c.args.depth) (c.len-turn-end.result - (c.loop-turn._turn + 1)) c.next.new.tokens.items)) c.in_ok-push.ensures.ok
    ∙ sym (arguments_more (fact c.args.depth) (c.len-turn-end.result - c.loop-turn._turn) (c.len-turn-end.result - (c.loop-turn._turn + 1)) c.loop-turn.tokens.items c.argument.new.tokens.items c.next.new.tokens.items c.loop-turn.values c.in_ok-value.value
    (omega arith) c.in_ok-value.ensures (c.in_ok-next.ensures ∙ ap (λ (token : Token). Some (token, c.next.new.tokens.items)) c.in-Comma.is))
    ∙ c.loop-turn.invariant

pub fact-returns-else-depth-eq0 : goal.fact-returns-else-depth-eq0
fact-returns-else-depth-eq0 t c =
    gives_by c.nested.result c.nested.new.tokens.items
    (sym (fact_deeper c.args.depth c.args.tokens.now.items c.next.new.tokens.items c.in_ok-token.token c.if-depth-eq0.false c.in_ok-token.ensures c.in_default.not-Number c.in_default.not-Words c.in_default.not-Cell))
    c.nested.ensures

pub level-returns-in_err-operand : goal.level-returns-in_err-operand
level-returns-in_err-operand t c =
    let p = err_from_is_err_and c.from_residual-in_err-operand.result c.from_residual-in_err-operand.ensures.1 in
    rw (p.1, p.2)
    (gives_refused (level_of c.in-Some.inner (fact c.args.depth) c.take_sign.new.tokens.items) (level_of c.args.this (fact c.args.depth) c.args.tokens.now.items) c.in_err-operand.field-0.0 c.level-in-loop-turn.new.tokens.items c.level-in-loop-turn.new.tokens.items
    (λ none. level_refused c.args.this c.in-Some.inner (fact c.args.depth) c.args.tokens.now.items c.level.new.tokens.items c.loop-turn.tokens.items c.take_sign.new.tokens.items c.in_ok-first.first c.in-Some-take_sign.operator (c.len-turn-end.result - c.loop-turn._turn) c.loop-turn.links
    (sym c.in-Some.ensures) c.in_ok-first.ensures c.loop-turn.invariant.told (omega arith) c.in-Some-take_sign.ensures none)
    c.in_err-operand.ensures)

pub level-loop-turn-preserved : goal.level-loop-turn-preserved
level-loop-turn-preserved t c = record {
  told =
      ap (λ front. with_more front (links c.args.this (level_of c.in-Some.inner (fact c.args.depth)) (c.len-turn-end.result - (c.loop-turn._turn + 1)) c.level-in-loop-turn.new.tokens.items)) c.in_ok-push.ensures.ok
      ∙ sym (links_more c.args.this (level_of c.in-Some.inner (fact c.args.depth)) (c.len-turn-end.result - c.loop-turn._turn) (c.len-turn-end.result - (c.loop-turn._turn + 1)) c.loop-turn.tokens.items c.take_sign.new.tokens.items c.level-in-loop-turn.new.tokens.items c.loop-turn.links c.in-Some-take_sign.operator c.in_ok-operand.operand
      (omega arith) c.in-Some-take_sign.ensures c.in_ok-operand.ensures)
      ∙ c.loop-turn.invariant.told;
  kept = c.loop-turn.invariant.kept;
}

pub level-returns : goal.level-returns
level-returns t c =
    let n = c.len-turn-end.result - c.loop-turn._turn in
    let operand = level_of c.in-Some.inner (fact c.args.depth) in
    let tokens = c.loop-turn.tokens.items in
    let made : c.in_ok-joined.field-0 ≡ joined c.in_ok-first.first c.loop-turn.links = c.in_ok-joined.ensures ∙ ap (λ first. joined first c.loop-turn.links) c.loop-turn.invariant.kept in
    let ended = λ (read : links c.args.this operand n tokens ≡ Some ([], tokens)).
    level_end c.args.this c.in-Some.inner (fact c.args.depth) c.args.tokens.now.items c.level.new.tokens.items tokens c.in_ok-first.first n c.loop-turn.links (sym c.in-Some.ensures) c.in_ok-first.ensures c.loop-turn.invariant.told read in
    elim c.loop-turn-test.branch [
      | level-else-loop-turn-test w ↦ let e = ended (links_zero c.args.this operand n tokens (omega arith)) in cc (e, made, w.tokens-is)
      | level-then-loop-turn-test+in_default-take_sign w ↦ let e = ended (links_none c.args.this operand n tokens w.in_default-take_sign.ensures.0) in let same = w.in_default-take_sign.ensures.1 in cc (e, made, w.tokens-is, same)
    ]
