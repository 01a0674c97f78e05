use Rattle.std.proofs.Common.{length-drop, ◌+◌, arith, sym, subst, Global}
use Rattle.std.proofs.lemmas.Result.{err_from_is_err_and}
use Rattle.std.specs.declared.collections.VecDeque.{VecDeque}
use Rattle.sheet_formula.specs.declared.tokens.Token.{Token}
use Rattle.sheet_formula.proofs.Turning.{Tokenizes, cuts_blank, cuts_token, cuts_end, makes_refused}
use Rattle.sheet_formula.proofs.tokenizing.tokenize.Goals as goal

pub loop-at-preserved-then-bytes-at-eq32 : goal.loop-at-preserved-then-bytes-at-eq32
loop-at-preserved-then-bytes-at-eq32 c = record {
  told = cuts_blank c.args.text.now c.loop-at.at c.loop-at.tokens.items c.loop-at.invariant.told (rw c.as_bytes-bytes.ensures.value at c.loop-at-test.true) (rw c.as_bytes-bytes.ensures.value at c.if-bytes-at-eq32.true);
  within = let w = rw c.as_bytes-bytes.ensures.value at c.loop-at-test.true in omega arith;
}

pub returns-in_err-token : goal.returns-in_err-token
returns-in_err-token c =
    let p = err_from_is_err_and c.from_residual.result c.from_residual.ensures.1 in
    rw (p.1, p.2)
    (makes_refused (λ (tokens : VecDeque Token Global). tokens.items) c.args.text.now c.loop-at.at c.loop-at.tokens.items c.in_err-token.field-0.0 c.loop-at.invariant.told (rw c.as_bytes-bytes.ensures.value at c.loop-at-test.true) (rw c.as_bytes-bytes.ensures.value at c.if-bytes-at-eq32.false) c.in_err-token.ensures)

pub loop-at-preserved : goal.loop-at-preserved
loop-at-preserved c = record {
  told =
      subst (Tokenizes c.args.text.now (c.loop-at.at + c.in_ok-token.len)) (sym c.in_ok-push_back.ensures.items)
      (cuts_token c.args.text.now c.loop-at.at c.in_ok-token.len c.loop-at.tokens.items c.in_ok-token.token c.loop-at.invariant.told (rw c.as_bytes-bytes.ensures.value at c.loop-at-test.true) (rw c.as_bytes-bytes.ensures.value at c.if-bytes-at-eq32.false) c.in_ok-token.ensures.0 c.in_ok-token.ensures.1);
  within = omega (arith, length-drop c.loop-at.at c.args.text.now, c.in_ok-token.ensures.2);
}

pub returns : goal.returns
returns c = cuts_end c.args.text.now c.loop-at.at c.loop-at.tokens.items c.loop-at.invariant.told (rw c.as_bytes-bytes.ensures.value at c.loop-at-test.false)
