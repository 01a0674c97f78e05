use Rattle.std.proofs.Common.{sym, lit<, Global}
use Rattle.std.specs.Prelude.{Some, None}
use Rattle.std.proofs.lemmas.Result.{err_from_is_err_and}
use Rattle.std.proofs.lemmas.Str.Pattern.{strip_prefix_char}
use Rattle.std.specs.declared.collections.VecDeque.{VecDeque}
use Rattle.sheet_formula.specs.declared.tokens.Token.{Token}
use Rattle.sheet_formula.specs.Grammar.{formula_of, formula}
use Rattle.sheet_formula.proofs.Wholes.{unsigned, uncut, makes_by, stops}
use Rattle.sheet_formula.proofs.formulas.behind_sign.Goals as goal

pub returns-in_default : goal.returns-in_default
returns-in_default c = unsigned c.args.raw.now (strip_prefix_char 61 c.args.raw.now None c.in_default.ensures.cases (lit< tt))

pub returns-in_err-tokens : goal.returns-in_err-tokens
returns-in_err-tokens c =
    let p = err_from_is_err_and c.from_residual.result c.from_residual.ensures.1 in
    rw (p.1, p.2)
    (stops (λ (tokens : VecDeque Token Global). tokens.items) c.args.raw.now c.in-Some.text.now c.in_err-tokens.field-0.0
    (strip_prefix_char 61 c.args.raw.now (Some c.in-Some.text) c.in-Some.ensures.cases (lit< tt))
    c.in_err-tokens.ensures)

pub returns : goal.returns
returns c =
    makes_by (formula c.in_ok-tokens.tokens.items) (formula_of c.args.raw.now) c.formula.result
    (sym (uncut c.args.raw.now c.in-Some.text.now c.in_ok-tokens.tokens.items (strip_prefix_char 61 c.args.raw.now (Some c.in-Some.text) c.in-Some.ensures.cases (lit< tt)) c.in_ok-tokens.ensures))
    c.formula.ensures
