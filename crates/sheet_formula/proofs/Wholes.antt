-- A raw text, by its first character.
use Rattle.std.proofs.Common.{◌≡◌, ◌≢◌, ℕ, List, [], ◌∷◌, refl, ◌∙◌, ap, subst}
use Rattle.std.specs.Prelude.{Option, Some, None, option_and_then, Result, Err}
use Rattle.std.proofs.lemmas.Bool.{ne_eqb}
use Rattle.formula_base.specs.declared.expressions.Expr.{Expr}
use Rattle.sheet_formula.specs.declared.stop.Stop.{Stop}
use Rattle.sheet_formula.specs.declared.stop.Stop.TheVariants.{Memory, NoFormula}
use Rattle.sheet_formula.specs.declared.tokens.Token.{Token}
use Rattle.sheet_formula.specs.Tokens.{Text, tokens_of}
use Rattle.sheet_formula.specs.Tokenizing.{Makes}
use Rattle.sheet_formula.specs.Grammar.{formula_of, formula}

pub signed : (raw text : Text) → raw ≡ 61 ∷ text → formula_of raw ≡ option_and_then formula (tokens_of text)
unfolding formula_of
signed raw text h = ap formula_of h

pub unsigned : (raw : Text) → ((rest : Text) → raw ≢ 61 ∷ rest) → formula_of raw ≡ None
unfolding formula_of
unsigned [] h = refl
unsigned (c ∷ text) h =
    let other : c ≢ 61 = λ e. h text (ap (λ (c : ℕ). c ∷ text) e) in
    rw (ne_eqb c 61 other) refl

pub uncut : (raw text : Text) (tokens : List Token) → raw ≡ 61 ∷ text → tokens_of text ≡ Some tokens → formula_of raw ≡ formula tokens
uncut raw text tokens h read = signed raw text h ∙ ap (option_and_then formula) read

pub makes_by : (read same : Option Expr) (result : Result Expr Stop) → read ≡ same → Makes (λ (e : Expr). e) read result → Makes (λ (e : Expr). e) same result
makes_by read same result e h = subst (λ (read : Option Expr). Makes (λ (e : Expr). e) read result) e h

pub stops : {X : Type 0} (seen : X → List Token) (raw text : Text) (stop : Stop) → raw ≡ 61 ∷ text → Makes seen (tokens_of text) (Err stop) → Makes (λ (e : Expr). e) (formula_of raw) (Err stop)
stops seen raw text NoFormula h none = signed raw text h ∙ ap (option_and_then formula) none
stops seen raw text Memory h none = tt
