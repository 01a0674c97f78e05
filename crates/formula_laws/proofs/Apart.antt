-- In a formula no two words stand beside each other, and no two signs that compare.
use Rattle.std.proofs.Common.{◌≡◌, inl, inr, ℕ, zero, suc, true, false, List, [], ◌∷◌, ◌++◌, refl, sym, ◌∙◌, ap, subst, append_assoc, append-nil}
use Rattle.formula_base.specs.declared.expressions.Argument.{Argument}
use Rattle.formula_base.specs.declared.expressions.Argument.TheVariants as argument
use Rattle.formula_base.specs.declared.expressions.Link.{Link}
use Rattle.formula_base.specs.declared.expressions.Operator.TheVariants.{Subtract}
use Rattle.formula_base.specs.declared.expressions.Expr.{Expr}
use Rattle.formula_base.specs.declared.expressions.Expr.TheVariants as e
use Rattle.sheet_formula.specs.declared.tokens.Token.{Token}
use Rattle.sheet_formula.specs.declared.tokens.Token.TheVariants.{Number, Words, Cell, Function, If, Sign, Compare, Open, Close, Comma, Colon}
use Rattle.sheet_formula.specs.declared.levels.Level.{Level}
use Rattle.sheet_formula.specs.declared.levels.Level.TheVariants as level
use Rattle.formula_laws.specs.Language.{Says, AreLinks, IsChain, IsSum, IsComparison, IsArgument, AreArguments, IsLeaf, IsNested, IsFact}
use Rattle.formula_laws.proofs.Characters.{no_true, is_word, is_compare}

-- two words don't stand beside each other, nor do two signs that compare
pub record Apart (one other : Token) : Type 0 where
  pub words : is_word one ≡ true → is_word other ≡ false
  pub compare : is_compare one ≡ true → is_compare other ≡ false

abbrev pub AreApart : List Token → Type 0
AreApart [] = Unit {0}
AreApart (token ∷ []) = Unit {0}
AreApart (token ∷ (other ∷ tokens)) = Apart token other × AreApart (other ∷ tokens)

-- such words and signs, that neither begin nor end with a sign that compares
record Solid (tokens : List Token) : Type 0 where
  apart : AreApart tokens
  first : (token : Token) × (rest : List Token) × (tokens ≡ token ∷ rest) × (is_compare token ≡ false)
  last : (front : List Token) × (token : Token) × (tokens ≡ front ++ token ∷ []) × (is_compare token ≡ false)

-- a sign that is no word, behind one that doesn't compare and in front of one
apart_behind : (token sign : Token) → is_compare token ≡ false → is_word sign ≡ false → Apart token sign
apart_behind token sign quiet h = record { words = λ _. h; compare = λ loud. absurd (no_true (sym quiet ∙ loud)) }

apart_before : (sign token : Token) → is_word sign ≡ false → is_compare token ≡ false → Apart sign token
apart_before sign token h quiet = record { words = λ loud. absurd (no_true (sym h ∙ loud)); compare = λ _. quiet }

apart_first : (sign token : Token) (rest tokens : List Token) → tokens ≡ token ∷ rest → Apart sign token → AreApart tokens → AreApart (sign ∷ tokens)
apart_first sign token rest tokens split one all = subst (λ (ts : List Token). AreApart (sign ∷ ts)) (sym split) (one, subst AreApart split all)

apart_append : (front rest : List Token) (token sign : Token) → AreApart (front ++ token ∷ []) → Apart token sign → AreApart (sign ∷ rest) → AreApart (front ++ token ∷ (sign ∷ rest))
apart_append [] rest token sign a one b = (one, b)
apart_append (x ∷ []) rest token sign a one b = (a.0, (one, b))
apart_append (x ∷ (y ∷ front)) rest token sign a one b = (a.0, apart_append (y ∷ front) rest token sign a.1 one b)

single : (token : Token) → is_compare token ≡ false → Solid (token ∷ [])
single token h = record { apart = tt; first = (token, [], refl, h); last = ([], token, refl, h) }

-- a token in front
led : (token : Token) (tokens : List Token) → is_compare token ≡ false → ((other : Token) → is_compare other ≡ false → Apart token other) → Solid tokens → Solid (token ∷ tokens)
led token tokens quiet beside solid = record {
  apart = apart_first token solid.first.0 solid.first.1 tokens solid.first.2 (beside solid.first.0 solid.first.3) solid.apart;
  first = (token, tokens, refl, quiet);
  last = (token ∷ solid.last.0, solid.last.1, ap (λ (ts : List Token). token ∷ ts) solid.last.2, solid.last.3);
}

signed : (sign : Token) (tokens : List Token) → is_word sign ≡ false → is_compare sign ≡ false → Solid tokens → Solid (sign ∷ tokens)
signed sign tokens h quiet solid = led sign tokens quiet (λ other calm. apart_before sign other h calm) solid

-- a word, and a sign that is no word behind it
named : (word sign : Token) (tokens : List Token) → is_compare word ≡ false → is_word sign ≡ false → is_compare sign ≡ false → Solid (sign ∷ tokens) → Solid (word ∷ (sign ∷ tokens))
named word sign tokens quiet h calm solid = record {
  apart = (apart_behind word sign quiet h, solid.apart);
  first = (word, sign ∷ tokens, refl, quiet);
  last = (word ∷ solid.last.0, solid.last.1, ap (λ (ts : List Token). word ∷ ts) solid.last.2, solid.last.3);
}

behind_last : (front : List Token) (token : Token) (rest : List Token) → (front ++ token ∷ []) ++ rest ≡ front ++ token ∷ rest
behind_last front token rest = append_assoc front (token ∷ []) rest

-- two, with a sign between them that is no word
joined_by : (sign : Token) (a b : List Token) → is_word sign ≡ false → Solid a → Solid b → Solid (a ++ sign ∷ b)
joined_by sign a b h left right =
    let front = left.last.0 in
    let token = left.last.1 in
    let whole : a ++ sign ∷ b ≡ front ++ token ∷ (sign ∷ b) = ap (λ (ts : List Token). ts ++ sign ∷ b) left.last.2 ∙ behind_last front token (sign ∷ b) in
    record {
      apart = subst AreApart (sym whole) (apart_append front b token sign (subst AreApart left.last.2 left.apart) (apart_behind token sign left.last.3 h)
          (apart_first sign right.first.0 right.first.1 b right.first.2 (apart_before sign right.first.0 h right.first.3) right.apart));
      first = (left.first.0, left.first.1 ++ sign ∷ b, ap (λ (ts : List Token). ts ++ sign ∷ b) left.first.2, left.first.3);
      last = (a ++ sign ∷ right.last.0, right.last.1, ap (λ (ts : List Token). a ++ sign ∷ ts) right.last.2 ∙ sym (append_assoc a (sign ∷ right.last.0) (right.last.1 ∷ [])), right.last.3);
    }

-- one, with a sign behind it that is no word and doesn't compare
closed_by : (sign : Token) (a : List Token) → is_word sign ≡ false → is_compare sign ≡ false → Solid a → Solid (a ++ sign ∷ [])
closed_by sign a h quiet left =
    let front = left.last.0 in
    let token = left.last.1 in
    let whole : a ++ sign ∷ [] ≡ front ++ token ∷ (sign ∷ []) = ap (λ (ts : List Token). ts ++ sign ∷ []) left.last.2 ∙ behind_last front token (sign ∷ []) in
    record {
      apart = subst AreApart (sym whole) (apart_append front [] token sign (subst AreApart left.last.2 left.apart) (apart_behind token sign left.last.3 h) tt);
      first = (left.first.0, left.first.1 ++ sign ∷ [], ap (λ (ts : List Token). ts ++ sign ∷ []) left.first.2, left.first.3);
      last = (a, sign, refl, quiet);
    }

abbrev AllSolid : {A : Type 0} → Says A → Type 0
AllSolid {A} Is = (tokens : List Token) (value : A) → Is tokens value → Solid tokens

links_solid : (this : Level) (Is : Says Expr) → AllSolid Is → (values : List (Link Expr)) (front rest : List Token) → Solid front → AreLinks this Is rest values → Solid (front ++ rest)
links_solid this Is all [] front rest solid is = subst Solid (sym (ap (λ (ts : List Token). front ++ ts) is ∙ append-nil front)) solid
links_solid this Is all (link ∷ values) front rest solid is =
    let sign = Sign link.operator in
    let whole : front ++ rest ≡ (front ++ sign ∷ is.0) ++ is.1 = ap (λ (ts : List Token). front ++ ts) is.2 ∙ sym (append_assoc front (sign ∷ is.0) is.1) in
    subst Solid (sym whole) (links_solid this Is all values (front ++ sign ∷ is.0) is.1 (joined_by sign front is.0 refl solid (all is.0 link.operand is.4)) is.5)

chain_solid : (this : Level) (Is : Says Expr) → AllSolid Is → AllSolid (IsChain this Is)
chain_solid this Is all tokens value is = subst Solid (sym is.5) (links_solid this Is all is.1 is.2 is.3 (all is.2 is.0 is.6) is.7)

sum_solid : (Is : Says Expr) → AllSolid Is → AllSolid (IsSum Is)
sum_solid Is all = chain_solid level.Sum (IsChain level.Product Is) (chain_solid level.Product Is all)

comparison_solid : (Is : Says Expr) → AllSolid Is → AllSolid (IsComparison Is)
comparison_solid Is all tokens value (inl is) = sum_solid Is all tokens value is
comparison_solid Is all tokens value (inr is) =
    subst Solid (sym is.6) (joined_by (Compare is.0) is.3 is.4 refl (sum_solid Is all is.3 is.1 is.7) (sum_solid Is all is.4 is.2 is.8))

argument_solid : (Is : Says Expr) → AllSolid Is → AllSolid (IsArgument Is)
argument_solid Is all tokens (argument.Range first last) is =
    subst Solid (sym is) (named (Cell first) Colon (Cell last ∷ []) refl refl refl (signed Colon (Cell last ∷ []) refl refl (single (Cell last) refl)))
argument_solid Is all tokens (argument.One value) is = comparison_solid Is all tokens value is

arguments_solid : (Is : Says Expr) → AllSolid Is → (values : List (Argument Expr)) (tokens : List Token) → AreArguments Is tokens values → Solid tokens
arguments_solid Is all [] tokens is = absurd is
arguments_solid Is all (value ∷ []) tokens is = argument_solid Is all tokens value is
arguments_solid Is all (value ∷ (other ∷ values)) tokens is =
    subst Solid (sym is.2) (joined_by Comma is.0 is.1 refl (argument_solid Is all is.0 value is.3) (arguments_solid Is all (other ∷ values) is.1 is.4))

nested_solid : (Is : Says Expr) → AllSolid Is → AllSolid (IsNested Is)
nested_solid Is all tokens value (inl is) = subst Solid (sym is.3) (signed (Sign Subtract) is.1 refl refl (all is.1 is.0 is.4))
nested_solid Is all tokens value (inr (inl is)) =
    subst Solid (sym is.1) (signed Open (is.0 ++ Close ∷ []) refl refl (closed_by Close is.0 refl refl (comparison_solid Is all is.0 value is.2)))
nested_solid Is all tokens value (inr (inr (inl is))) =
    subst Solid (sym is.4) (named (Function is.0) Open (is.2 ++ Close ∷ []) refl refl refl (signed Open (is.2 ++ Close ∷ []) refl refl (closed_by Close is.2 refl refl (arguments_solid Is all is.1 is.2 is.5))))
nested_solid Is all tokens value (inr (inr (inr is))) =
    let c = closed_by Close is.5 refl refl (comparison_solid Is all is.5 is.2 is.10) in
    let b = joined_by Comma is.4 (is.5 ++ Close ∷ []) refl (comparison_solid Is all is.4 is.1 is.9) c in
    let a = joined_by Comma is.3 (is.4 ++ Comma ∷ (is.5 ++ Close ∷ [])) refl (comparison_solid Is all is.3 is.0 is.8) b in
    subst Solid (sym is.7) (named If Open (is.3 ++ Comma ∷ (is.4 ++ Comma ∷ (is.5 ++ Close ∷ []))) refl refl refl (signed Open (is.3 ++ Comma ∷ (is.4 ++ Comma ∷ (is.5 ++ Close ∷ []))) refl refl a))

leaf_solid : AllSolid IsLeaf
leaf_solid tokens (e.Number z) is = subst Solid (sym is) (single (Number z) refl)
leaf_solid tokens (e.Words text) is = subst Solid (sym is) (single (Words text) refl)
leaf_solid tokens (e.Cell position) is = subst Solid (sym is) (single (Cell position) refl)
leaf_solid tokens value is = absurd is

fact_solid : (depth : ℕ) → AllSolid (IsFact depth)
unfolding IsFact
fact_solid zero tokens value is = leaf_solid tokens value is
fact_solid (suc depth) tokens value (inl is) = leaf_solid tokens value is
fact_solid (suc depth) tokens value (inr is) = nested_solid (IsFact depth) (fact_solid depth) tokens value is

pub comparison_apart : (tokens : List Token) (expression : Expr) → IsComparison (IsFact 64) tokens expression → AreApart tokens
comparison_apart tokens expression is = (comparison_solid (IsFact 64) (fact_solid 64) tokens expression is).apart
