-- What is read is said by the grammar.
use Rattle.std.proofs.Common.{◌≡◌, ◌⊎◌, inl, inr, ℕ, zero, suc, Bool, true, false, List, [], ◌∷◌, ◌++◌, length, refl, sym, ◌∙◌, ap, subst, append_assoc, append-nil, arith}
use Rattle.std.proofs.lemmas.Bool.{eqb-true}
use Rattle.std.specs.Prelude.{Option, Some, None, option_and_then, cond, nat_eq, ◌==◌, if◌then◌else◌}
use Rattle.formula_base.specs.declared.expressions.Argument.{Argument}
use Rattle.formula_base.specs.declared.expressions.Argument.TheVariants as argument
use Rattle.formula_base.specs.declared.expressions.Operator.{Operator}
use Rattle.formula_base.specs.declared.expressions.Operator.TheVariants as sign
use Rattle.formula_base.specs.declared.expressions.Comparison.{Comparison}
use Rattle.formula_base.specs.declared.expressions.Function.{Function as Named}
use Rattle.formula_base.specs.declared.expressions.Link.{Link}
use Rattle.formula_base.specs.declared.expressions.Expr.{Expr}
use Rattle.formula_base.specs.declared.expressions.Expr.TheVariants as e
use Rattle.sheet_formula.specs.declared.tokens.Token.{Token}
use Rattle.sheet_formula.specs.declared.tokens.Token.TheVariants.{Number, Words, Cell, Function, If, Sign, Compare, Open, Close, Comma, Colon}
use Rattle.sheet_formula.specs.declared.levels.Level.{Level}
use Rattle.sheet_formula.specs.declared.levels.Level.TheVariants as level
use Rattle.sheet_formula.specs.Tokens.{Text, tokens_of}
use Rattle.sheet_formula.specs.Reading.{Reading, pure, refused, next, on_read, ◌>>=◌}
use Rattle.sheet_formula.specs.Grammar.{is_of_level, sign_of_level, comparison_sign, open_sign, close_sign, comma_sign, joined, links, chain, level_of, compared_with, comparison, part, is_range, cell, range, argument_of, arguments, behind_argument, choice, nested, by_token, fact, formula, formula_of}
use Rattle.formula_laws.specs.Language.{Says, AreLinks, IsChain, IsSum, AreCompared, IsComparison, IsArgument, AreArguments, IsLeaf, IsCall, IsChoice, IsNested, IsFact, IsFormula}

-- what was read stands at the front, and is said so
abbrev pub Front : {A : Type 0} → Says A → List Token → A → List Token → Type 0
Front {A} Is tokens value rest = (front : List Token) × (tokens ≡ front ++ rest) × Is front value

abbrev pub Sound : {A : Type 0} → Reading A → Says A → Type 0
Sound {A} read Is = (tokens rest : List Token) (value : A) → read tokens ≡ Some (value, rest) → Front Is tokens value rest

-- the first rule of two that follow each other
pub first_read : {A B : Type 0} (found : Option (A × List Token)) (f : A → Reading B) (value : B) (rest : List Token) → on_read found f ≡ Some (value, rest)
    → (a : A) × (behind : List Token) × (found ≡ Some (a, behind)) × (f a behind ≡ Some (value, rest))
first_read None f value rest h = let absurdity : ⊥ = cc in absurd absurdity
first_read (Some found) f value rest h = (found.0, found.1, refl, h)

pub no_some : {A : Type 0} (x : A) → None ≡ Some x → ⊥
no_some x h = cc

pub same_some : {A : Type 0} (x y : A) → Some x ≡ Some y → x ≡ y
same_some x y h = cc

cond_read : {A : Type 0} (b : Bool) (x y : A) → cond b (Some x) None ≡ Some y → (b ≡ true) × (x ≡ y)
cond_read true x y h = (refl, same_some x y h)
cond_read false x y h = absurd (no_some y h)

-- what is read, as a pair
abbrev pub read_as : {A : Type 0} → A → List Token → Option (A × List Token)
read_as a rest = Some (a, rest)

-- a value that was given, with what stands in front of the rest
given : {A : Type 0} (Is : Says A) (tokens front behind rest : List Token) (a value : A) → read_as a behind ≡ Some (value, rest) → tokens ≡ front ++ behind → Is front a → Front Is tokens value rest
given {A} Is tokens front behind rest a value h split is =
    subst (λ (q : A × List Token). Front Is tokens q.0 q.1) (same_some (a, behind) (value, rest) h) (front, split, is)

pub sign_read : (this : Level) (tokens rest : List Token) (operator : Operator) → sign_of_level this tokens ≡ Some (operator, rest) → (tokens ≡ Sign operator ∷ rest) × (is_of_level this operator ≡ true)
sign_read this (Sign other ∷ tokens) rest operator h =
    let p = cond_read (is_of_level this other) (other, tokens) (operator, rest) h in
    let same : other ≡ operator = ap (λ (q : Operator × List Token). q.0) p.1 in
    let left : tokens ≡ rest = ap (λ (q : Operator × List Token). q.1) p.1 in
    (cc (same, left), sym (ap (is_of_level this) same) ∙ p.0)
sign_read this tokens rest operator h = absurd (no_some (operator, rest) h)

pub comparison_read : (tokens rest : List Token) (sign : Comparison) → comparison_sign tokens ≡ Some (sign, rest) → tokens ≡ Compare sign ∷ rest
comparison_read (Compare other ∷ tokens) rest sign h = let p = same_some (other, tokens) (sign, rest) h in ap (λ (q : Comparison × List Token). Compare q.0 ∷ q.1) p
comparison_read tokens rest sign h = absurd (no_some (sign, rest) h)

pub open_read : (tokens rest : List Token) (u : Unit) → open_sign tokens ≡ Some (u, rest) → tokens ≡ Open ∷ rest
open_read (Open ∷ tokens) rest u h = ap (λ (q : Unit × List Token). Open ∷ q.1) (same_some (tt, tokens) (u, rest) h)
open_read tokens rest u h = absurd (no_some (u, rest) h)

pub close_read : (tokens rest : List Token) (u : Unit) → close_sign tokens ≡ Some (u, rest) → tokens ≡ Close ∷ rest
close_read (Close ∷ tokens) rest u h = ap (λ (q : Unit × List Token). Close ∷ q.1) (same_some (tt, tokens) (u, rest) h)
close_read tokens rest u h = absurd (no_some (u, rest) h)

pub comma_read : (tokens rest : List Token) (u : Unit) → comma_sign tokens ≡ Some (u, rest) → tokens ≡ Comma ∷ rest
comma_read (Comma ∷ tokens) rest u h = ap (λ (q : Unit × List Token). Comma ∷ q.1) (same_some (tt, tokens) (u, rest) h)
comma_read tokens rest u h = absurd (no_some (u, rest) h)

pub next_read : (tokens rest : List Token) (token : Token) → next tokens ≡ Some (token, rest) → tokens ≡ token ∷ rest
next_read (other ∷ tokens) rest token h = ap (λ (q : Token × List Token). q.0 ∷ q.1) (same_some (other, tokens) (token, rest) h)
next_read [] rest token h = absurd (no_some (token, rest) h)

pub links_none : (this : Level) (operand : Reading Expr) (n : ℕ) (tokens : List Token) → sign_of_level this tokens ≡ None → links this operand n tokens ≡ Some ([], tokens)
unfolding links
links_none this operand zero tokens h = refl
links_none this operand (suc n) tokens h = rw (h, links) refl

pub links_step : (this : Level) (operand : Reading Expr) (n : ℕ) (tokens rest : List Token) (operator : Operator) → sign_of_level this tokens ≡ Some (operator, rest)
    → links this operand (suc n) tokens ≡ (operand >>= λ right. links this operand n >>= λ more. pure (record { operator = operator; operand = right } ∷ more)) rest
unfolding links
links_step this operand n tokens rest operator h = rw (h, links) refl

links_zero : (this : Level) (operand : Reading Expr) (tokens : List Token) → links this operand zero tokens ≡ Some ([], tokens)
unfolding links
links_zero this operand tokens = refl

no_links : (this : Level) (Is : Says Expr) (tokens rest : List Token) (values : List (Link Expr)) → read_as [] tokens ≡ Some (values, rest) → Front (AreLinks this Is) tokens values rest
no_links this Is tokens rest values h = given (AreLinks this Is) tokens [] tokens rest [] values h refl refl

links_from : (this : Level) (operand : Reading Expr) (Is : Says Expr) → Sound operand Is → (n : ℕ) (tokens rest : List Token) (values : List (Link Expr)) → Sound (links this operand n) (AreLinks this Is)
    → (found : Option (Operator × List Token)) → sign_of_level this tokens ≡ found → links this operand (suc n) tokens ≡ Some (values, rest) → Front (AreLinks this Is) tokens values rest
links_from this operand Is sound n tokens rest values more None e h = no_links this Is tokens rest values (sym (links_none this operand (suc n) tokens e) ∙ h)
links_from this operand Is sound n tokens rest values more (Some found) e h =
    let signed = sign_read this tokens found.1 found.0 e in
    let a = first_read (operand found.1) (λ right. links this operand n >>= λ more. pure (record { operator = found.0; operand = right } ∷ more)) values rest (sym (links_step this operand n tokens found.1 found.0 e) ∙ h) in
    let b = first_read (links this operand n a.1) (λ more. pure (record { operator = found.0; operand = a.0 } ∷ more)) values rest a.3 in
    let p = sound found.1 a.1 a.0 a.2 in
    let q = more a.1 b.1 b.0 b.2 in
    given (AreLinks this Is) tokens (Sign found.0 ∷ (p.0 ++ q.0)) b.1 rest (record { operator = found.0; operand = a.0 } ∷ b.0) values b.3
    (signed.0 ∙ ap (λ (ts : List Token). Sign found.0 ∷ ts) (p.1 ∙ ap (λ (ts : List Token). p.0 ++ ts) q.1 ∙ sym (append_assoc p.0 q.0 b.1)))
    (p.0, q.0, refl, signed.1, p.2, q.2)

links_sound : (this : Level) (operand : Reading Expr) (Is : Says Expr) → Sound operand Is → (n : ℕ) → Sound (links this operand n) (AreLinks this Is)
links_sound this operand Is sound zero tokens rest values h = no_links this Is tokens rest values (sym (links_zero this operand tokens) ∙ h)
links_sound this operand Is sound (suc n) tokens rest values h = links_from this operand Is sound n tokens rest values (links_sound this operand Is sound n) (sign_of_level this tokens) refl h

chain_sound : (this : Level) (operand : Reading Expr) (Is : Says Expr) → Sound operand Is → Sound (chain this operand) (IsChain this Is)
unfolding chain
chain_sound this operand Is sound tokens rest value h =
    let a = first_read (operand tokens) (λ first. (λ tokens. links this operand (length tokens) tokens) >>= λ more. pure (joined first more)) value rest h in
    let b = first_read (links this operand (length a.1) a.1) (λ more. pure (joined a.0 more)) value rest a.3 in
    let p = sound tokens a.1 a.0 a.2 in
    let q = links_sound this operand Is sound (length a.1) a.1 b.1 b.0 b.2 in
    given (IsChain this Is) tokens (p.0 ++ q.0) b.1 rest (joined a.0 b.0) value b.3
    (p.1 ∙ ap (λ (ts : List Token). p.0 ++ ts) q.1 ∙ sym (append_assoc p.0 q.0 b.1))
    (a.0, b.0, p.0, q.0, refl, refl, p.2, q.2)

sum_sound : (fact : Reading Expr) (Is : Says Expr) → Sound fact Is → Sound (level_of level.Sum fact) (IsSum Is)
unfolding level_of
sum_sound fact Is sound = chain_sound level.Sum (chain level.Product fact) (IsChain level.Product Is) (chain_sound level.Product fact Is sound)

pub compared_none : (sum : Reading Expr) (left : Expr) (tokens : List Token) → comparison_sign tokens ≡ None → compared_with sum left tokens ≡ Some (left, tokens)
unfolding compared_with
compared_none sum left tokens h = rw (h, compared_with) refl

pub compared_some : (sum : Reading Expr) (left : Expr) (tokens rest : List Token) (sign : Comparison) → comparison_sign tokens ≡ Some (sign, rest)
    → compared_with sum left tokens ≡ (sum >>= λ right. pure (e.Compare sign left right)) rest
unfolding compared_with
compared_some sum left tokens rest sign h = rw (h, compared_with) refl

compared_from : (sum : Reading Expr) (Is : Says Expr) → Sound sum Is → (front behind rest : List Token) (left value : Expr) → Is front left
    → (found : Option (Comparison × List Token)) → comparison_sign behind ≡ found → compared_with sum left behind ≡ Some (value, rest)
    → Front (λ (ts : List Token) (x : Expr). Is ts x ⊎ AreCompared Is ts x) (front ++ behind) value rest
compared_from sum Is sound front behind rest left value is None is_none h =
    given (λ (ts : List Token) (x : Expr). Is ts x ⊎ AreCompared Is ts x) (front ++ behind) front behind rest left value (sym (compared_none sum left behind is_none) ∙ h) refl (inl is)
compared_from sum Is sound front behind rest left value is (Some found) seen h =
    let signed = comparison_read behind found.1 found.0 seen in
    let a = first_read (sum found.1) (λ right. pure (e.Compare found.0 left right)) value rest (sym (compared_some sum left behind found.1 found.0 seen) ∙ h) in
    let p = sound found.1 a.1 a.0 a.2 in
    given (λ (ts : List Token) (x : Expr). Is ts x ⊎ AreCompared Is ts x) (front ++ behind) (front ++ Compare found.0 ∷ p.0) a.1 rest (e.Compare found.0 left a.0) value a.3
    (ap (λ (ts : List Token). front ++ ts) (signed ∙ ap (λ (ts : List Token). Compare found.0 ∷ ts) p.1) ∙ sym (append_assoc front (Compare found.0 ∷ p.0) a.1))
    (inr (found.0, left, a.0, front, p.0, refl, refl, is, p.2))

comparison_sound : (fact : Reading Expr) (Is : Says Expr) → Sound fact Is → Sound (comparison fact) (IsComparison Is)
unfolding comparison
comparison_sound fact Is sound tokens rest value h =
    let a = first_read (level_of level.Sum fact tokens) (λ left. compared_with (level_of level.Sum fact) left) value rest h in
    let p = sum_sound fact Is sound tokens a.1 a.0 a.2 in
    let q = compared_from (level_of level.Sum fact) (IsSum Is) (sum_sound fact Is sound) p.0 a.1 rest a.0 value p.2 (comparison_sign a.1) refl a.3 in
    (q.0, p.1 ∙ q.1, q.2)

-- a comparison, with the sign that ends it
abbrev Ended : Says Expr → Token → List Token → Expr → List Token → Type 0
Ended Is mark tokens value rest = (front : List Token) × (tokens ≡ front ++ mark ∷ rest) × IsComparison Is front value

part_sound : (fact : Reading Expr) (Is : Says Expr) (end : Reading Unit) (mark : Token) → Sound fact Is → ((tokens rest : List Token) (u : Unit) → end tokens ≡ Some (u, rest) → tokens ≡ mark ∷ rest)
    → (tokens rest : List Token) (value : Expr) → part end fact tokens ≡ Some (value, rest) → Ended Is mark tokens value rest
unfolding part
part_sound fact Is end mark sound marked tokens rest value h =
    let a = first_read (comparison fact tokens) (λ value. end >>= λ _. pure value) value rest h in
    let b = first_read (end a.1) (λ _. pure a.0) value rest a.3 in
    let p = comparison_sound fact Is sound tokens a.1 a.0 a.2 in
    subst (λ (q : Expr × List Token). Ended Is mark tokens q.0 q.1) (same_some (a.0, b.1) (value, rest) b.3)
    (p.0, p.1 ∙ ap (λ (ts : List Token). p.0 ++ ts) (marked a.1 b.1 b.0 b.2), p.2)

pub range_true : (tokens : List Token) → is_range tokens ≡ true → (first : ℕ × ℕ) × (rest : List Token) × (tokens ≡ Cell first ∷ (Colon ∷ rest))
range_true (Cell first ∷ (Colon ∷ rest)) h = (first, rest, refl)
range_true tokens h = let absurdity : ⊥ = cc in absurd absurdity

cell_read : (tokens rest : List Token) (position : ℕ × ℕ) → cell tokens ≡ Some (position, rest) → tokens ≡ Cell position ∷ rest
cell_read (Cell other ∷ tokens) rest position h = ap (λ (q : (ℕ × ℕ) × List Token). Cell q.0 ∷ q.1) (same_some (other, tokens) (position, rest) h)
cell_read tokens rest position h = absurd (no_some (position, rest) h)

colon_of : (first other : ℕ × ℕ) (token : Token) (rest behind : List Token) → Cell first ∷ (Colon ∷ rest) ≡ Cell other ∷ (token ∷ behind) → token ≡ Colon
colon_of first other token rest behind h = cc

pub three : (a b c rest : List Token) → a ++ Comma ∷ (b ++ Comma ∷ (c ++ Close ∷ rest)) ≡ (a ++ Comma ∷ (b ++ Comma ∷ (c ++ Close ∷ []))) ++ rest
three a b c rest =
    ap (λ (ts : List Token). a ++ Comma ∷ ts) (ap (λ (ts : List Token). b ++ Comma ∷ ts) (sym (append_assoc c (Close ∷ []) rest)) ∙ sym (append_assoc b (Comma ∷ (c ++ Close ∷ [])) rest))
    ∙ sym (append_assoc a (Comma ∷ (b ++ Comma ∷ (c ++ Close ∷ []))) rest)

range_sound : (Is : Says Expr) (tokens rest : List Token) (value : Argument Expr) → is_range tokens ≡ true → range tokens ≡ Some (value, rest) → Front (IsArgument Is) tokens value rest
unfolding range
range_sound Is tokens rest value seen h =
    let s = range_true tokens seen in
    let a = first_read (cell tokens) (λ first. next >>= λ _. cell >>= λ last. pure (argument.Range first last)) value rest h in
    let b = first_read (next a.1) (λ _. cell >>= λ last. pure (argument.Range a.0 last)) value rest a.3 in
    let c = first_read (cell b.1) (λ last. pure (argument.Range a.0 last)) value rest b.3 in
    let begins = cell_read tokens a.1 a.0 a.2 in
    let behind = next_read a.1 b.1 b.0 b.2 in
    let ends = cell_read b.1 c.1 c.0 c.2 in
    let colon : b.0 ≡ Colon = colon_of s.0 a.0 b.0 s.1 b.1 (sym s.2 ∙ begins ∙ ap (λ (ts : List Token). Cell a.0 ∷ ts) behind) in
    given (IsArgument Is) tokens (Cell a.0 ∷ (Colon ∷ (Cell c.0 ∷ []))) c.1 rest (argument.Range a.0 c.0) value c.3
    (begins ∙ ap (λ (ts : List Token). Cell a.0 ∷ ts) (behind ∙ ap (λ (t : Token). t ∷ b.1) colon ∙ ap (λ (ts : List Token). Colon ∷ ts) ends))
    refl

pub argument_plain : (fact : Reading Expr) (tokens : List Token) → is_range tokens ≡ false → argument_of fact tokens ≡ (comparison fact >>= λ value. pure (argument.One value)) tokens
unfolding argument_of
argument_plain fact tokens h = rw h refl

pub argument_range : (fact : Reading Expr) (tokens : List Token) → is_range tokens ≡ true → argument_of fact tokens ≡ range tokens
unfolding argument_of
argument_range fact tokens h = rw h refl

argument_from : (fact : Reading Expr) (Is : Says Expr) → Sound fact Is → (b : Bool) (tokens rest : List Token) (value : Argument Expr) → is_range tokens ≡ b → argument_of fact tokens ≡ Some (value, rest) → Front (IsArgument Is) tokens value rest
argument_from fact Is sound true tokens rest value seen h = range_sound Is tokens rest value seen (sym (argument_range fact tokens seen) ∙ h)
argument_from fact Is sound false tokens rest value seen h =
    let a = first_read (comparison fact tokens) (λ value. pure (argument.One value)) value rest (sym (argument_plain fact tokens seen) ∙ h) in
    let p = comparison_sound fact Is sound tokens a.1 a.0 a.2 in
    given (IsArgument Is) tokens p.0 a.1 rest (argument.One a.0) value a.3 p.1 p.2

-- arguments, with the bracket that ends them
abbrev Listed : Says Expr → List Token → List (Argument Expr) → List Token → Type 0
Listed Is tokens values rest = (front : List Token) × (tokens ≡ front ++ Close ∷ rest) × AreArguments Is front values

-- an argument, a comma and further ones
listed_more : (Is : Says Expr) (tokens front behind rest : List Token) (value : Argument Expr) (values : List (Argument Expr)) → tokens ≡ front ++ Comma ∷ behind → IsArgument Is front value → Listed Is behind values rest → Listed Is tokens (value ∷ values) rest
listed_more Is tokens front behind rest value [] split is more = absurd more.2
listed_more Is tokens front behind rest value (other ∷ values) split is more = (
  front ++ Comma ∷ more.0,
  split ∙ ap (λ (ts : List Token). front ++ Comma ∷ ts) more.1 ∙ sym (append_assoc front (Comma ∷ more.0) (Close ∷ rest)),
  (front, more.0, refl, is, more.2),
)

further_sound : (Is : Says Expr) (further : Reading (List (Argument Expr))) → ((tokens rest : List Token) (values : List (Argument Expr)) → further tokens ≡ Some (values, rest) → Listed Is tokens values rest)
    → (tokens front behind rest : List Token) (value : Argument Expr) (values : List (Argument Expr)) (token : Token) → tokens ≡ front ++ token ∷ behind → IsArgument Is front value
    → behind_argument further value token behind ≡ Some (values, rest) → Listed Is tokens values rest
further_sound Is further sound tokens front behind rest value values Comma split is h =
    let a = first_read (further behind) (λ more. pure (value ∷ more)) values rest h in
    subst (λ (q : List (Argument Expr) × List Token). Listed Is tokens q.0 q.1) (same_some (value ∷ a.0, a.1) (values, rest) a.3) (listed_more Is tokens front behind a.1 value a.0 split is (sound behind a.1 a.0 a.2))
further_sound Is further sound tokens front behind rest value values Close split is h =
    subst (λ (q : List (Argument Expr) × List Token). Listed Is tokens q.0 q.1) (same_some (value ∷ [], behind) (values, rest) h) (front, split, is)
further_sound Is further sound tokens front behind rest value values token split is h = absurd (no_some (values, rest) h)

arguments_sound : (fact : Reading Expr) (Is : Says Expr) → Sound fact Is → (n : ℕ) (tokens rest : List Token) (values : List (Argument Expr)) → arguments fact n tokens ≡ Some (values, rest) → Listed Is tokens values rest
unfolding arguments
arguments_sound fact Is sound zero tokens rest values h = absurd (no_some (values, rest) h)
arguments_sound fact Is sound (suc n) tokens rest values h =
    let a = first_read (argument_of fact tokens) (λ first. next >>= λ token. behind_argument (arguments fact n) first token) values rest h in
    let b = first_read (next a.1) (λ token. behind_argument (arguments fact n) a.0 token) values rest a.3 in
    let p = argument_from fact Is sound (is_range tokens) tokens a.1 a.0 refl a.2 in
    further_sound Is (arguments fact n) (arguments_sound fact Is sound n) tokens p.0 b.1 rest a.0 values b.0 (p.1 ∙ ap (λ (ts : List Token). p.0 ++ ts) (next_read a.1 b.1 b.0 b.2)) p.2 b.3

choice_sound : (fact : Reading Expr) (Is : Says Expr) → Sound fact Is → (tokens rest : List Token) (value : Expr) → choice fact tokens ≡ Some (value, rest) → Front (IsChoice Is) (If ∷ tokens) value rest
unfolding choice
choice_sound fact Is sound tokens rest value h =
    let o = first_read (open_sign tokens) (λ _. part comma_sign fact >>= λ condition. part comma_sign fact >>= λ first. part close_sign fact >>= λ second. pure (e.If condition first second)) value rest h in
    let a = first_read (part comma_sign fact o.1) (λ condition. part comma_sign fact >>= λ first. part close_sign fact >>= λ second. pure (e.If condition first second)) value rest o.3 in
    let b = first_read (part comma_sign fact a.1) (λ first. part close_sign fact >>= λ second. pure (e.If a.0 first second)) value rest a.3 in
    let c = first_read (part close_sign fact b.1) (λ second. pure (e.If a.0 b.0 second)) value rest b.3 in
    let p = part_sound fact Is comma_sign Comma sound comma_read o.1 a.1 a.0 a.2 in
    let q = part_sound fact Is comma_sign Comma sound comma_read a.1 b.1 b.0 b.2 in
    let r = part_sound fact Is close_sign Close sound close_read b.1 c.1 c.0 c.2 in
    given (IsChoice Is) (If ∷ tokens) (If ∷ (Open ∷ (p.0 ++ Comma ∷ (q.0 ++ Comma ∷ (r.0 ++ Close ∷ []))))) c.1 rest (e.If a.0 b.0 c.0) value c.3
    (ap (λ (ts : List Token). If ∷ ts) (open_read tokens o.1 o.0 o.2 ∙ ap (λ (ts : List Token). Open ∷ ts) (p.1 ∙ ap (λ (ts : List Token). p.0 ++ Comma ∷ ts) (q.1 ∙ ap (λ (ts : List Token). q.0 ++ Comma ∷ ts) r.1)))
    ∙ ap (λ (ts : List Token). If ∷ (Open ∷ ts)) (three p.0 q.0 r.0 c.1))
    (a.0, b.0, c.0, p.0, q.0, r.0, refl, refl, p.2, q.2, r.2)

call_sound : (fact : Reading Expr) (Is : Says Expr) → Sound fact Is → (name : Named) (tokens rest : List Token) (value : Expr) → (open_sign >>= λ _. (λ tokens. arguments fact (length tokens) tokens) >>= λ values. pure (e.Call name values)) tokens ≡ Some (value, rest) → Front (IsCall Is) (Function name ∷ tokens) value rest
call_sound fact Is sound name tokens rest value h =
    let o = first_read (open_sign tokens) (λ _. (λ tokens. arguments fact (length tokens) tokens) >>= λ values. pure (e.Call name values)) value rest h in
    let a = first_read (arguments fact (length o.1) o.1) (λ values. pure (e.Call name values)) value rest o.3 in
    let p = arguments_sound fact Is sound (length o.1) o.1 a.1 a.0 a.2 in
    given (IsCall Is) (Function name ∷ tokens) (Function name ∷ (Open ∷ (p.0 ++ Close ∷ []))) a.1 rest (e.Call name a.0) value a.3
    (ap (λ (ts : List Token). Function name ∷ ts) (open_read tokens o.1 o.0 o.2 ∙ ap (λ (ts : List Token). Open ∷ ts) (p.1 ∙ sym (append_assoc p.0 (Close ∷ []) a.1))))
    (name, a.0, p.0, refl, refl, p.2)

nested_sound : (fact : Reading Expr) (Is : Says Expr) → Sound fact Is → (token : Token) (tokens rest : List Token) (value : Expr) → nested fact token tokens ≡ Some (value, rest) → Front (IsNested Is) (token ∷ tokens) value rest
unfolding nested
nested_sound fact Is sound (Sign sign.Subtract) tokens rest value h =
    let a = first_read (fact tokens) (λ value. pure (e.Negate value)) value rest h in
    let p = sound tokens a.1 a.0 a.2 in
    given (IsNested Is) (Sign sign.Subtract ∷ tokens) (Sign sign.Subtract ∷ p.0) a.1 rest (e.Negate a.0) value a.3 (ap (λ (ts : List Token). Sign sign.Subtract ∷ ts) p.1) (inl (a.0, p.0, refl, refl, p.2))
nested_sound fact Is sound Open tokens rest value h =
    let p = part_sound fact Is close_sign Close sound close_read tokens rest value h in
    (Open ∷ (p.0 ++ Close ∷ []), ap (λ (ts : List Token). Open ∷ ts) (p.1 ∙ sym (append_assoc p.0 (Close ∷ []) rest)), inr (inl (p.0, refl, p.2)))
nested_sound fact Is sound (Function name) tokens rest value h = let p = call_sound fact Is sound name tokens rest value h in (p.0, p.1, inr (inr (inl p.2)))
nested_sound fact Is sound If tokens rest value h = let p = choice_sound fact Is sound tokens rest value h in (p.0, p.1, inr (inr (inr p.2)))
nested_sound fact Is sound token tokens rest value h = absurd (no_some (value, rest) h)

-- a fact that begins with a token
token_sound : (deeper : Reading Expr) (Is : Says Expr) (token : Token) (tokens rest : List Token) (value : Expr)
    → ((value : Expr) → deeper tokens ≡ Some (value, rest) → Front Is (token ∷ tokens) value rest)
    → by_token deeper token tokens ≡ Some (value, rest) → Front (λ (ts : List Token) (x : Expr). IsLeaf ts x ⊎ Is ts x) (token ∷ tokens) value rest
token_sound deeper Is (Number z) tokens rest value sound h = given (λ (ts : List Token) (x : Expr). IsLeaf ts x ⊎ Is ts x) (Number z ∷ tokens) (Number z ∷ []) tokens rest (e.Number z) value h refl (inl refl)
token_sound deeper Is (Words text) tokens rest value sound h = given (λ (ts : List Token) (x : Expr). IsLeaf ts x ⊎ Is ts x) (Words text ∷ tokens) (Words text ∷ []) tokens rest (e.Words text) value h refl (inl refl)
token_sound deeper Is (Cell position) tokens rest value sound h = given (λ (ts : List Token) (x : Expr). IsLeaf ts x ⊎ Is ts x) (Cell position ∷ tokens) (Cell position ∷ []) tokens rest (e.Cell position) value h refl (inl refl)
token_sound deeper Is token tokens rest value sound h = let p = sound value h in (p.0, p.1, inr p.2)

abbrev Nothing : Says Expr
Nothing tokens value = ⊥

fact_sound : (depth : ℕ) → Sound (fact depth) (IsFact depth)
unfolding fact IsFact
fact_sound zero tokens rest value h =
    let a = first_read (next tokens) (by_token refused) value rest h in
    let p = token_sound refused Nothing a.0 a.1 rest value (λ value none. absurd (no_some (value, rest) none)) a.3 in
    (p.0, next_read tokens a.1 a.0 a.2 ∙ p.1, elim p.2 [ inl leaf ↦ leaf | inr none ↦ absurd none ])
fact_sound (suc depth) tokens rest value h =
    let a = first_read (next tokens) (λ token. by_token (nested (fact depth) token) token) value rest h in
    let p = token_sound (nested (fact depth) a.0) (IsNested (IsFact depth)) a.0 a.1 rest value (λ value read. nested_sound (fact depth) (IsFact depth) (fact_sound depth) a.0 a.1 rest value read) a.3 in
    (p.0, next_read tokens a.1 a.0 a.2 ∙ p.1, p.2)

ended : (tokens : List Token) → nat_eq (length tokens) 0 ≡ true → tokens ≡ []
ended [] h = refl
ended (token ∷ tokens) h = let zeroed = eqb-true (length (token ∷ tokens)) 0 h in absurd (omega arith)

whole_read : (found : Option (Expr × List Token)) (expression : Expr) → option_and_then (λ found. if length found.1 == 0 then Some found.0 else None) found ≡ Some expression → found ≡ Some (expression, [])
whole_read None expression h = absurd (no_some expression h)
whole_read (Some found) expression h =
    let p = cond_read (length found.1 == 0) found.0 expression h in
    let none = ended found.1 p.0 in
    ap (λ (x : Expr). Some (x, found.1)) p.1 ∙ ap (λ (ts : List Token). Some (expression, ts)) none

formula_sound : (tokens : List Token) (expression : Expr) → formula tokens ≡ Some expression → IsComparison (IsFact 64) tokens expression
unfolding formula
formula_sound tokens expression h =
    let p = comparison_sound (fact 64) (IsFact 64) (fact_sound 64) tokens [] expression (whole_read (comparison (fact 64) tokens) expression h) in
    subst (λ (ts : List Token). IsComparison (IsFact 64) ts expression) (sym (p.1 ∙ append-nil p.0)) p.2

tokens_read : (read : Option (List Token)) (expression : Expr) → option_and_then formula read ≡ Some expression → (tokens : List Token) × (read ≡ Some tokens) × (formula tokens ≡ Some expression)
tokens_read None expression h = absurd (no_some expression h)
tokens_read (Some tokens) expression h = (tokens, refl, h)

sign_from : (b : Bool) (c : ℕ) (text : Text) (expression : Expr) → (c == 61) ≡ b → cond b (option_and_then formula (tokens_of text)) None ≡ Some expression → (c ≡ 61) × (option_and_then formula (tokens_of text) ≡ Some expression)
sign_from true c text expression e h = (eqb-true c 61 e, h)
sign_from false c text expression e h = absurd (no_some expression h)

first_sign : (c : ℕ) (text : Text) (expression : Expr) → cond (c == 61) (option_and_then formula (tokens_of text)) None ≡ Some expression → (c ≡ 61) × (option_and_then formula (tokens_of text) ≡ Some expression)
first_sign c text expression h = sign_from (c == 61) c text expression refl h

pub sound : (raw : Text) (expression : Expr) → formula_of raw ≡ Some expression → IsFormula raw expression
unfolding formula_of
sound [] expression h = absurd (no_some expression h)
sound (c ∷ text) expression h =
    let p = first_sign c text expression h in
    let q = tokens_read (tokens_of text) expression p.1 in
    (text, q.0, ap (λ (c : ℕ). c ∷ text) p.0, q.1, formula_sound q.0 expression q.2)
