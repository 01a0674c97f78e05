-- The repeating rules, turn by turn, and the rules of levels and facts by what was read first.
use Rattle.std.proofs.Common.{◌≡◌, ◌≢◌, ℕ, ℤ, zero, suc, ◌<◌, ◌+◌, ◌-◌, List, [], ◌∷◌, ◌++◌, length, refl, sym, ◌∙◌, ap, subst, append_assoc, append-nil, arith, lit<}
use Rattle.std.specs.Prelude.{Option, Some, None, option_map, Result, Err}
use Rattle.formula_base.specs.declared.expressions.Operator.{Operator}
use Rattle.formula_base.specs.declared.expressions.Argument.{Argument}
use Rattle.formula_base.specs.declared.expressions.Link.{Link}
use Rattle.formula_base.specs.declared.expressions.Expr.{Expr}
use Rattle.sheet_formula.specs.declared.tokens.Token.{Token}
use Rattle.sheet_formula.specs.declared.tokens.Token.TheVariants.{Number, Words, Cell, Function, If, Sign, Compare, Open, Close, Comma, Colon}
use Rattle.sheet_formula.specs.declared.stop.Stop.{Stop}
use Rattle.sheet_formula.specs.declared.stop.Stop.TheVariants.{Memory, NoFormula}
use Rattle.sheet_formula.specs.declared.levels.Level.{Level}
use Rattle.sheet_formula.specs.declared.levels.Level.TheVariants as level
use Rattle.sheet_formula.specs.Reading.{Reading, pure, next, on_read, ◌>>=◌, Gives}
use Rattle.sheet_formula.specs.Grammar.{inner_level, sign_of_level, links, chain, level_of, joined, arguments, argument_of, behind_argument, fact, nested, by_token}

-- more values in front of those that were read
abbrev pub with_more : {A : Type 0} → List A → Option (List A × List Token) → Option (List A × List Token)
with_more front read = option_map (λ found. (front ++ found.0, found.1)) read

push_more : {A : Type 0} (front : List A) (x : A) (read : Option (List A × List Token)) → with_more front (on_read read (λ more. pure (x ∷ more))) ≡ with_more (front ++ x ∷ []) read
push_more front x None = refl
push_more {A} front x (Some found) = ap (λ (xs : List A). Some (xs, found.1)) (sym (append_assoc front (x ∷ []) found.0))

-- how far a level is from the facts
abbrev pub rank : Level → ℕ
rank level.Fact = 1
rank level.Product = 2
rank level.Sum = 3

pub rank_inner : (this inner : Level) → inner_level this ≡ Some inner → rank inner < rank this
rank_inner level.Fact inner h = let absurdity : ⊥ = cc in absurd absurdity
rank_inner level.Product inner h = let e : level.Fact ≡ inner = cc in subst (λ (l : Level). rank l < 2) e (lit< tt)
rank_inner level.Sum inner h = let e : level.Product ≡ inner = cc in subst (λ (l : Level). rank l < 3) e (lit< tt)

pub level_chain : (this inner : Level) (fact : Reading Expr) (tokens : List Token) → inner_level this ≡ Some inner → level_of this fact tokens ≡ chain this (level_of inner fact) tokens
unfolding level_of
level_chain level.Fact inner fact tokens h = let absurdity : ⊥ = cc in absurd absurdity
level_chain level.Product inner fact tokens h = let e : level.Fact ≡ inner = cc in subst (λ (l : Level). chain level.Product fact tokens ≡ chain level.Product (level_of l fact) tokens) e refl
level_chain level.Sum inner fact tokens h = let e : level.Product ≡ inner = cc in subst (λ (l : Level). chain level.Sum (chain level.Product fact) tokens ≡ chain level.Sum (level_of l fact) tokens) e refl

-- a level whose first operand was read
pub level_first : (this inner : Level) (fact : Reading Expr) (tokens rest : List Token) (first : Expr) → inner_level this ≡ Some inner → level_of inner fact tokens ≡ Some (first, rest)
    → level_of this fact tokens ≡ on_read (links this (level_of inner fact) (length rest) rest) (λ more. pure (joined first more))
unfolding chain
level_first this inner fact tokens rest first h read = level_chain this inner fact tokens h ∙ ap (λ (found : Option (Expr × List Token)). on_read found (λ (first : Expr). (λ (tokens : List Token). links this (level_of inner fact) (length tokens) tokens) >>= λ (more : List (Link Expr)). pure (joined first more))) read

pub links_zero : (this : Level) (operand : Reading Expr) (n : ℕ) (tokens : List Token) → n ≡ 0 → links this operand n tokens ≡ Some ([], tokens)
unfolding links
links_zero this operand zero tokens h = refl
links_zero this operand (suc n) tokens h = absurd (omega arith)

pub links_none : (this : Level) (operand : Reading Expr) (n : ℕ) (tokens : List Token) → sign_of_level this tokens ≡ None → links this operand n tokens ≡ Some ([], tokens)
unfolding links
links_none this operand zero tokens h = refl
links_none this operand (suc n) tokens h = rw (h, links) refl

-- what a sign and its operand leave
abbrev after_operand : Level → Reading Expr → ℕ → List Token → Option (Operator × List Token) → Option (List (Link Expr) × List Token)
after_operand this operand n tokens None = Some ([], tokens)
after_operand this operand n tokens (Some found) = (operand >>= λ right. links this operand n >>= λ more. pure (record { operator = found.0; operand = right } ∷ more)) found.1

pub links_more : (this : Level) (operand : Reading Expr) (n m : ℕ) (tokens behind rest : List Token) (front : List (Link Expr)) (operator : Operator) (right : Expr)
    → n ≡ m + 1 → sign_of_level this tokens ≡ Some (operator, behind) → operand behind ≡ Some (right, rest)
    → with_more front (links this operand n tokens) ≡ with_more (front ++ record { operator = operator; operand = right } ∷ []) (links this operand m rest)
unfolding links
links_more this operand zero m tokens behind rest front operator right e h read = absurd (omega arith)
links_more this operand (suc n) m tokens behind rest front operator right e h read =
    let same : n ≡ m = omega arith in
    rw (h, links) (rw read (rw same (push_more front (record { operator = operator; operand = right }) (links this operand m rest))))

pub links_refused : (this : Level) (operand : Reading Expr) (n : ℕ) (tokens behind : List Token) (operator : Operator)
    → 0 < n → sign_of_level this tokens ≡ Some (operator, behind) → operand behind ≡ None → links this operand n tokens ≡ None
unfolding links
links_refused this operand zero tokens behind operator e h read = absurd (omega arith)
links_refused this operand (suc n) tokens behind operator e h read = rw (h, links) (rw read refl)

-- a level whose links end here
pub level_end : (this inner : Level) (fact : Reading Expr) (tokens rest behind : List Token) (first : Expr) (n : ℕ) (front : List (Link Expr))
    → inner_level this ≡ Some inner → level_of inner fact tokens ≡ Some (first, rest)
    → with_more front (links this (level_of inner fact) n behind) ≡ links this (level_of inner fact) (length rest) rest
    → links this (level_of inner fact) n behind ≡ Some ([], behind)
    → level_of this fact tokens ≡ Some (joined first front, behind)
level_end this inner fact tokens rest behind first n front h read told ended =
    level_first this inner fact tokens rest first h read
    ∙ ap (λ (found : Option (List (Link Expr) × List Token)). on_read found (λ (more : List (Link Expr)). pure (joined first more))) (sym told ∙ ap (with_more front) ended)
    ∙ ap (λ (more : List (Link Expr)). Some (joined first more, behind)) (append-nil front)

-- a level in which an operand is none
pub level_refused : (this inner : Level) (fact : Reading Expr) (tokens rest behind after : List Token) (first : Expr) (operator : Operator) (n : ℕ) (front : List (Link Expr))
    → inner_level this ≡ Some inner → level_of inner fact tokens ≡ Some (first, rest)
    → with_more front (links this (level_of inner fact) n behind) ≡ links this (level_of inner fact) (length rest) rest
    → 0 < n → sign_of_level this behind ≡ Some (operator, after) → level_of inner fact after ≡ None
    → level_of this fact tokens ≡ None
level_refused this inner fact tokens rest behind after first operator n front h read told some sign none =
    level_first this inner fact tokens rest first h read
    ∙ ap (λ (found : Option (List (Link Expr) × List Token)). on_read found (λ (more : List (Link Expr)). pure (joined first more))) (sym told ∙ ap (with_more front) (links_refused this (level_of inner fact) n behind after operator some sign none))

pub arguments_more : (deeper : Reading Expr) (n m : ℕ) (tokens behind rest : List Token) (front : List (Argument Expr)) (value : Argument Expr)
    → n ≡ m + 1 → argument_of deeper tokens ≡ Some (value, behind) → next behind ≡ Some (Comma, rest)
    → with_more front (arguments deeper n tokens) ≡ with_more (front ++ value ∷ []) (arguments deeper m rest)
unfolding arguments
arguments_more deeper zero m tokens behind rest front value e read comma = absurd (omega arith)
arguments_more deeper (suc n) m tokens behind rest front value e read comma =
    let same : n ≡ m = omega arith in
    rw (read, comma) (rw same (push_more front value (arguments deeper m rest)))

other_token : (further : Reading (List (Argument Expr))) (value : Argument Expr) (token : Token) (rest : List Token) → token ≢ Comma → token ≢ Close → behind_argument further value token rest ≡ None
other_token further value (Number z) rest differs neither = refl
other_token further value (Words text) rest differs neither = refl
other_token further value (Cell position) rest differs neither = refl
other_token further value (Function function) rest differs neither = refl
other_token further value If rest differs neither = refl
other_token further value (Sign operator) rest differs neither = refl
other_token further value (Compare comparison) rest differs neither = refl
other_token further value Open rest differs neither = refl
other_token further value Close rest differs neither = absurd (neither refl)
other_token further value Comma rest differs neither = absurd (differs refl)
other_token further value Colon rest differs neither = refl

pub arguments_refused : (deeper : Reading Expr) (n : ℕ) (tokens behind rest : List Token) (value : Argument Expr) (token : Token)
    → 0 < n → argument_of deeper tokens ≡ Some (value, behind) → next behind ≡ Some (token, rest) → token ≢ Comma → token ≢ Close
    → arguments deeper n tokens ≡ None
unfolding arguments
arguments_refused deeper zero tokens behind rest value token e read other differs neither = absurd (omega arith)
arguments_refused deeper (suc n) tokens behind rest value token e read other differs neither =
    rw (read, other) (other_token (arguments deeper n) value token rest differs neither)

deeper_token : (deeper : Reading Expr) (token : Token) (tokens : List Token) → ((z : ℤ) → token ≢ Number z) → ((text : List ℕ) → token ≢ Words text) → ((position : ℕ × ℕ) → token ≢ Cell position) → by_token deeper token tokens ≡ deeper tokens
deeper_token deeper (Number z) tokens a b c = absurd (a z refl)
deeper_token deeper (Words text) tokens a b c = absurd (b text refl)
deeper_token deeper (Cell position) tokens a b c = absurd (c position refl)
deeper_token deeper (Function function) tokens a b c = refl
deeper_token deeper If tokens a b c = refl
deeper_token deeper (Sign operator) tokens a b c = refl
deeper_token deeper (Compare comparison) tokens a b c = refl
deeper_token deeper Open tokens a b c = refl
deeper_token deeper Close tokens a b c = refl
deeper_token deeper Comma tokens a b c = refl
deeper_token deeper Colon tokens a b c = refl

pub fact_deeper : (depth : ℕ) (tokens rest : List Token) (token : Token) → depth ≢ 0 → next tokens ≡ Some (token, rest)
    → ((z : ℤ) → token ≢ Number z) → ((text : List ℕ) → token ≢ Words text) → ((position : ℕ × ℕ) → token ≢ Cell position)
    → fact depth tokens ≡ nested (fact (depth - 1)) token rest
unfolding fact
fact_deeper zero tokens rest token some read a b c = absurd (some refl)
fact_deeper (suc depth) tokens rest token some read a b c =
    let less : suc depth - 1 ≡ depth = omega arith in
    rw less (rw read (deeper_token (nested (fact depth) token) token rest a b c))

-- what a call gave of a rule, of an equal one
pub gives_by : {A : Type 0} {read same : Option (A × List Token)} (result : Result A Stop) (rest : List Token) → read ≡ same → Gives read result rest → Gives same result rest
gives_by {A} result rest e h = subst (λ (read : Option (A × List Token)). Gives read result rest) e h

-- a call that stopped where a rule inside stopped, which is refused where the inner one is
pub gives_refused : {A B : Type 0} (inner : Option (A × List Token)) (outer : Option (B × List Token)) (stop : Stop) (rest behind : List Token) → (inner ≡ None → outer ≡ None) → Gives inner (Err stop) rest → Gives outer (Err stop) behind
gives_refused inner outer NoFormula rest behind refuses h = refuses h
gives_refused inner outer Memory rest behind refuses h = tt
