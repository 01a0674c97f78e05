-- What the grammar says is read, whatever follows that can't go on.
use Rattle.std.proofs.Common.{◌≡◌, ◌≢◌, inl, inr, ℕ, zero, suc, ◌≤◌, ◌+◌, Bool, true, false, List, [], ◌∷◌, ◌++◌, length, refl, sym, ◌∙◌, ap, subst, append_assoc, append-nil, length-append, arith}
use Rattle.std.specs.Prelude.{Option, Some, None, option_and_then, cond, ◌==◌, if◌then◌else◌}
use Rattle.formula_base.specs.declared.expressions.Argument.{Argument}
use Rattle.formula_base.specs.declared.expressions.Argument.TheVariants as argument
use Rattle.formula_base.specs.declared.expressions.Operator.{Operator}
use Rattle.formula_base.specs.declared.expressions.Operator.TheVariants as sign
use Rattle.formula_base.specs.declared.expressions.Link.{Link}
use Rattle.formula_base.specs.declared.expressions.Expr.{Expr}
use Rattle.formula_base.specs.declared.expressions.Expr.TheVariants as e
use Rattle.sheet_formula.specs.declared.tokens.Token.{Token}
use Rattle.sheet_formula.specs.declared.tokens.Token.TheVariants.{Number, Words, Cell, Function, If, Sign, Compare, Open, Close, Comma, Colon}
use Rattle.sheet_formula.specs.declared.levels.Level.{Level}
use Rattle.sheet_formula.specs.declared.levels.Level.TheVariants as level
use Rattle.sheet_formula.specs.Tokens.{Text}
use Rattle.sheet_formula.specs.Reading.{Reading, pure, refused, next, on_read, ◌>>=◌}
use Rattle.sheet_formula.specs.Grammar.{is_of_level, sign_of_level, comparison_sign, close_sign, comma_sign, joined, links, chain, level_of, compared_with, comparison, part, is_range, range, argument_of, arguments, behind_argument, choice, nested, by_token, fact, formula, formula_of}
use Rattle.formula_laws.specs.Language.{Says, AreLinks, IsChain, IsSum, IsComparison, IsArgument, AreArguments, IsLeaf, IsNegation, IsBracket, IsCall, IsChoice, IsFact, IsFormula}
use Rattle.formula_laws.proofs.Sound.{links_none, links_step, same_some, compared_none, compared_some, range_true, argument_plain, three}

-- what is said is read, where what follows is of a kind
abbrev pub Complete : {A : Type 0} → Reading A → Says A → (List Token → Type 0) → Type 0
Complete {A} read Is Follows = (front rest : List Token) (value : A) → Is front value → Follows rest → read (front ++ rest) ≡ Some (value, rest)

-- nothing is asked of what follows
abbrev pub Anything : List Token → Type 0
Anything rest = Unit {0}

-- no sign of the level follows
abbrev pub NoSign : Level → List Token → Type 0
NoSign this rest = sign_of_level this rest ≡ None

-- no sign of a sum or a product follows
abbrev pub NoOperator : List Token → Type 0
NoOperator rest = NoSign level.Product rest × NoSign level.Sum rest

-- nothing follows that a comparison could go on with
abbrev pub EndsComparison : List Token → Type 0
EndsComparison rest = NoOperator rest × (comparison_sign rest ≡ None)

-- a rule that follows another
pub then_read : {A B : Type 0} (found : Option (A × List Token)) (f : A → Reading B) (a : A) (behind : List Token) → found ≡ Some (a, behind) → on_read found f ≡ f a behind
then_read {A} found f a behind h = ap (λ (found : Option (A × List Token)). on_read found f) h

sign_here : (this : Level) (operator : Operator) (tokens : List Token) → is_of_level this operator ≡ true → sign_of_level this (Sign operator ∷ tokens) ≡ Some (operator, tokens)
sign_here this operator tokens h = rw h refl

-- what stands behind an operand of a chain ends it
abbrev EndsOperand : Level → (List Token → Type 0) → (List Token → Type 0) → Type 0
EndsOperand this Follows Ends = ((operator : Operator) (tokens : List Token) → is_of_level this operator ≡ true → Ends (Sign operator ∷ tokens)) × ((rest : List Token) → Follows rest → Ends rest × NoSign this rest)

ends_links : (this : Level) (Is : Says Expr) (Follows Ends : List Token → Type 0) → EndsOperand this Follows Ends → (values : List (Link Expr)) (front rest : List Token) → AreLinks this Is front values → Follows rest → Ends (front ++ rest)
ends_links this Is Follows Ends ends [] front rest is follows = subst (λ (ts : List Token). Ends (ts ++ rest)) (sym is) (ends.1 rest follows).0
ends_links this Is Follows Ends ends (link ∷ values) front rest is follows = subst (λ (ts : List Token). Ends (ts ++ rest)) (sym is.2) (ends.0 link.operator ((is.0 ++ is.1) ++ rest) is.3)

links_complete : (this : Level) (operand : Reading Expr) (Is : Says Expr) (Follows Ends : List Token → Type 0) → Complete operand Is Ends → EndsOperand this Follows Ends
    → (values : List (Link Expr)) (n : ℕ) (front rest : List Token) → length values ≤ n → AreLinks this Is front values → Follows rest → links this operand n (front ++ rest) ≡ Some (values, rest)
links_complete this operand Is Follows Ends complete ends [] n front rest enough is follows =
    ap (λ (ts : List Token). links this operand n (ts ++ rest)) is ∙ links_none this operand n rest (ends.1 rest follows).1
links_complete this operand Is Follows Ends complete ends (link ∷ values) zero front rest enough is follows = absurd (omega arith)
links_complete this operand Is Follows Ends complete ends (link ∷ values) (suc n) front rest enough is follows =
    let a = is.0 in
    let b = is.1 in
    let whole : front ++ rest ≡ Sign link.operator ∷ (a ++ (b ++ rest)) = ap (λ (ts : List Token). ts ++ rest) is.2 ∙ ap (λ (ts : List Token). Sign link.operator ∷ ts) (append_assoc a b rest) in
    let behind : Ends (b ++ rest) = ends_links this Is Follows Ends ends values b rest is.5 follows in
    ap (links this operand (suc n)) whole
    ∙ links_step this operand n (Sign link.operator ∷ (a ++ (b ++ rest))) (a ++ (b ++ rest)) link.operator (sign_here this link.operator (a ++ (b ++ rest)) is.3)
    ∙ then_read (operand (a ++ (b ++ rest))) (λ right. links this operand n >>= λ more. pure (record { operator = link.operator; operand = right } ∷ more)) link.operand (b ++ rest) (complete a (b ++ rest) link.operand is.4 behind)
    ∙ then_read (links this operand n (b ++ rest)) (λ more. pure (record { operator = link.operator; operand = link.operand } ∷ more)) values rest (links_complete this operand Is Follows Ends complete ends values n b rest (omega arith) is.5 follows)

links_few : (this : Level) (Is : Says Expr) (values : List (Link Expr)) (front : List Token) → AreLinks this Is front values → length values ≤ length front
links_few this Is [] front is = omega arith
links_few this Is (link ∷ values) front is =
    let fewer = links_few this Is values is.1 is.5 in
    omega (arith, fewer, ap length is.2, length-append is.0 is.1)

chain_complete : (this : Level) (operand : Reading Expr) (Is : Says Expr) (Follows Ends : List Token → Type 0) → Complete operand Is Ends → EndsOperand this Follows Ends → Complete (chain this operand) (IsChain this Is) Follows
unfolding chain
chain_complete this operand Is Follows Ends complete ends front rest value is follows =
    let first = is.0 in
    let values = is.1 in
    let a = is.2 in
    let b = is.3 in
    let few = links_few this Is values b is.7 in
    let whole : front ++ rest ≡ a ++ (b ++ rest) = ap (λ (ts : List Token). ts ++ rest) is.5 ∙ append_assoc a b rest in
    ap (operand >>= λ first. (λ tokens. links this operand (length tokens) tokens) >>= λ more. pure (joined first more)) whole
    ∙ then_read (operand (a ++ (b ++ rest))) (λ first. (λ tokens. links this operand (length tokens) tokens) >>= λ more. pure (joined first more)) first (b ++ rest) (complete a (b ++ rest) first is.6 (ends_links this Is Follows Ends ends values b rest is.7 follows))
    ∙ then_read (links this operand (length (b ++ rest)) (b ++ rest)) (λ more. pure (joined first more)) values rest (links_complete this operand Is Follows Ends complete ends values (length (b ++ rest)) b rest (omega (arith, few, length-append b rest)) is.7 follows)
    ∙ ap (λ (x : Expr). Some (x, rest)) (sym is.4)

no_true : false ≡ true → ⊥
no_true h = let apart : zero ≡ suc zero = ap (λ (b : Bool). cond b (suc zero) zero) h in absurd (omega arith)

close_colon : (rest behind : List Token) → Close ∷ rest ≢ Colon ∷ behind
close_colon rest behind h = cc

comma_colon : (rest behind : List Token) → Comma ∷ rest ≢ Colon ∷ behind
comma_colon rest behind h = cc

product_ends : EndsOperand level.Product (NoSign level.Product) Anything
product_ends = ((λ operator tokens of. tt), λ rest follows. (tt, follows))

product_sign : (operator : Operator) (tokens : List Token) → is_of_level level.Sum operator ≡ true → NoSign level.Product (Sign operator ∷ tokens)
product_sign sign.Add tokens h = refl
product_sign sign.Subtract tokens h = refl
product_sign sign.Multiply tokens h = absurd (no_true h)
product_sign sign.Divide tokens h = absurd (no_true h)

sum_ends : EndsOperand level.Sum NoOperator (NoSign level.Product)
sum_ends = (product_sign, λ rest follows. (follows.0, follows.1))

sum_complete : (fact : Reading Expr) (Is : Says Expr) → Complete fact Is Anything → Complete (level_of level.Sum fact) (IsSum Is) NoOperator
unfolding level_of
sum_complete fact Is complete =
    chain_complete level.Sum (chain level.Product fact) (IsChain level.Product Is) NoOperator (NoSign level.Product)
    (chain_complete level.Product fact Is (NoSign level.Product) Anything complete product_ends) sum_ends

comparison_complete : (fact : Reading Expr) (Is : Says Expr) → Complete fact Is Anything → Complete (comparison fact) (IsComparison Is) EndsComparison
unfolding comparison
comparison_complete fact Is complete front rest value (inl is) follows =
    then_read (level_of level.Sum fact (front ++ rest)) (λ left. compared_with (level_of level.Sum fact) left) value rest (sum_complete fact Is complete front rest value is follows.0)
    ∙ compared_none (level_of level.Sum fact) value rest follows.1
comparison_complete fact Is complete front rest value (inr is) follows =
    let sum = level_of level.Sum fact in
    let sign = is.0 in
    let a = is.3 in
    let b = is.4 in
    let whole : front ++ rest ≡ a ++ (Compare sign ∷ (b ++ rest)) = ap (λ (ts : List Token). ts ++ rest) is.6 ∙ append_assoc a (Compare sign ∷ b) rest in
    ap (sum >>= λ left. compared_with sum left) whole
    ∙ then_read (sum (a ++ (Compare sign ∷ (b ++ rest)))) (λ left. compared_with sum left) is.1 (Compare sign ∷ (b ++ rest)) (sum_complete fact Is complete a (Compare sign ∷ (b ++ rest)) is.1 is.7 (refl, refl))
    ∙ compared_some sum is.1 (Compare sign ∷ (b ++ rest)) (b ++ rest) sign refl
    ∙ then_read (sum (b ++ rest)) (λ right. pure (e.Compare sign is.1 right)) is.2 rest (sum_complete fact Is complete b rest is.2 is.8 follows.0)
    ∙ ap (λ (x : Expr). Some (x, rest)) (sym is.5)

part_complete : (fact : Reading Expr) (Is : Says Expr) (end : Reading Unit) (mark : Token) → Complete fact Is Anything → ((rest : List Token) → EndsComparison (mark ∷ rest)) → ((rest : List Token) → end (mark ∷ rest) ≡ Some (tt, rest))
    → (front rest : List Token) (value : Expr) → IsComparison Is front value → part end fact (front ++ mark ∷ rest) ≡ Some (value, rest)
unfolding part
part_complete fact Is end mark complete ends marked front rest value is =
    then_read (comparison fact (front ++ mark ∷ rest)) (λ value. end >>= λ _. pure value) value (mark ∷ rest) (comparison_complete fact Is complete front (mark ∷ rest) value is (ends rest))
    ∙ then_read (end (mark ∷ rest)) (λ _. pure value) tt rest (marked rest)

close_ends : (rest : List Token) → EndsComparison (Close ∷ rest)
close_ends rest = ((refl, refl), refl)

comma_ends : (rest : List Token) → EndsComparison (Comma ∷ rest)
comma_ends rest = ((refl, refl), refl)

colon_ends : (rest : List Token) → EndsComparison (Colon ∷ rest)
colon_ends rest = ((refl, refl), refl)

-- a cell is a fact
abbrev HasCells : Says Expr → Type 0
HasCells Is = (position : ℕ × ℕ) → Is (Cell position ∷ []) (e.Cell position)

cell_compared : (Is : Says Expr) → HasCells Is → (position : ℕ × ℕ) → IsComparison Is (Cell position ∷ []) (e.Cell position)
cell_compared Is cells position =
    inl (e.Cell position, [], Cell position ∷ [], [], refl, refl, (e.Cell position, [], Cell position ∷ [], [], refl, refl, cells position, refl), refl)

range_here : (fact : Reading Expr) (first last : ℕ × ℕ) (rest : List Token) → argument_of fact (Cell first ∷ (Colon ∷ (Cell last ∷ rest))) ≡ Some (argument.Range first last, rest)
unfolding argument_of range
range_here fact first last rest = refl

value_from : (fact : Reading Expr) (Is : Says Expr) → Complete fact Is Anything → HasCells Is → (b : Bool) (front rest : List Token) (value : Expr) → is_range (front ++ rest) ≡ b → IsComparison Is front value → EndsComparison rest → ((behind : List Token) → rest ≢ Colon ∷ behind)
    → argument_of fact (front ++ rest) ≡ Some (argument.One value, rest)
value_from fact Is complete cells false front rest value seen is follows colon =
    argument_plain fact (front ++ rest) seen
    ∙ then_read (comparison fact (front ++ rest)) (λ value. pure (argument.One value)) value rest (comparison_complete fact Is complete front rest value is follows)
value_from fact Is complete cells true front rest value seen is follows colon =
    let s = range_true (front ++ rest) seen in
    let alone = comparison_complete fact Is complete (Cell s.0 ∷ []) (Colon ∷ s.1) (e.Cell s.0) (cell_compared Is cells s.0) (colon_ends s.1) in
    let both = sym (comparison_complete fact Is complete front rest value is follows) ∙ ap (comparison fact) s.2 ∙ alone in
    let same = same_some (value, rest) (e.Cell s.0, Colon ∷ s.1) both in
    absurd (colon s.1 (ap (λ (q : Expr × List Token). q.1) same))

argument_complete : (fact : Reading Expr) (Is : Says Expr) → Complete fact Is Anything → HasCells Is → (front rest : List Token) (value : Argument Expr) → IsArgument Is front value → EndsComparison rest → ((behind : List Token) → rest ≢ Colon ∷ behind)
    → argument_of fact (front ++ rest) ≡ Some (value, rest)
argument_complete fact Is complete cells front rest (argument.Range first last) is follows colon =
    ap (λ (ts : List Token). argument_of fact (ts ++ rest)) is ∙ range_here fact first last rest
argument_complete fact Is complete cells front rest (argument.One value) is follows colon = value_from fact Is complete cells (is_range (front ++ rest)) front rest value refl is follows colon

arguments_step : (fact : Reading Expr) (n : ℕ) (tokens : List Token) → arguments fact (suc n) tokens ≡ (argument_of fact >>= λ first. next >>= λ token. behind_argument (arguments fact n) first token) tokens
unfolding arguments
arguments_step fact n tokens = refl

-- an argument and the token behind it
one_argument : (fact : Reading Expr) (n : ℕ) (tokens behind : List Token) (value : Argument Expr) (token : Token) → argument_of fact tokens ≡ Some (value, token ∷ behind) → arguments fact (suc n) tokens ≡ behind_argument (arguments fact n) value token behind
one_argument fact n tokens behind value token h =
    arguments_step fact n tokens
    ∙ then_read (argument_of fact tokens) (λ first. next >>= λ token. behind_argument (arguments fact n) first token) value (token ∷ behind) h

arguments_complete : (fact : Reading Expr) (Is : Says Expr) → Complete fact Is Anything → HasCells Is → (values : List (Argument Expr)) (n : ℕ) (front rest : List Token) → length values ≤ n → AreArguments Is front values
    → arguments fact n (front ++ Close ∷ rest) ≡ Some (values, rest)
arguments_complete fact Is complete cells [] n front rest enough is = absurd is
arguments_complete fact Is complete cells (value ∷ values) zero front rest enough is = absurd (omega arith)
arguments_complete fact Is complete cells (value ∷ []) (suc n) front rest enough is =
    one_argument fact n (front ++ Close ∷ rest) rest value Close (argument_complete fact Is complete cells front (Close ∷ rest) value is (close_ends rest) (λ behind. close_colon rest behind))
arguments_complete fact Is complete cells (value ∷ (other ∷ values)) (suc n) front rest enough is =
    let a = is.0 in
    let b = is.1 in
    let whole : front ++ Close ∷ rest ≡ a ++ (Comma ∷ (b ++ Close ∷ rest)) = ap (λ (ts : List Token). ts ++ Close ∷ rest) is.2 ∙ append_assoc a (Comma ∷ b) (Close ∷ rest) in
    ap (arguments fact (suc n)) whole
    ∙ one_argument fact n (a ++ (Comma ∷ (b ++ Close ∷ rest))) (b ++ Close ∷ rest) value Comma (argument_complete fact Is complete cells a (Comma ∷ (b ++ Close ∷ rest)) value is.3 (comma_ends (b ++ Close ∷ rest)) (λ behind. comma_colon (b ++ Close ∷ rest) behind))
    ∙ then_read (arguments fact n (b ++ Close ∷ rest)) (λ more. pure (value ∷ more)) (other ∷ values) rest (arguments_complete fact Is complete cells (other ∷ values) n b rest (omega arith) is.4)

arguments_few : (Is : Says Expr) (values : List (Argument Expr)) (front : List Token) → AreArguments Is front values → length values ≤ length front + 1
arguments_few Is [] front is = absurd is
arguments_few Is (value ∷ []) front is = omega arith
arguments_few Is (value ∷ (other ∷ values)) front is =
    let fewer = arguments_few Is (other ∷ values) is.1 is.4 in
    omega (arith, fewer, ap length is.2, length-append is.0 (Comma ∷ is.1))

-- a token and what it reads
nested_token : (depth : ℕ) (token : Token) (tokens : List Token) → by_token (nested (fact depth) token) token tokens ≡ nested (fact depth) token tokens → fact (suc depth) (token ∷ tokens) ≡ nested (fact depth) token tokens
unfolding fact
nested_token depth token tokens h = h

negate_complete : (depth : ℕ) → Complete (fact depth) (IsFact depth) Anything → Complete (fact (suc depth)) (IsNegation (IsFact depth)) Anything
unfolding nested
negate_complete depth complete front rest value is follows =
    ap (λ (ts : List Token). fact (suc depth) (ts ++ rest)) is.3
    ∙ nested_token depth (Sign sign.Subtract) (is.1 ++ rest) refl
    ∙ then_read (fact depth (is.1 ++ rest)) (λ value. pure (e.Negate value)) is.0 rest (complete is.1 rest is.0 is.4 tt)
    ∙ ap (λ (x : Expr). Some (x, rest)) (sym is.2)

bracket_complete : (depth : ℕ) → Complete (fact depth) (IsFact depth) Anything → Complete (fact (suc depth)) (IsBracket (IsFact depth)) Anything
unfolding nested
bracket_complete depth complete front rest value is follows =
    ap (λ (ts : List Token). fact (suc depth) (ts ++ rest)) is.1
    ∙ nested_token depth Open ((is.0 ++ Close ∷ []) ++ rest) refl
    ∙ ap (part close_sign (fact depth)) (append_assoc is.0 (Close ∷ []) rest)
    ∙ part_complete (fact depth) (IsFact depth) close_sign Close complete close_ends (λ rest. refl) is.0 rest value is.2

call_complete : (depth : ℕ) → Complete (fact depth) (IsFact depth) Anything → HasCells (IsFact depth) → Complete (fact (suc depth)) (IsCall (IsFact depth)) Anything
unfolding nested
call_complete depth complete cells front rest value is follows =
    let values = is.1 in
    let a = is.2 in
    let few = arguments_few (IsFact depth) values a is.5 in
    let read = λ (tokens : List Token). arguments (fact depth) (length tokens) tokens in
    ap (λ (ts : List Token). fact (suc depth) (ts ++ rest)) is.4
    ∙ nested_token depth (Function is.0) (Open ∷ ((a ++ Close ∷ []) ++ rest)) refl
    ∙ ap (λ (ts : List Token). on_read (read ts) (λ (values : List (Argument Expr)). pure (e.Call is.0 values))) (append_assoc a (Close ∷ []) rest)
    ∙ then_read (read (a ++ Close ∷ rest)) (λ values. pure (e.Call is.0 values)) values rest
    (arguments_complete (fact depth) (IsFact depth) complete cells values (length (a ++ Close ∷ rest)) a rest (omega (arith, few, length-append a (Close ∷ rest))) is.5)
    ∙ ap (λ (x : Expr). Some (x, rest)) (sym is.3)

choice_complete : (depth : ℕ) → Complete (fact depth) (IsFact depth) Anything → Complete (fact (suc depth)) (IsChoice (IsFact depth)) Anything
unfolding nested choice
choice_complete depth complete front rest value is follows =
    let a = is.3 in
    let b = is.4 in
    let c = is.5 in
    let first = part_complete (fact depth) (IsFact depth) comma_sign Comma complete comma_ends (λ rest. refl) a (b ++ Comma ∷ (c ++ Close ∷ rest)) is.0 is.8 in
    let second = part_complete (fact depth) (IsFact depth) comma_sign Comma complete comma_ends (λ rest. refl) b (c ++ Close ∷ rest) is.1 is.9 in
    let third = part_complete (fact depth) (IsFact depth) close_sign Close complete close_ends (λ rest. refl) c rest is.2 is.10 in
    ap (λ (ts : List Token). fact (suc depth) (ts ++ rest)) is.7
    ∙ nested_token depth If (Open ∷ ((a ++ Comma ∷ (b ++ Comma ∷ (c ++ Close ∷ []))) ++ rest)) refl
    ∙ ap (choice (fact depth)) (ap (λ (ts : List Token). Open ∷ ts) (sym (three a b c rest)))
    ∙ then_read (part comma_sign (fact depth) (a ++ Comma ∷ (b ++ Comma ∷ (c ++ Close ∷ rest)))) (λ condition. part comma_sign (fact depth) >>= λ first. part close_sign (fact depth) >>= λ second. pure (e.If condition first second)) is.0 (b ++ Comma ∷ (c ++ Close ∷ rest)) first
    ∙ then_read (part comma_sign (fact depth) (b ++ Comma ∷ (c ++ Close ∷ rest))) (λ first. part close_sign (fact depth) >>= λ second. pure (e.If is.0 first second)) is.1 (c ++ Close ∷ rest) second
    ∙ then_read (part close_sign (fact depth) (c ++ Close ∷ rest)) (λ second. pure (e.If is.0 is.1 second)) is.2 rest third
    ∙ ap (λ (x : Expr). Some (x, rest)) (sym is.6)

leaf_read : (depth : ℕ) (token : Token) (tokens : List Token) (value : Expr) → ((deeper : Reading Expr) → by_token deeper token tokens ≡ Some (value, tokens)) → fact depth (token ∷ tokens) ≡ Some (value, tokens)
unfolding fact
leaf_read zero token tokens value h = h refused
leaf_read (suc depth) token tokens value h = h (nested (fact depth) token)

leaf_complete : (depth : ℕ) → Complete (fact depth) IsLeaf Anything
leaf_complete depth front rest (e.Number z) is follows = ap (λ (ts : List Token). fact depth (ts ++ rest)) is ∙ leaf_read depth (Number z) rest (e.Number z) (λ deeper. refl)
leaf_complete depth front rest (e.Words text) is follows = ap (λ (ts : List Token). fact depth (ts ++ rest)) is ∙ leaf_read depth (Words text) rest (e.Words text) (λ deeper. refl)
leaf_complete depth front rest (e.Cell position) is follows = ap (λ (ts : List Token). fact depth (ts ++ rest)) is ∙ leaf_read depth (Cell position) rest (e.Cell position) (λ deeper. refl)
leaf_complete depth front rest value is follows = absurd is

cells_are_facts : (depth : ℕ) → HasCells (IsFact depth)
unfolding IsFact
cells_are_facts zero position = refl
cells_are_facts (suc depth) position = inl refl

fact_complete : (depth : ℕ) → Complete (fact depth) (IsFact depth) Anything
unfolding IsFact
fact_complete zero front rest value is follows = leaf_complete zero front rest value is follows
fact_complete (suc depth) front rest value is follows =
    elim is [
      | inl leaf ↦ leaf_complete (suc depth) front rest value leaf follows
      | inr inside ↦ elim inside [
        | inl a ↦ negate_complete depth (fact_complete depth) front rest value a follows
        | inr others ↦ elim others [
          | inl b ↦ bracket_complete depth (fact_complete depth) front rest value b follows
          | inr calls ↦ elim calls [
            | inl c ↦ call_complete depth (fact_complete depth) (cells_are_facts depth) front rest value c follows
            | inr d ↦ choice_complete depth (fact_complete depth) front rest value d follows
          ]
        ]
      ]
    ]

formula_complete : (tokens : List Token) (expression : Expr) → IsComparison (IsFact 64) tokens expression → formula tokens ≡ Some expression
unfolding formula
formula_complete tokens expression is =
    let read = comparison_complete (fact 64) (IsFact 64) (fact_complete 64) tokens [] expression is ((refl, refl), refl) in
    let whole : comparison (fact 64) tokens ≡ Some (expression, []) = ap (comparison (fact 64)) (sym (append-nil tokens)) ∙ read in
    ap (option_and_then (λ found. if length found.1 == 0 then Some found.0 else None)) whole

pub complete : (raw : Text) (expression : Expr) → IsFormula raw expression → formula_of raw ≡ Some expression
unfolding formula_of
complete raw expression is =
    ap formula_of is.2 ∙ ap (option_and_then formula) is.3 ∙ formula_complete is.1 expression is.4

pub unique : (raw : Text) (one other : Expr) → IsFormula raw one → IsFormula raw other → one ≡ other
unique raw one other a b = same_some one other (sym (complete raw one a) ∙ complete raw other b)
