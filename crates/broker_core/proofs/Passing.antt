-- A search over keys in key order, which passes over those that cannot be served.
use Rattle.std.proofs.Common.{◌≡◌, ℕ, suc, ◌<◌, ◌≤◌, Bool, true, false, ◌&&◌, cond, List, [], ◌∷◌, length, filter, find, Option, Some, None, refl, ap, sym, subst, ◌∙◌, arith}
use Rattle.std.specs.List.{AllByRecursion}
use Rattle.std.specs.Ordering.{is_lt}
use Rattle.std.specs.declared.cmp.Ordering.{Ordering}
use Rattle.std.specs.declared.cmp.Ordering.TheVariants.{Less, Equal, Greater}
use Rattle.tile_key.specs.Places.{Place, key_order}
use Rattle.tile_key.specs.Visible.{IsBefore}
use Rattle.document_machine.specs.Keys.{Pairwise}
use Rattle.view_session.specs.Viewing.{is_behind}
use Rattle.view_session.proofs.OrderFacts.{before_trans, not_back, not_self}

and_none : (b : Bool) → (b && false) ≡ false
and_none true = refl
and_none false = refl

-- what is found is one of them
find_has : (P : Place → Type 0) (p : Place → Bool) (keys : List Place) (key : Place) → AllByRecursion P keys → find p keys ≡ Some key → P key
find_has P p [] key all e = absurd (cc)
find_has P p (other ∷ others) key all e =
    let go : (b : Bool) → cond b (Some other) (find p others) ≡ Some key → P key = elim [
      | true ↦ λ found. let same : other ≡ key = cc in subst P same all.0
      | false ↦ λ found. find_has P p others key all.1 found
    ] in
    go (p other) e

is_less : (o : Ordering) → is_lt o ≡ true → o ≡ Less
is_less Less e = refl
is_less Equal e = absurd (cc)
is_less Greater e = absurd (cc)

-- a key that comes after one which comes behind another does too
behind_on : (before : Option Place) (k q : Place) → IsBefore k q → is_behind before k ≡ true → is_behind before q ≡ true
behind_on None k q less h = refl
behind_on (Some b) k q less h =
    ap is_lt (before_trans b k q (is_less (key_order b k) h) less)

module _ (can due : Place → Bool) where
  -- among keys that come behind both, the searches are one
  same_behind : (before : Option Place) (key : Place) (keys : List Place) → AllByRecursion (IsBefore key) keys → is_behind before key ≡ true → find (λ k. is_behind before k && (can k && due k)) keys ≡ find (λ k. is_behind (Some key) k && (can k && due k)) keys
  same_behind before key [] all behind = refl
  same_behind before key (k ∷ keys) all behind =
      let left : is_behind before k ≡ true = behind_on before key k all.0 behind in
      let right : is_behind (Some key) k ≡ true = ap is_lt all.0 in
      rw (left, right) (ap (λ o. cond (can k && due k) (Some k) o) (same_behind before key keys all.1 behind))

  -- a due key that cannot be served is passed over
  pub passed : (keys : List Place) (before : Option Place) (key : Place) → Pairwise IsBefore keys → find (λ k. is_behind before k && due k) keys ≡ Some key → can key ≡ false → find (λ k. is_behind before k && (can k && due k)) keys ≡ find (λ k. is_behind (Some key) k && (can k && due k)) keys
  passed [] before key order found not_can = refl
  passed (k ∷ keys) before key order found not_can =
      let go : (a b : Bool) → is_behind before k ≡ a → due k ≡ b → cond (a && b) (Some k) (find (λ q. is_behind before q && due q) keys) ≡ Some key → cond (a && (can k && b)) (Some k) (find (λ q. is_behind before q && (can q && due q)) keys) ≡ cond (is_behind (Some key) k && (can k && b)) (Some k) (find (λ q. is_behind (Some key) q && (can q && due q)) keys) = elim [
        | true ↦ elim [
          | true ↦ λ is_a is_b e.
              let same : k ≡ key = cc in
              let stuck : can k ≡ false = ap can same ∙ not_can in
              rw stuck (rw (and_none (is_behind (Some key) k)) (subst (λ (q : Place). find (λ p. is_behind before p && (can p && due p)) keys ≡ find (λ p. is_behind (Some q) p && (can p && due p)) keys) same (same_behind before k keys order.0 is_a)))
          | false ↦ λ is_a is_b e. rw (and_none (can k)) (rw (and_none (is_behind (Some key) k)) (passed keys before key order.1 e not_can))
        ]
        | false ↦ λ b is_a is_b e.
            let less : IsBefore k key = find_has (IsBefore k) (λ q. is_behind before q && due q) keys key order.0 e in
            let front : is_behind (Some key) k ≡ false = not_back k key less in
            rw front (passed keys before key order.1 e not_can)
      ] in
      go (is_behind before k) (due k) refl refl found

  -- where no key is due none can be served
  pub none_left : (keys : List Place) (before : Option Place) → find (λ k. is_behind before k && due k) keys ≡ None → find (λ k. is_behind before k && (can k && due k)) keys ≡ None
  none_left [] before none = refl
  none_left (k ∷ keys) before none =
      let go : (a b : Bool) → cond (a && b) (Some k) (find (λ q. is_behind before q && due q) keys) ≡ None → cond (a && (can k && b)) (Some k) (find (λ q. is_behind before q && (can q && due q)) keys) ≡ None = elim [
        | true ↦ elim [
          | true ↦ λ e. absurd (cc)
          | false ↦ λ e. rw (and_none (can k)) (none_left keys before e)
        ]
        | false ↦ λ b e. none_left keys before e
      ] in
      go (is_behind before k) (due k) none

  -- the first due key is the first that can be served, where it can
  pub served_here : (keys : List Place) (before : Option Place) (key : Place) → find (λ k. is_behind before k && due k) keys ≡ Some key → can key ≡ true → find (λ k. is_behind before k && (can k && due k)) keys ≡ Some key
  served_here [] before key found may = absurd (cc)
  served_here (k ∷ keys) before key found may =
      let go : (a b : Bool) → cond (a && b) (Some k) (find (λ q. is_behind before q && due q) keys) ≡ Some key → cond (a && (can k && b)) (Some k) (find (λ q. is_behind before q && (can q && due q)) keys) ≡ Some key = elim [
        | true ↦ elim [
          | true ↦ λ e. let same : k ≡ key = cc in rw (ap can same ∙ may) e
          | false ↦ λ e. rw (and_none (can k)) (served_here keys before key e may)
        ]
        | false ↦ λ b e. served_here keys before key e may
      ] in
      go (is_behind before k) (due k) found

-- no more keys come behind one that comes behind another
few_behind : (before : Option Place) (key : Place) (keys : List Place) → is_behind before key ≡ true → length (filter (is_behind (Some key)) keys) ≤ length (filter (is_behind before) keys)
few_behind before key [] behind = omega arith
few_behind before key (k ∷ keys) behind =
    let rest : length (filter (is_behind (Some key)) keys) ≤ length (filter (is_behind before) keys) = few_behind before key keys behind in
    let go : (a : Bool) → is_behind (Some key) k ≡ a → length (cond a (k ∷ filter (is_behind (Some key)) keys) (filter (is_behind (Some key)) keys)) ≤ length (cond (is_behind before k) (k ∷ filter (is_behind before) keys) (filter (is_behind before) keys)) = elim [
      | true ↦ λ is. rw (behind_on before key k (is_less (key_order key k) is) behind) (omega arith)
      | false ↦ λ is. elim (is_behind before k) as (λ b. length (filter (is_behind (Some key)) keys) ≤ length (cond b (k ∷ filter (is_behind before) keys) (filter (is_behind before) keys))) [
        | true ↦ omega arith
        | false ↦ rest
      ]
    ] in
    go (is_behind (Some key) k) refl

-- fewer keys come behind the one that is found
pub fewer_behind : (due : Place → Bool) (keys : List Place) (before : Option Place) (key : Place) → Pairwise IsBefore keys → find (λ k. is_behind before k && due k) keys ≡ Some key → length (filter (is_behind (Some key)) keys) < length (filter (is_behind before) keys)
fewer_behind due [] before key order found = absurd (cc)
fewer_behind due (k ∷ keys) before key order found =
    let go : (a b : Bool) → is_behind before k ≡ a → cond (a && b) (Some k) (find (λ q. is_behind before q && due q) keys) ≡ Some key → length (filter (is_behind (Some key)) (k ∷ keys)) < length (cond a (k ∷ filter (is_behind before) keys) (filter (is_behind before) keys)) = elim [
      | true ↦ elim [
        | true ↦ λ is_a e.
            let same : k ≡ key = cc in
            let out : is_behind (Some key) k ≡ false = rw same (not_self key) in
            let few : length (filter (is_behind (Some key)) keys) ≤ length (filter (is_behind before) keys) = few_behind before key keys (ap (is_behind before) (sym same) ∙ is_a) in
            rw out (omega arith)
        | false ↦ λ is_a e.
            let less : IsBefore k key = find_has (IsBefore k) (λ q. is_behind before q && due q) keys key order.0 e in
            let out : is_behind (Some key) k ≡ false = not_back k key less in
            let few : length (filter (is_behind (Some key)) keys) < length (filter (is_behind before) keys) = fewer_behind due keys before key order.1 e in
            rw out (omega arith)
      ]
      | false ↦ λ b is_a e.
          let less : IsBefore k key = find_has (IsBefore k) (λ q. is_behind before q && due q) keys key order.0 e in
          let out : is_behind (Some key) k ≡ false = not_back k key less in
          rw out (fewer_behind due keys before key order.1 e)
    ] in
    go (is_behind before k) (due k) refl found
