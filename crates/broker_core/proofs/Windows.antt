-- A window whose tiles are acknowledged one number after the other.
use Rattle.std.proofs.Common.{◌≡◌, ℕ, Bool, true, false, not, ◌||◌, cond, List, [], ◌∷◌, ◌++◌, filter, refl, ap, ◌∙◌, nat_eq, arith}
use Rattle.std.specs.List.{list_any}
use Rattle.std.proofs.lemmas.Bool.Decides.{nat_tests}
use Rattle.send_window.specs.Tiles.{Sent}
use Rattle.view_session.specs.Viewing.{Viewing, processed}

-- no number takes nothing out
none_out : (window : List Sent) → filter (λ tile. not (list_any (λ wid. nat_eq wid tile.wid) [])) window ≡ window
none_out [] = refl
none_out (tile ∷ window) = ap (λ ts. tile ∷ ts) (none_out window)

eq_flip : (m n : ℕ) → nat_eq m n ≡ nat_eq n m
eq_flip m n = grind (arith, nat_tests)

-- a number among these, or the one behind them
any_more : (wids : List ℕ) (wid n : ℕ) → list_any (λ w. nat_eq w n) (wids ++ wid ∷ []) ≡ (list_any (λ w. nat_eq w n) wids || nat_eq wid n)
any_more [] wid n =
    let go : (b : Bool) → (b || false) ≡ b = elim [ true ↦ refl | false ↦ refl ] in
    go (nat_eq wid n)
any_more (w ∷ wids) wid n =
    let go : (b : Bool) → (b || list_any (λ v. nat_eq v n) (wids ++ wid ∷ [])) ≡ ((b || list_any (λ v. nat_eq v n) wids) || nat_eq wid n) = elim [ true ↦ refl | false ↦ any_more wids wid n ] in
    go (nat_eq w n)

one_more_out : (wids : List ℕ) (wid : ℕ) (window : List Sent) → filter (λ tile. not (list_any (λ w. nat_eq w tile.wid) (wids ++ wid ∷ []))) window ≡ filter (λ tile. not (nat_eq tile.wid wid)) (filter (λ tile. not (list_any (λ w. nat_eq w tile.wid) wids)) window)
one_more_out wids wid [] = refl
one_more_out wids wid (tile ∷ window) =
    let P : Sent → Bool = λ t. not (list_any (λ w. nat_eq w t.wid) (wids ++ wid ∷ [])) in
    let Q : Sent → Bool = λ t. not (list_any (λ w. nat_eq w t.wid) wids) in
    let R : Sent → Bool = λ t. not (nat_eq t.wid wid) in
    let rest : filter P window ≡ filter R (filter Q window) = one_more_out wids wid window in
    let test : P tile ≡ not (list_any (λ w. nat_eq w tile.wid) wids || nat_eq tile.wid wid) =
    ap not (any_more wids wid tile.wid) ∙ ap (λ b. not (list_any (λ w. nat_eq w tile.wid) wids || b)) (eq_flip wid tile.wid) in
    let go : (a b : Bool) → list_any (λ w. nat_eq w tile.wid) wids ≡ a → nat_eq tile.wid wid ≡ b → cond (not (a || b)) (tile ∷ filter P window) (filter P window) ≡ filter R (cond (not a) (tile ∷ filter Q window) (filter Q window)) = elim [
      | true ↦ λ b is_a is_b. rest
      | false ↦ elim [
        | true ↦ λ is_a is_b. rest ∙ rw is_b refl
        | false ↦ λ is_a is_b. ap (λ ts. tile ∷ ts) rest ∙ rw is_b refl
      ]
    ] in
    ap (λ b. cond b (tile ∷ filter P window) (filter P window)) test
    ∙ go (list_any (λ w. nat_eq w tile.wid) wids) (nat_eq tile.wid wid) refl refl

-- the tiles that are not so numbered
abbrev pub without_wids : List ℕ → Viewing → Viewing
without_wids wids v = record v { window = filter (λ tile. not (list_any (λ wid. nat_eq wid tile.wid) wids)) v.window }

-- before the first number
pub without_none : (v : Viewing) → without_wids [] v ≡ v
without_none v = ap (λ (ts : List Sent). record v { window = ts }) (none_out v.window)

-- with one number more
pub without_more : (wids : List ℕ) (wid : ℕ) (v : Viewing) → without_wids (wids ++ wid ∷ []) v ≡ processed wid (without_wids wids v)
without_more wids wid v = ap (λ (ts : List Sent). record v { window = ts }) (one_more_out wids wid v.window)
