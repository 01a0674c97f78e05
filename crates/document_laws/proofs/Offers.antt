-- What the views of a document come to once the painted tiles of a job were offered to them.
use Rattle.std.proofs.Common.{◌≡◌, ℕ, ◌+◌, ◌≤◌, Bool, true, false, ◌&&◌, ◌||◌, cond, List, [], ◌∷◌, length, map, refl, ap, subst, ◌∙◌, arith, inl, inr, length-append}
use Rattle.std.specs.Prelude.{⊤}
use Rattle.std.specs.List.{list_any, count_by, sum_by, AllByRecursion}
use Rattle.std.proofs.lemmas.Bool.{cases_Bool, and_parts, or_parts}
use Rattle.std.proofs.lemmas.List.Sums.{sum_by-cons, count_by-le-length}
use Rattle.kit_trait.specs.Rules.{Rules}
use Rattle.tile_key.specs.Places.{Place, IsGroup, IsRun, same_place}
use Rattle.document_machine.proofs.Lists.{holds_among, same_self}
use Rattle.document_machine.proofs.Present.{untouched}
use Rattle.document_machine.specs.Due.{is_due, is_lacking, has_room, touched, keys, takes, sent, version_of, visible}
use Rattle.document_machine.specs.Keys.{is_among}
use Rattle.document_machine.specs.State.{View, Document}
use Rattle.document_machine.specs.Step.{offered, views_offered}
use Rattle.document_laws.proofs.Fewer.{IsReady, due_of, left_of, count_le, count_lt, due_le, keys_le, passing_le, ready_sent, sent_less, takes_by}
use Rattle.document_laws.proofs.KeyOrder.{same_is}
use Rattle.document_laws.proofs.Quiet.{HasPoint}
use Rattle.document_laws.proofs.Rank.{due_among}
use Rattle.document_laws.proofs.Sums.{any_le, any_weaker, map_all, sum_le, sum_map_le, sum_plus}

-- a key that has a width isn't one of the keys behind it
abbrev AreOnce : List Place → Type 0
AreOnce [] = ⊤
AreOnce (key ∷ keys) = (1 ≤ key.tilewidth → is_among keys key ≡ false) × AreOnce keys

-- keys side by side are to the right of what is to the left of the first
run_right : (key : Place) (keys : List Place) → IsRun key keys → 1 ≤ key.tilewidth → (x : Place)
    → x.posx ≤ key.posx → is_among keys x ≡ false
run_right key [] run wide x le = refl
run_right key (other ∷ others) run wide x le =
    let right : other.posx ≡ key.posx + key.tilewidth = ap (λ (k : Place). k.posx) run.0 in
    let width : other.tilewidth ≡ key.tilewidth = ap (λ (k : Place). k.tilewidth) run.0 in
    let rest : is_among others x ≡ false =
    run_right other others run.1 (omega (arith, wide, width)) x (omega (arith, right, le)) in
    let here : same_place other x ≡ false = elim (cases_Bool (same_place other x)) [
      | inl same ↦
          absurd (let e : other.posx ≡ x.posx = ap (λ (k : Place). k.posx) (same_is other x same) in
          omega (arith, right, wide, le, e))
      | inr away ↦ away
    ] in
    rw (here, rest) refl

run_once : (key : Place) (keys : List Place) → IsRun key keys → AreOnce (key ∷ keys)
run_once key [] run = ((λ wide. refl), tt)
run_once key (other ∷ others) run = (
  (λ wide. run_right key (other ∷ others) run wide key (omega arith)),
  run_once other others
      run.1,
)

group_once : (keys : List Place) → IsGroup keys → AreOnce keys
group_once [] group = absurd group
group_once (key ∷ keys) group = run_once key keys group.1

module _ {C B S : Type 0} (rules : Rules C B) (d : Document S) where
  -- what a view is due has a point
  due_point : (view : View) (key : Place) → IsReady rules d view → is_due rules d view key ≡ true
      → HasPoint key
  due_point view key ready due =
      let move : (p q : Place) → same_place p q ≡ true → HasPoint p → HasPoint q =
      λ p q e here. subst HasPoint (same_is p q e) here in
      let seen_by : (a b c : Bool) → c ≡ false → ((a && b) || c) ≡ true → a ≡ true = elim [
        | true ↦ λ b c off e. refl
        | false ↦ λ b c off e. let on : c ≡ true = e in absurd (cc)
      ] in
      elim (cases_Bool (is_among view.asked key)) [
        | inl asked ↦ holds_among HasPoint view.asked key move ready.asked_points asked
        | inr not_asked ↦
            holds_among HasPoint (visible rules d view) key move ready.points
            (seen_by (is_among (visible rules d view) key)
            (is_lacking rules d key (version_of view.screen key))
            (is_among view.asked key) not_asked due)
      ]

  -- a view takes what it is due alone, and where it has room
  pub taken_parts : (number : ℕ) (key : Place) (view : View) → takes rules d number key view ≡ true
      → (is_due rules d view key ≡ true) × (has_room view ≡ true)
  taken_parts number key view taken =
      and_parts (is_due rules d view key) (has_room view)
      (and_parts _ (is_due rules d view key && has_room view) taken).1

  offered_taken : (number : ℕ) (key : Place) (view : View) → takes rules d number key view ≡ true
      → offered rules d number key view ≡ sent rules d number key view
  offered_taken number key view taken = rw taken refl

  offered_same : (number : ℕ) (key : Place) (view : View) → takes rules d number key view ≡ false
      → offered rules d number key view ≡ view
  offered_same number key view not_taken = rw not_taken refl

  offers_same : (number : ℕ) (key : Place) (views : List View)
      → list_any (takes rules d number key) views ≡ false
      → map (offered rules d number key) views ≡ views
  offers_same number key [] none = refl
  offers_same number key (view ∷ views) none =
      let parts =
      or_parts (takes rules d number key view)
      (list_any (takes rules d number key) views) none in
      let here : offered rules d number key view ≡ view = offered_same number key view parts.0 in
      let rest : map (offered rules d number key) views ≡ views =
      offers_same number key views parts.1 in
      cc

  abbrev wanted_by : List View → Place → Bool
  wanted_by views key = list_any (λ view. has_room view && is_due rules d view key) views

  -- where no view with room is owed one of the keys, no view takes any
  pub unwanted_same : (number : ℕ) (keys : List Place) (views : List View)
      → list_any (wanted_by views) keys ≡ false → views_offered rules d number keys views ≡ views
  unwanted_same number [] views none = refl
  unwanted_same number (key ∷ keys) views none =
      let parts = or_parts (wanted_by views key) (list_any (wanted_by views) keys) none in
      let not_taken : list_any (takes rules d number key) views ≡ false =
      elim (cases_Bool (list_any (takes rules d number key) views)) [
        | inl some ↦
            absurd (let wanted : wanted_by views key ≡ true =
            any_le (takes rules d number key)
            (λ view. has_room view && is_due rules d view key) views
            (λ view taken. let is = taken_parts number key view taken in
            let yes : (has_room view && is_due rules d view key) ≡ true = rw (is.0, is.1) refl in
            yes) some in let off = parts.0 in cc)
        | inr none_takes ↦ none_takes
      ] in
      ap (λ vs. views_offered rules d number keys vs) (offers_same number key views not_taken)
      ∙ unwanted_same number keys views parts.1

module _ {C B S : Type 0} (rules : Rules C B) (d : Document S) (number : ℕ)
    (past : number ≤ d.applied) where
  offered_ready : (key : Place) (view : View) → IsReady rules d view
      → IsReady rules d (offered rules d number key view)
  offered_ready key view ready =
      elim (takes rules d number key view) as
      (λ b. IsReady rules d (cond b (sent rules d number key view) view)) [
        | true ↦ ready_sent rules d number key view past ready
        | false ↦ ready
      ]

  offers_ready : (key : Place) (views : List View) → AllByRecursion (IsReady rules d) views
      → AllByRecursion (IsReady rules d) (map (offered rules d number key) views)
  offers_ready key views ready =
      map_all (IsReady rules d) (offered rules d number key) views
      (λ view is. offered_ready key view is) ready

  -- no view has more keys, or more that are due
  abbrev keys_of : View → ℕ
  keys_of view = length (keys rules d view)

  keys_offered : (key : Place) (view : View) → IsReady rules d view
      → keys_of (offered rules d number key view) ≤ keys_of view
  keys_offered key view ready =
      elim (cases_Bool (takes rules d number key view)) [
        | inl taken ↦ let same = ap keys_of (offered_taken rules d number key view taken) in
            omega (arith, same, keys_le rules d number key view ready)
        | inr not_taken ↦ let same = ap keys_of (offered_same rules d number key view not_taken) in
            omega (arith, same)
      ]

  due_offered : (key : Place) (view : View) → IsReady rules d view
      → due_of rules d (offered rules d number key view) ≤ due_of rules d view
  due_offered key view ready =
      elim (cases_Bool (takes rules d number key view)) [
        | inl taken ↦ let same =
            ap (due_of rules d) (offered_taken rules d number key view taken) in
            omega (
              arith,
              same,
              due_le rules d number key view ready
                  (taken_parts rules d number key view taken).0,
            )
        | inr not_taken ↦ let same =
            ap (due_of rules d) (offered_same rules d number key view not_taken) in
            omega (arith, same)
      ]

  pub pairs_fewer : (keys : List Place) (views : List View) → AllByRecursion (IsReady rules d) views
      → sum_by keys_of (views_offered rules d number keys views) ≤ sum_by keys_of views
  pairs_fewer [] views ready = omega arith
  pairs_fewer (key ∷ keys) views ready =
      let first =
      sum_map_le (IsReady rules d) keys_of keys_of (offered rules d number key) views
      (λ view is. keys_offered key view is) ready in
      omega (
        arith,
        first,
        pairs_fewer keys (map (offered rules d number key) views)
            (offers_ready key views ready),
      )

  pub due_fewer : (keys : List Place) (views : List View) → AllByRecursion (IsReady rules d) views
      → sum_by (due_of rules d) (views_offered rules d number keys views)
      ≤ sum_by (due_of rules d) views
  due_fewer [] views ready = omega arith
  due_fewer (key ∷ keys) views ready =
      let first =
      sum_map_le (IsReady rules d) (due_of rules d) (due_of rules d)
      (offered rules d number key) views (λ view is. due_offered key view is) ready in
      omega (
        arith,
        first,
        due_fewer keys (map (offered rules d number key) views)
            (offers_ready key views ready),
      )

  -- the tiles of a view that are not acknowledged, and its keys among those that are still to be
  -- offered
  abbrev gains : List Place → View → ℕ
  gains some view = length view.window + count_by (is_among some) (keys rules d view)

  gains_offered : (key : Place) (others : List Place) (view : View) → IsReady rules d view
      → (1 ≤ key.tilewidth → is_among others key ≡ false)
      → gains others (offered rules d number key view) ≤ gains (key ∷ others) view
  gains_offered key others view ready once =
      let any : (b : Bool) → (b || true) ≡ true = elim [ true ↦ refl | false ↦ refl ] in
      let imp : (x : Place) → is_among others x ≡ true → is_among (key ∷ others) x ≡ true =
      λ x e. rw e (any (same_place key x)) in
      elim (cases_Bool (takes rules d number key view)) [
        | inl taken ↦
            let due : is_due rules d view key
            ≡ true = (taken_parts rules d number key view taken).0 in
            let off : is_among others key ≡ false =
            once ((due_point rules d view key ready due).0) in
            let on : is_among (key ∷ others) key ≡ true = rw (same_self key) refl in
            let fewer =
            passing_le rules d (is_among others) (is_among others) number key view ready
            (λ x e. e) in
            let less = count_lt (is_among others) (is_among (key ∷ others))
            (keys rules d view) key imp (due_among rules d view key due) off on in
            let more : length (sent rules d number key view).window ≡ length view.window + 1 =
            length-append view.window (record { wid = view.next_wid; key = key } ∷ []) in
            let same = ap (gains others) (offered_taken rules d number key view taken) in
            omega (arith, fewer, less, more, same)
        | inr not_taken ↦
            let same = ap (gains others) (offered_same rules d number key view not_taken) in
            let fewer =
            count_le (is_among others) (is_among (key ∷ others)) (keys rules d view) imp in
            omega (arith, same, fewer)
      ]

  gains_fewer : (some : List Place) (views : List View) → AreOnce some
      → AllByRecursion (IsReady rules d) views
      → sum_by (gains []) (views_offered rules d number some views) ≤ sum_by (gains some) views
  gains_fewer [] views once ready = omega arith
  gains_fewer (key ∷ others) views once ready =
      let first =
      sum_map_le (IsReady rules d) (gains others) (gains (key ∷ others))
      (offered rules d number key) views
      (λ view is. gains_offered key others view is once.0) ready in
      omega (
        arith,
        first,
        gains_fewer others (map (offered rules d number key) views) once.1
            (offers_ready key views ready),
      )

  -- of the keys of a group no view is sent more than it has keys
  pub windows_le : (some : List Place) (views : List View) → IsGroup some
      → AllByRecursion (IsReady rules d) views
      → sum_by (λ view. length view.window) (views_offered rules d number some views)
      ≤ sum_by (λ view. length view.window) views + sum_by keys_of views
  windows_le some views group ready =
      let later : List View = views_offered rules d number some views in
      let first : sum_by (λ view. length view.window) later ≤ sum_by (gains []) later =
      sum_le (λ view. length view.window) (gains []) later (λ view. omega arith) in
      let second = gains_fewer some views (group_once some group) ready in
      let third : sum_by (gains some) views
      ≤ sum_by (λ view. length view.window + keys_of view) views =
      sum_le (gains some) (λ view. length view.window + keys_of view) views
      (λ view. let few = count_by-le-length (is_among some) (keys rules d view) in
      omega (arith, few)) in
      let apart = sum_plus (λ view. length view.window) keys_of views in
      omega (arith, first, second, third, apart)

module _ {C B S : Type 0} (rules : Rules C B) (d : Document S) where
  -- a view that takes the present tile of a key has less left
  offered_lt : (key : Place) (view : View) → IsReady rules d view
      → takes rules d d.applied key view ≡ true
      → left_of rules d (offered rules d d.applied key view) + 1 ≤ left_of rules d view
  offered_lt key view ready taken =
      let le : d.applied ≤ d.applied = omega arith in
      let clean : touched rules d.base d.journal d.applied key d.applied ≡ false =
      untouched rules d.base d.journal d.applied key d.applied le in
      let less : left_of rules d (sent rules d d.applied key view) + 1 ≤ left_of rules d view =
      sent_less rules d d.applied key view clean le ready
      (taken_parts rules d d.applied key view taken).0 in
      let is : offered rules d d.applied key view ≡ sent rules d d.applied key view =
      offered_taken rules d d.applied key view taken in
      let same : left_of rules d (offered rules d d.applied key view)
      ≡ left_of rules d (sent rules d d.applied key view) = ap (left_of rules d) is in
      omega (arith, less, same)

  offered_le : (key : Place) (view : View) → IsReady rules d view
      → left_of rules d (offered rules d d.applied key view) ≤ left_of rules d view
  offered_le key view ready =
      elim (cases_Bool (takes rules d d.applied key view)) [
        | inl taken ↦ omega (arith, offered_lt key view ready taken)
        | inr not_taken ↦
            let same : left_of rules d (offered rules d d.applied key view) ≡ left_of rules d view =
            ap (left_of rules d) (offered_same rules d d.applied key view not_taken) in
            omega (arith, same)
      ]

  -- all views
  offers_le : (key : Place) (views : List View) → AllByRecursion (IsReady rules d) views
      → sum_by (left_of rules d) (map (offered rules d d.applied key) views)
      ≤ sum_by (left_of rules d) views
  offers_le key [] ready = omega arith
  offers_le key (view ∷ views) ready =
      omega (
        arith,
        offered_le key view ready.0,
        offers_le key views ready.1,
        sum_by-cons
            (left_of rules d) (offered rules d d.applied key view)
            (map (offered rules d d.applied key) views),
        sum_by-cons (left_of rules d) view views,
      )

  offers_lt : (key : Place) (views : List View) → AllByRecursion (IsReady rules d) views
      → list_any (takes rules d d.applied key) views ≡ true
      → sum_by (left_of rules d) (map (offered rules d d.applied key) views) + 1
      ≤ sum_by (left_of rules d) views
  offers_lt key [] ready some = absurd (cc)
  offers_lt key (view ∷ views) ready some =
      let first =
      sum_by-cons (left_of rules d) (offered rules d d.applied key view)
      (map (offered rules d d.applied key) views) in
      let second = sum_by-cons (left_of rules d) view views in
      let go : (b : Bool) → takes rules d d.applied key view ≡ b
      → (b || list_any (takes rules d d.applied key) views) ≡ true
      → sum_by (left_of rules d) (map (offered rules d d.applied key) (view ∷ views)) + 1
      ≤ sum_by (left_of rules d) (view ∷ views) = elim [
        | true ↦ λ taken any. omega
            (arith, first, second, offered_lt key view ready.0 taken, offers_le key views ready.1)
        | false ↦ λ taken any. omega
            (arith, first, second, offered_le key view ready.0, offers_lt key views ready.1 any)
      ] in
      go (takes rules d d.applied key view) refl some

  -- all keys
  all_offers_le : (keys : List Place) (views : List View) → AllByRecursion (IsReady rules d) views
      → sum_by (left_of rules d) (views_offered rules d d.applied keys views)
      ≤ sum_by (left_of rules d) views
  all_offers_le [] views ready = omega arith
  all_offers_le (key ∷ keys) views ready =
      omega (
        arith,
        offers_le key views ready,
        all_offers_le keys
            (map (offered rules d d.applied key) views)
            (offers_ready rules d d.applied (omega arith) key views ready),
      )

  -- a key that a view with room is owed goes to some view
  goes_somewhere : (key : Place) (views : List View) → AllByRecursion (IsReady rules d) views
      → wanted_by rules d views key ≡ true → list_any (takes rules d d.applied key) views ≡ true
  goes_somewhere key views ready wanted =
      any_weaker (IsReady rules d) (λ view. has_room view && is_due rules d view key)
      (takes rules d d.applied key) views
      (λ view is e. let parts = and_parts (has_room view) (is_due rules d view key) e in
      takes_by rules d key view is parts.0 parts.1) ready wanted

  -- so where one of them is, less is left
  pub all_offers_lt : (keys : List Place) (views : List View)
      → AllByRecursion (IsReady rules d) views → list_any (wanted_by rules d views) keys ≡ true
      → sum_by (left_of rules d) (views_offered rules d d.applied keys views) + 1
      ≤ sum_by (left_of rules d) views
  all_offers_lt [] views ready some = absurd (cc)
  all_offers_lt (key ∷ keys) views ready some =
      let later : sum_by (left_of rules d)
      (views_offered rules d d.applied keys (map (offered rules d d.applied key) views))
      ≤ sum_by (left_of rules d) (map (offered rules d d.applied key) views) =
      all_offers_le keys (map (offered rules d d.applied key) views)
      (offers_ready rules d d.applied (omega arith) key views ready) in
      elim (cases_Bool (list_any (takes rules d d.applied key) views)) [
        | inl taken ↦ omega (arith, later, offers_lt key views ready taken)
        | inr not_taken ↦
            let same : map (offered rules d d.applied key) views ≡ views =
            offers_same rules d d.applied key views not_taken in
            let other : (b : Bool) → wanted_by rules d views key ≡ b
            → (b || list_any (wanted_by rules d views) keys) ≡ true
            → list_any (wanted_by rules d views) keys ≡ true = elim [
              | true ↦ λ is e. absurd (let yes = goes_somewhere key views ready is in cc)
              | false ↦ λ is e. e
            ] in
            let rest : sum_by (left_of rules d) (views_offered rules d d.applied keys views) + 1
            ≤ sum_by (left_of rules d) views =
            all_offers_lt keys views ready (other (wanted_by rules d views key) refl some) in
            let is : sum_by (left_of rules d)
            (views_offered rules d d.applied keys (map (offered rules d d.applied key) views))
            ≡ sum_by (left_of rules d) (views_offered rules d d.applied keys views) =
            ap (λ vs. sum_by (left_of rules d) (views_offered rules d d.applied keys vs)) same
            in
            omega (arith, rest, is)
      ]
