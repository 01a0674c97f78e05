-- No more pairs are due once a tile was sent, and fewer once a present one was.
use Rattle.std.proofs.Common.{◌≡◌, ◌≢◌, ℕ, ◌+◌, ◌*◌, ◌<◌, ◌≤◌, Bool, true, false, not, ◌&&◌, ◌||◌, cond, List, [], ◌∷◌, length, filter, Option, None, Some, refl, ap, sym, ◌∙◌, arith, inl, inr, length-append}
use Rattle.std.specs.Prelude.{nat_lt, nat_le}
use Rattle.std.specs.List.{count_by, sum_by, AllByRecursion}
use Rattle.std.proofs.lemmas.Bool.{cases_Bool, cases_lt, and_parts}
use Rattle.std.proofs.lemmas.Bool.Decides.{nat_tests}
use Rattle.std.proofs.lemmas.List.Sums.{sum_by-cons, count_by-le-length}
use Rattle.kit_trait.specs.Rules.{Rules}
use Rattle.tile_key.specs.Places.{Place, IsKey, same_place}
use Rattle.tile_key.specs.Visible.{IsBefore}
use Rattle.tile_key.proofs.VisibleFacts.{visible_order}
use Rattle.document_machine.proofs.Lists.{same_self, all_filter}
use Rattle.document_machine.proofs.Present.{untouched}
use Rattle.document_machine.specs.Due.{is_due, is_lacking, has_room, touched, keys, parts_of, size_of, visible, version_of, is_newer, takes, sent, is_current, asked_after}
use Rattle.document_machine.specs.Keys.{Pairwise, is_among, ordered}
use Rattle.document_machine.specs.Kept.{IsKept, IsViewKept}
use Rattle.document_machine.specs.State.{View, Document}
use Rattle.document_laws.proofs.KeyOrder.{same_is}
use Rattle.document_laws.proofs.Ordered.{one, count_new, count_ordered, pairwise_by, weaker}
use Rattle.document_laws.proofs.Quiet.{HasPoint, seen_points, version_applied}
use Rattle.document_laws.proofs.Sending.{without_key, sent_due, sent_other}
use Rattle.document_laws.proofs.Sums.{count_all, one_le, sum_le}
use Rattle.document_laws.proofs.Views.{asked_once, screen_versions}

-- of a list and of what a filter keeps of it, no more pass a test that is no weaker
pub count_le : (p q : Place → Bool) (xs : List Place) → ((x : Place) → p x ≡ true → q x ≡ true)
    → count_by p xs ≤ count_by q xs
count_le p q [] imp = omega arith
count_le p q (x ∷ xs) imp =
    let here : one (p x) ≤ one (q x) = one_le (p x) (q x) (imp x) in
    let rest : count_by p xs ≤ count_by q xs = count_le p q xs imp in
    omega (arith, here, rest, sum_by-cons (λ x. one (p x)) x xs, sum_by-cons (λ x. one (q x)) x xs)

pub count_filter_le : (p q f : Place → Bool) (xs : List Place)
    → ((x : Place) → p x ≡ true → q x ≡ true) → count_by p (filter f xs) ≤ count_by q xs
count_filter_le p q f [] imp = omega arith
count_filter_le p q f (x ∷ xs) imp =
    let here : one (p x) ≤ one (q x) = one_le (p x) (q x) (imp x) in
    let rest : count_by p (filter f xs) ≤ count_by q xs = count_filter_le p q f xs imp in
    let go : (b : Bool)
    → count_by p (cond b (x ∷ filter f xs) (filter f xs)) ≤ count_by q (x ∷ xs) = elim [
      | true ↦ omega (
        arith,
        here,
        rest,
        sum_by-cons (λ x. one (p x)) x (filter f xs),
        sum_by-cons
            (λ x. one (q x)) x xs,
      )
      | false ↦ omega (arith, rest, sum_by-cons (λ x. one (q x)) x xs)
    ] in
    go (f x)

-- and one fewer where a key of the list passed that no longer passes
one_less : (a b : Bool) → a ≡ false → b ≡ true → one a + 1 ≤ one b
one_less a b e f = rw (e, f) (omega arith)

pub count_lt : (p q : Place → Bool) (xs : List Place) (key : Place)
    → ((x : Place) → p x ≡ true → q x ≡ true) → is_among xs key ≡ true → p key ≡ false
    → q key ≡ true → count_by p xs + 1 ≤ count_by q xs
count_lt p q [] key imp among off on = absurd (cc)
count_lt p q (x ∷ xs) key imp among off on =
    let here : one (p x) ≤ one (q x) = one_le (p x) (q x) (imp x) in
    let go : (b : Bool) → same_place x key ≡ b → (b || is_among xs key) ≡ true
    → count_by p (x ∷ xs) + 1 ≤ count_by q (x ∷ xs) = elim [
      | true ↦ λ e any.
          let is : x ≡ key = same_is x key e in
          let less : one (p x) + 1 ≤ one (q x) =
          one_less (p x) (q x) (ap p is ∙ off) (ap q is ∙ on) in
          omega (
            arith,
            less,
            count_le p q xs imp,
            sum_by-cons (λ x. one (p x)) x xs,
            sum_by-cons
                (λ x. one (q x)) x xs,
          )
      | false ↦ λ e any. omega (
        arith,
        here,
        count_lt p q xs key imp any off on,
        sum_by-cons
            (λ x. one (p x)) x xs,
        sum_by-cons (λ x. one (q x)) x xs,
      )
    ] in
    go (same_place x key) refl among

pub count_filter_lt : (p q f : Place → Bool) (xs : List Place) (key : Place)
    → ((x : Place) → p x ≡ true → q x ≡ true) → is_among xs key ≡ true → p key ≡ false
    → q key ≡ true → count_by p (filter f xs) + 1 ≤ count_by q xs
count_filter_lt p q f [] key imp among off on = absurd (cc)
count_filter_lt p q f (x ∷ xs) key imp among off on =
    let here : one (p x) ≤ one (q x) = one_le (p x) (q x) (imp x) in
    let second = sum_by-cons (λ x. one (q x)) x xs in
    let kept = sum_by-cons (λ x. one (p x)) x (filter f xs) in
    let go : (b c : Bool) → same_place x key ≡ b → (b || is_among xs key) ≡ true
    → count_by p (cond c (x ∷ filter f xs) (filter f xs)) + 1 ≤ count_by q (x ∷ xs) = elim [
      | true ↦ λ c e any.
          let is : x ≡ key = same_is x key e in
          let less : one (p x) + 1 ≤ one (q x) =
          one_less (p x) (q x) (ap p is ∙ off) (ap q is ∙ on) in
          let rest : count_by p (filter f xs) ≤ count_by q xs = count_filter_le p q f xs imp in
          elim c as (λ k. count_by p (cond k (x ∷ filter f xs) (filter f xs)) + 1
          ≤ count_by q (x ∷ xs)) [
            | true ↦ omega (arith, less, rest, second, kept)
            | false ↦ omega (arith, less, rest, second)
          ]
      | false ↦ λ c e any.
          let rest : count_by p (filter f xs) + 1 ≤ count_by q xs =
          count_filter_lt p q f xs key imp any off on in
          elim c as (λ k. count_by p (cond k (x ∷ filter f xs) (filter f xs)) + 1
          ≤ count_by q (x ∷ xs)) [
            | true ↦ omega (arith, here, rest, second, kept)
            | false ↦ omega (arith, rest, second)
          ]
    ] in
    go (same_place x key) (f x) refl among

-- what a broker keeps of a view, as far as what is due needs it: the keys that it sees are in
-- order, those that it asks for are there once, each of them has a point, and the versions on its
-- screen are of inputs that are applied
pub record IsReady {C B S : Type 0} (rules : Rules C B) (d : Document S)
    (view : View) : Type 0 where
  pub order : Pairwise IsBefore (visible rules d view)
  pub once : Pairwise (λ p q. p ≢ q) view.asked
  pub points : AllByRecursion HasPoint (visible rules d view)
  pub asked_points : AllByRecursion HasPoint view.asked
  pub versions : AllByRecursion (λ shown. shown.version ≤ d.applied) view.screen

-- what holds of the keys asked for holds of those that are left
asked_stay : (P : Place → Type 0) (asked : List Place) (key : Place) (current : Bool)
    → AllByRecursion P asked → AllByRecursion P (asked_after asked key current)
asked_stay P asked key true all = all_filter P (λ other. not (same_place other key)) asked all
asked_stay P asked key false all = all

-- and no more of them pass a test
asked_fewer : (p q : Place → Bool) (asked : List Place) (key : Place) (current : Bool)
    → ((x : Place) → p x ≡ true → q x ≡ true)
    → count_by p (asked_after asked key current) ≤ count_by q asked
asked_fewer p q asked key true imp =
    count_filter_le p q (λ other. not (same_place other key)) asked imp
asked_fewer p q asked key false imp = count_le p q asked imp

module _ {C B S : Type 0} (rules : Rules C B) (d : Document S) where
  -- how many pairs of a view are due
  abbrev pub due_of : View → ℕ
  due_of view = count_by (is_due rules d view) (keys rules d view)

  -- what a view has left: its due pairs, twice, and its tiles that are not acknowledged
  abbrev pub left_of : View → ℕ
  left_of view = 2 * due_of view + length view.window

  pub ready_by : (view : View) → IsViewKept rules d view → IsReady rules d view
  ready_by view kept = record {
    order = pairwise_by IsBefore (visible rules d view)
        (visible_order view.part view.zoom view.area (size_of rules d.base view.part)
        (visible rules d view) kept.zoom refl);
    once = kept.asked_once;
    points = seen_points view.part view.zoom view.area (size_of rules d.base view.part) kept.zoom;
    asked_points =
        weaker (λ key. IsKey key × (key.part < parts_of rules d.base)) HasPoint view.asked
        (λ key is. (omega (arith, is.0.tilewidth_low), omega (arith, is.0.tileheight_low)))
        kept.asked;
    versions = kept.versions;
  }

  pub all_ready : {cut : C → Place → S} → IsKept rules cut d
      → AllByRecursion (IsReady rules d) d.views
  all_ready kept =
      weaker (IsViewKept rules d) (IsReady rules d) d.views (λ view is. ready_by view is) kept.each

  pub ready_sent : (version : ℕ) (key : Place) (view : View) → version ≤ d.applied
      → IsReady rules d view → IsReady rules d (sent rules d version key view)
  ready_sent version key view le ready = record {
    order = ready.order;
    once = asked_once view.asked key (is_current rules d version key) ready.once;
    points = ready.points;
    asked_points =
        asked_stay HasPoint view.asked key (is_current rules d version key) ready.asked_points;
    versions = screen_versions d.applied view.screen key version
        (is_among (visible rules d view) key
        || is_among (asked_after view.asked key (is_current rules d version key)) key) le
        ready.versions;
  }

  -- no more keys of a view pass a test once a tile was sent to it
  pub passing_le : (p q : Place → Bool) (version : ℕ) (key : Place) (view : View)
      → IsReady rules d view → ((x : Place) → p x ≡ true → q x ≡ true)
      → count_by p (keys rules d (sent rules d version key view)) ≤ count_by q (keys rules d view)
  passing_le p q version key view ready imp =
      let vis : List Place = visible rules d view in
      let current : Bool = is_current rules d version key in
      let gone : List Place = asked_after view.asked key current in
      let after : count_by p (keys rules d (sent rules d version key view))
      ≡ count_by p vis + count_new p vis gone =
      count_ordered p gone vis ready.order (asked_once view.asked key current ready.once) in
      let before : count_by q (keys rules d view) ≡ count_by q vis + count_new q vis view.asked =
      count_ordered q view.asked vis ready.order ready.once in
      let first : count_by p vis ≤ count_by q vis = count_le p q vis imp in
      let second : count_new p vis gone ≤ count_new q vis view.asked =
      asked_fewer (λ x. p x && not (is_among vis x))
      (λ x. q x && not (is_among vis x)) view.asked key current
      (λ x e. let parts = and_parts (p x) (not (is_among vis x)) e in let yes : q x ≡ true =
      imp x parts.0 in rw (yes, parts.1) refl) in
      omega (arith, after, before, first, second)

  -- so there are no more of them
  pub keys_le : (version : ℕ) (key : Place) (view : View) → IsReady rules d view
      → length (keys rules d (sent rules d version key view)) ≤ length (keys rules d view)
  keys_le version key view ready =
      let less = passing_le (λ _. true) (λ _. true) version key view ready (λ x e. refl) in
      let after = count_all (keys rules d (sent rules d version key view)) in
      let before = count_all (keys rules d view) in
      omega (arith, less, after, before)

  -- and no more are due, where the one that was sent was
  pub due_le : (version : ℕ) (key : Place) (view : View) → IsReady rules d view
      → is_due rules d view key ≡ true → due_of (sent rules d version key view) ≤ due_of view
  due_le version key view ready due =
      passing_le (is_due rules d (sent rules d version key view))
      (is_due rules d view) version key view ready
      (λ x e. elim (cases_Bool (same_place key x)) [
        | inl here ↦ ap (is_due rules d view) (sym (same_is key x here)) ∙ due
        | inr away ↦ sym (sent_other rules d version key view x away) ∙ e
      ])

  -- no more are due than there are
  pub due_le_pairs : (views : List View)
      → sum_by due_of views ≤ sum_by (λ view. length (keys rules d view)) views
  due_le_pairs views =
      sum_le due_of (λ view. length (keys rules d view)) views
      (λ view. count_by-le-length (is_due rules d view) (keys rules d view))

  -- a due pair fewer
  pub due_less : (version : ℕ) (key : Place) (view : View)
      → touched rules d.base d.journal version key d.applied ≡ false → version ≤ d.applied
      → IsReady rules d view → is_due rules d view key ≡ true
      → due_of (sent rules d version key view) + 1 ≤ due_of view
  due_less version key view clean le ready due =
      let later : IsReady rules d (sent rules d version key view) =
      ready_sent version key view le ready in
      let p : Place → Bool = is_due rules d (sent rules d version key view) in
      let q : Place → Bool = is_due rules d view in
      let vis : List Place = visible rules d view in
      let gone : List Place = without_key view.asked key in
      let asked_is : (sent rules d version key view).asked ≡ gone = rw clean refl in
      let after : due_of (sent rules d version key view) ≡ count_by p vis + count_new p vis gone =
      ap (λ asked. count_by p (ordered asked vis)) asked_is
      ∙ count_ordered p gone vis ready.order (asked_once view.asked key true ready.once) in
      let before : due_of view ≡ count_by q vis + count_new q vis view.asked =
      count_ordered q view.asked vis ready.order ready.once in
      let imp : (x : Place) → p x ≡ true → q x ≡ true =
      λ x e. (and_parts (is_due rules d view x) (not (same_place key x))
      (sym (sent_due rules d version key view clean x) ∙ e)).0 in
      let none : (b : Bool) → (b && false) ≡ false = elim [ true ↦ refl | false ↦ refl ] in
      let no : p key ≡ false =
      sent_due rules d version key view clean key
      ∙ ap (λ b. is_due rules d view key && not b) (same_self key)
      ∙ none (is_due rules d view key) in
      let imp_new : (x : Place) → (p x && not (is_among vis x)) ≡ true
      → (q x && not (is_among vis x)) ≡ true = λ x e.
      let parts = and_parts (p x) (not (is_among vis x)) e in
      let yes : q x ≡ true = imp x parts.0 in
      rw (yes, parts.1) refl in
      elim (cases_Bool (is_among vis key)) [
        | inl seen ↦
            let first : count_by p vis + 1 ≤ count_by q vis =
            count_lt p q vis key imp seen no due in
            let second : count_new p vis gone ≤ count_new q vis view.asked =
            count_filter_le (λ x. p x && not (is_among vis x))
            (λ x. q x && not (is_among vis x))
            (λ other. not (same_place other key)) view.asked imp_new in
            omega (arith, after, before, first, second)
        | inr unseen ↦
            let asked : is_among view.asked key ≡ true = rw unseen at due in
            let first : count_by p vis ≤ count_by q vis = count_le p q vis imp in
            let yes : (q key && not (is_among vis key)) ≡ true = rw (due, unseen) refl in
            let not_yet : (p key && not (is_among vis key)) ≡ false = rw no refl in
            let second : count_new p vis gone + 1 ≤ count_new q vis view.asked =
            count_filter_lt (λ x. p x && not (is_among vis x))
            (λ x. q x && not (is_among vis x))
            (λ other. not (same_place other key)) view.asked key imp_new asked not_yet yes in
            omega (arith, after, before, first, second)
      ]

  pub sent_less : (version : ℕ) (key : Place) (view : View)
      → touched rules d.base d.journal version key d.applied ≡ false → version ≤ d.applied
      → IsReady rules d view → is_due rules d view key ≡ true
      → left_of (sent rules d version key view) + 1 ≤ left_of view
  sent_less version key view clean le ready due =
      let less : due_of (sent rules d version key view) + 1 ≤ due_of view =
      due_less version key view clean le ready due in
      let more : length (sent rules d version key view).window ≡ length view.window + 1 =
      length-append view.window (record { wid = view.next_wid; key = key } ∷ []) in
      omega (arith, less, more)

  newer_by : (key : Place) (asked : Bool) (o : Option ℕ)
      → ((version : ℕ) → o ≡ Some version → version ≤ d.applied) → (seen : Bool)
      → ((seen && is_lacking rules d key o) || asked) ≡ true → is_newer o d.applied asked ≡ true
  newer_by key asked None applied seen due = refl
  newer_by key asked (Some had) applied seen due =
      let le : had ≤ d.applied = applied had refl in
      elim (cases_lt had d.applied) [
        | inl less ↦ let yes : nat_lt had d.applied ≡ true = grind (arith, nat_tests) in rw yes refl
        | inr most ↦
            let clean : touched rules d.base d.journal had key d.applied ≡ false =
            untouched rules d.base d.journal had key d.applied most in
            let none : (b : Bool) → (b && false) ≡ false = elim [ true ↦ refl | false ↦ refl ] in
            let is : ((seen && touched rules d.base d.journal had key d.applied) || asked) ≡ asked =
            rw clean (rw (none seen) refl) in
            let yes : asked ≡ true = sym is ∙ due in
            let back : nat_le had d.applied ≡ true = grind (arith, nat_tests) in
            let any : (b : Bool) → (b || true) ≡ true = elim [ true ↦ refl | false ↦ refl ] in
            rw (yes, back) (any (nat_lt had d.applied))
      ]

  -- a view with room takes the present tile of a pair that is due
  pub takes_by : (key : Place) (view : View) → IsReady rules d view → has_room view ≡ true
      → is_due rules d view key ≡ true → takes rules d d.applied key view ≡ true
  takes_by key view ready room due =
      let newer : is_newer (version_of view.screen key) d.applied (is_among view.asked key) ≡ true =
      newer_by key (is_among view.asked key) (version_of view.screen key)
      (λ version e. version_applied view.screen key d.applied version ready.versions e)
      (is_among (visible rules d view) key) due in
      let go : (a b c : Bool) → a ≡ true → b ≡ true → c ≡ true → (a && (b && c)) ≡ true =
      λ a b c e f h. rw (e, f, h) refl in
      go (is_newer (version_of view.screen key) d.applied (is_among view.asked key))
      (is_due rules d view key) (has_room view) newer due room
