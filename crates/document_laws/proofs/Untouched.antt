-- Why a place that nothing touched looks the same.
use Rattle.std.proofs.Common.{◌≡◌, ℕ, zero, suc, ◌+◌, ◌*◌, ◌/◌, ◌<◌, ◌≤◌, min, max, Bool, true, false, ◌&&◌, List, [], ◌∷◌, ◌++◌, take, nat_eq, refl, sym, ap, ◌∙◌, arith, add-one, inl, inr, mul_comm, mul-lt-mul_of_pos_right, div-lt_iff_lt-mul, eq-or-lt_of_le}
use Rattle.std.specs.Prelude.{nat_le}
use Rattle.std.specs.List.{list_any}
use Rattle.std.proofs.lemmas.Bool.{or_parts}
use Rattle.std.proofs.lemmas.Bool.Decides.{nat_tests}
use Rattle.std.proofs.lemmas.List.{take_all}
use Rattle.std.proofs.lemmas.Option.{slice_get_cases}
use Rattle.cool_base.specs.Points.{Rectangle, has_point, do_meet}
use Rattle.tile_key.specs.Places.{Place, rect_of_place}
use Rattle.kit_trait.specs.Pictures.{Colour, rgba, x_at, y_at, row, rows, picture}
use Rattle.kit_trait.specs.Rules.{Rules, after, doc, shown, hurts_point}
use Rattle.kit_trait.specs.declared.values.Damage.{Damage}
use Rattle.kit_trait.specs.declared.values.Input.{Input}
use Rattle.document_machine.proofs.Journal.{doc_more}
use Rattle.document_machine.specs.Due.{damage_of, damages, is_hurt, touched}

-- a pixel of a row samples a point of the row's length
sample_below : (i pixels twips : ℕ) → i < pixels → 1 ≤ twips → i * twips / pixels < twips
sample_below i pixels twips lt some =
    let more : i * twips < pixels * twips = mul-lt-mul_of_pos_right {k = twips} lt some in
    (div-lt_iff_lt-mul {k = pixels} (omega arith)).1 (rw (mul_comm twips pixels) more)

-- two ranges with a common number
side_meets : (a w b v x : ℕ) → a ≤ x → x < a + w → b ≤ x → x < b + v → max a b < min (a + w) (b + v)
side_meets a w b v x al ar bl br = omega arith

-- the point is one of the rectangle's
pub record IsIn (r : Rectangle) (x y : ℕ) : Type 0 where
  pub left : r.x ≤ x
  pub right : x < r.x + r.w
  pub upper : r.y ≤ y
  pub lower : y < r.y + r.h

in_by : (r : Rectangle) (x y : ℕ) → has_point r x y ≡ true → IsIn r x y
in_by r x y has = grind (arith, nat_tests)

-- two rectangles with a common point meet
meets_at : (r q : Rectangle) (x y : ℕ) → IsIn r x y → IsIn q x y → do_meet r q ≡ true
meets_at r q x y a b =
    let across : max r.x q.x < min (r.x + r.w) (q.x + q.w) =
    side_meets r.x r.w q.x q.w x a.left a.right b.left b.right in
    let down : max r.y q.y < min (r.y + r.h) (q.y + q.h) =
    side_meets r.y r.h q.y q.h y a.upper a.lower b.upper b.lower in
    grind (arith, nat_tests)

-- a damage that doesn't meet the place has none of its points
spared : (part : Bool) (has meet : Bool) → (has ≡ true → meet ≡ true) → (part && meet) ≡ false
    → (part && has) ≡ false
spared part has meet =
    elim part as (λ p. (has ≡ true → meet ≡ true) → (p && meet) ≡ false → (p && has) ≡ false) [
      | true ↦ λ imp e.
          elim has as
          (λ v. (v ≡ true → meet ≡ true) → v ≡ false)
          [ true ↦ λ i. absurd (let t = i refl in cc) | false ↦ λ i. refl ] imp
      | false ↦ λ imp e. refl
    ]

-- nor has a list of them
all_spared : (place : Place) (x y : ℕ) → IsIn (rect_of_place place) x y → (hurt : List Damage)
    → is_hurt hurt place ≡ false → list_any (λ d. hurts_point d place.part x y) hurt ≡ false
all_spared place x y there [] clean = refl
all_spared place x y there (d ∷ ds) clean =
    let both = or_parts (damages place d) (is_hurt ds place) clean in
    let one : hurts_point d place.part x y ≡ false =
    spared (nat_eq d.part place.part) (has_point d.rect x y)
    (do_meet d.rect (rect_of_place place))
    (λ has. meets_at d.rect (rect_of_place place) x y (in_by d.rect x y has) there) both.0 in
    rw (one, all_spared place x y there ds both.1) refl

joins : (a b c d : List ℕ) → a ≡ b → c ≡ d → a ++ c ≡ b ++ d
joins a b c d e f = cc

-- rows of the same colours are the same
row_same : (f g : ℕ → ℕ → ℕ → Colour) (p : Place) (j count : ℕ)
    → ((i : ℕ) → i < count → f p.part (x_at p i) (y_at p j) ≡ g p.part (x_at p i) (y_at p j))
    → row f p j count ≡ row g p j count
row_same f g p j zero same = refl
row_same f g p j (suc i) same =
    joins (row f p j i) (row g p j i) (rgba (f p.part (x_at p i) (y_at p j)))
    (rgba (g p.part (x_at p i) (y_at p j)))
    (row_same f g p j i (λ k lt. same k (omega arith))) (ap rgba (same i (omega arith)))

rows_same : (f g : ℕ → ℕ → ℕ → Colour) (p : Place) (count : ℕ)
    → ((j : ℕ) → j < count → row f p j p.width ≡ row g p j p.width)
    → rows f p count ≡ rows g p count
rows_same f g p zero same = refl
rows_same f g p (suc j) same =
    joins (rows f p j) (rows g p j) (row f p j p.width) (row g p j p.width)
    (rows_same f g p j (λ k lt. same k (omega arith))) (same j (omega arith))

-- a pixel samples a point of the place
sampled : (p : Place) (i j : ℕ) → 1 ≤ p.tilewidth → 1 ≤ p.tileheight → i < p.width → j < p.height
    → IsIn (rect_of_place p) (x_at p i) (y_at p j)
sampled p i j wide high across down =
    let sx : i * p.tilewidth / p.width < p.tilewidth =
    sample_below i p.width p.tilewidth across wide in
    let sy : j * p.tileheight / p.height < p.tileheight =
    sample_below j p.height p.tileheight down high in
    record { left = omega arith; right = omega arith; upper = omega arith; lower = omega arith }

-- pictures of places whose points have the same colours are the same
picture_same : (f g : ℕ → ℕ → ℕ → Colour) (p : Place) → 1 ≤ p.tilewidth → 1 ≤ p.tileheight
    → ((x y : ℕ) → IsIn (rect_of_place p) x y → f p.part x y ≡ g p.part x y)
    → picture f p ≡ picture g p
picture_same f g p wide high same =
    ap (λ bytes. record { width = p.width; height = p.height; rgba = bytes })
    (rows_same f g p p.height
    (λ j down. row_same f g p j p.width
    (λ i across. same (x_at p i) (y_at p j) (sampled p i j wide high across down))))

-- sound contents stay sound
sound_after : {C B : Type 0} (rules : Rules C B) (IsSound : C → Type 0)
    → ((c : C) (input : Input) → IsSound c → IsSound (rules.step c input))
    → (inputs : List Input) (c : C) → IsSound c → IsSound (after rules c inputs)
sound_after rules IsSound step [] c sound = sound
sound_after rules IsSound step (input ∷ inputs) c sound =
    sound_after rules IsSound step inputs (rules.step c input) (step c input sound)

-- a point in no damaged rectangle keeps its colour
abbrev pub Covers : {C B : Type 0} → Rules C B → (C → Type 0) → Type 0
Covers {C} rules IsSound =
    (c : C) (input : Input) (nviewid part x y : ℕ) → IsSound c
    → list_any (λ d. hurts_point d part x y) (rules.hurt c input) ≡ false
    → rules.colour (rules.body (rules.step c input)) nviewid part x y
    ≡ rules.colour (rules.body c) nviewid part x y

-- what damaged no rectangle that meets a place leaves its look
step_keeps : {C B : Type 0} (rules : Rules C B) (IsSound : C → Type 0)
    → Covers rules IsSound
    → (c : C) (input : Input) (place : Place) → 1 ≤ place.tilewidth → 1 ≤ place.tileheight
    → IsSound c → is_hurt (rules.hurt c input) place ≡ false
    → shown rules (rules.step c input) place ≡ shown rules c place
step_keeps rules IsSound covered c input place wide high sound clean =
    picture_same (rules.colour (rules.body (rules.step c input)) place.nviewid)
    (rules.colour (rules.body c) place.nviewid) place wide high
    (λ x y there. covered c input place.nviewid place.part x y sound
    (all_spared place x y there (rules.hurt c input) clean))

-- one more input that damaged no rectangle that meets the place, where there is one more
one_more : {C B : Type 0} (rules : Rules C B) (IsSound : C → Type 0)
    → ((file : List ℕ) → IsSound (rules.start file))
    → ((c : C) (input : Input) → IsSound c → IsSound (rules.step c input))
    → Covers rules IsSound
    → (base : List ℕ) (journal : List Input) (n : ℕ) (place : Place) → 1 ≤ place.tilewidth
    → 1 ≤ place.tileheight → is_hurt (damage_of rules base journal n) place ≡ false
    → shown rules (doc rules base journal (n + 1)) place
    ≡ shown rules (doc rules base journal n) place
one_more rules IsSound start step covered base journal n place wide high clean =
    elim ((slice_get_cases journal n).1) [
      | inl (input, lt, some, is) ↦
          let there : is_hurt (rules.hurt (doc rules base journal n) input) place ≡ false =
          rw some at clean in
          ap (λ c. shown rules c place) (doc_more rules base journal n input lt is)
          ∙ step_keeps rules IsSound covered (doc rules base journal n) input place wide high
          (sound_after rules IsSound step (take n journal) (rules.start base) (start base)) there
      | inr (past, none) ↦
          let all : take n journal ≡ journal = take_all n journal past in
          let more : take (n + 1) journal ≡ journal = take_all (n + 1) journal (omega arith) in
          ap (λ inputs. shown rules (after rules (rules.start base) inputs) place) (more ∙ sym all)
    ]

pub untouched_is_unchanged : {C B : Type 0} (rules : Rules C B) (IsSound : C → Type 0)
    → ((file : List ℕ) → IsSound (rules.start file))
    → ((c : C) (input : Input) → IsSound c → IsSound (rules.step c input))
    → Covers rules IsSound
    → (base : List ℕ) (journal : List Input) (version : ℕ) (place : Place) → 1 ≤ place.tilewidth
    → 1 ≤ place.tileheight → (n : ℕ) → version ≤ n
    → touched rules base journal version place n ≡ false
    → shown rules (doc rules base journal n) place
    ≡ shown rules (doc rules base journal version) place
untouched_is_unchanged rules IsSound start step covered base journal version place wide high zero le
    clean =
    let same : zero ≡ version = omega arith in
    ap (λ m. shown rules (doc rules base journal m) place) same
untouched_is_unchanged rules IsSound start step covered base journal version place wide high
    (suc n) le clean =
    let both = or_parts (touched rules base journal version place n)
    (nat_le version n && is_hurt (damage_of rules base journal n) place) clean in
    elim (eq-or-lt_of_le le) [
      | inl same ↦ ap (λ m. shown rules (doc rules base journal m) place) (sym same)
      | inr less ↦
          let below : version ≤ n = omega arith in
          let counts : nat_le version n ≡ true = grind (arith, nat_tests) in
          let here : is_hurt (damage_of rules base journal n) place ≡ false = rw counts at both.1 in
          rw add-one at
          (one_more rules IsSound start step covered base journal n place wide high here)
          ∙ untouched_is_unchanged rules IsSound start step covered base journal version place wide
          high n below both.0
    ]
