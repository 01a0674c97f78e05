-- The laws of the patch document.
use Rattle.std.proofs.Common.{◌≡◌, ℕ, ◌+◌, ◌*◌, ◌/◌, ◌%◌, ◌<◌, ◌≤◌, Bool, true, false, ◌&&◌, ◌||◌, ◌==◌, nat_eq, nat_lt, List, [], ◌∷◌, length, get_or, set, slice_index, slice_set, if◌then◌else◌, unwrap_or, Option, Some, None, IfSome, All, ap, ◌∙◌, sym, ◌≢◌, arith, lit≤, length-set, get_or-set_other, get_or-set_same, ltb-true, eqb-true, eq-eqb, le-leb, lt-ltb, lit<, inl, inr}
pub use Rattle.std.proofs.Common.{refl}
use Rattle.std.specs.List.{list_any, AllByRecursion}
use Rattle.std.specs.Ordering.{nat_cmp}
use Rattle.std.specs.BTreeMap.{is_at}
use Rattle.std.specs.Map.{lookup, values_of}
use Rattle.std.proofs.lemmas.List.Elements.{All-nil}
use Rattle.std.proofs.lemmas.Map.Views.{All-values-insert_entry, IfSome-lookup_from_All}
use Rattle.std.proofs.lemmas.Bool.{and_parts, cases_eq}
use Rattle.std.proofs.lemmas.List.Folds.{list_any_at}
use Rattle.std.proofs.lemmas.Bool.Decides.{nat_tests}
use Rattle.std.proofs.lemmas.Grind.{common_steps}
use Rattle.kit_trait.specs.declared.values.Input.{Input}
use Rattle.kit_trait.specs.declared.values.What.{What}
use Rattle.kit_trait.specs.declared.values.What.TheVariants.{Key, Mouse}
use Rattle.kit_trait.specs.Pictures.{Colour, white}
use Rattle.kit_trait.specs.Rules.{hurts_point, IsWithin, ReadsAs}
use Rattle.kit_trait.specs.Patch.{Patches, patch_rules, IsPatch, blank, squares_of, accepts_file, is_inside, square_at, damaged_square, grey, colour_of, raised, chosen_by, clicked, click_hurt, typed, typed_hurt, acted, act_hurt, stepped, step_hurt}

length-blank : length blank ≡ 256
unfolding blank
length-blank = refl

-- what holds of both sides of a choice holds of the choice
either : {A : Type 0} (P : A → Type 0) (b : Bool) (x y : A) → P x → P y → P (if b then x else y)
either P true x y px py = px
either P false x y px py = py

square_small : (x y : ℕ) → is_inside x y ≡ true → square_at x y < 256
square_small x y inside =
    let parts = and_parts (nat_lt x 3840) (nat_lt y 3840) inside in
    omega (arith, ltb-true x 3840 parts.0, ltb-true y 3840 parts.1)

found_small : (o : Option ℕ) → IfSome o (λ n. n < 256) → unwrap_or o 0 < 256
found_small None h = omega arith
found_small (Some n) h = h

chosen_small : (c : Patches) (view : ℕ) → IsPatch c → chosen_by c view < 256
chosen_small c view sound = found_small _ (IfSome-lookup_from_All (λ n. n < 256) (is_at (nat_cmp view)) c.chosen sound.chosen)

-- soundness

squares_long : (file : List ℕ) (b : Bool) → (length file == 256) ≡ b → length (if b then file else blank) ≡ 256
squares_long file true e = eqb-true (length file) 256 e
squares_long file false e = length-blank

pub sound_start : (file : List ℕ) → IsPatch (patch_rules.start file)
sound_start file = record { squares = squares_long file (length file == 256) refl; chosen = All-nil (λ n. n < 256) }

typed_sound : (c : Patches) (view chr : ℕ) → IsPatch c → IsPatch (typed c view chr)
typed_sound c view chr sound =
    either IsPatch (chr == 0) c (record c { squares = slice_set c.squares (chosen_by c view) (chr % 256) }) sound
    (record { squares = simp length-set sound.squares; chosen = sound.chosen })

clicked_sound : (c : Patches) (view x y : ℕ) (b : Bool) → is_inside x y ≡ b → IsPatch c → IsPatch (clicked c view x y)
clicked_sound c view x y true e sound =
    rw e (record { squares = simp length-set sound.squares; chosen = All-values-insert_entry nat_cmp view (square_at x y) (λ n. n < 256) c.chosen sound.chosen (square_small x y e) })
clicked_sound c view x y false e sound = rw e sound

acted_sound : (c : Patches) (view : ℕ) (what : What) → IsPatch c → IsPatch (acted c view what)
acted_sound c view (Key chr code) sound = typed_sound c view chr sound
acted_sound c view (Mouse x y count buttons modifier) sound = clicked_sound c view x y (is_inside x y) refl sound

pub sound_step : (c : Patches) (input : Input) → IsPatch c → IsPatch (stepped c input)
sound_step c input sound = either IsPatch (nat_eq input.part 0) (acted c input.view.0 input.what) c (acted_sound c input.view.0 input.what sound) sound

-- colours

-- a square takes a colour: a point keeps its own where it is another's, or where the square had this colour
set_same : (squares : List ℕ) (n v : ℕ) → slice_index squares n ≡ v → slice_index (slice_set squares n v) n ≡ slice_index squares n
set_same squares n v same = grind (arith, common_steps)

kept_index : (squares : List ℕ) (n v k : ℕ) → (k ≡ n → slice_index squares n ≡ v) → slice_index (slice_set squares n v) k ≡ slice_index squares k
kept_index squares n v k same =
    elim (cases_eq k n) as (λ _. slice_index (slice_set squares n v) k ≡ slice_index squares k) [
      | inl e ↦ rw e (set_same squares n v (same e))
      | inr apart ↦ grind (arith, common_steps)
    ]

kept_colour : (squares : List ℕ) (n v part x y : ℕ) (b : Bool) → (nat_eq part 0 && is_inside x y) ≡ b → (b ≡ true → square_at x y ≡ n → slice_index squares n ≡ v) → colour_of (slice_set squares n v) part x y ≡ colour_of squares part x y
kept_colour squares n v part x y true e same = rw e (ap grey (kept_index squares n v (square_at x y) (same refl)))
kept_colour squares n v part x y false e same = rw e refl

both : {a b : Bool} → a ≡ true → b ≡ true → (a && b) ≡ true
both {a} {b} p q = rw (p, q) refl

-- a point of a square lies in its damage
in_square : (part x y n : ℕ) → (nat_eq part 0 && is_inside x y) ≡ true → square_at x y ≡ n → hurts_point (damaged_square n) part x y ≡ true
in_square part x y n inside e =
    let parts = and_parts (nat_eq part 0) (is_inside x y) inside in
    let sides = and_parts (nat_lt x 3840) (nat_lt y 3840) parts.1 in
    let column : n % 16 ≡ x / 240 = omega (arith, ltb-true x 3840 sides.0, ltb-true y 3840 sides.1, e) in
    let line : n / 16 ≡ y / 240 = omega (arith, ltb-true x 3840 sides.0, ltb-true y 3840 sides.1, e) in
    both (eq-eqb 0 part (sym (eqb-true part 0 parts.0)))
    (both (both (le-leb (n % 16 * 240) x (omega (arith, column))) (lt-ltb x (n % 16 * 240 + 240) (omega (arith, column))))
    (both (le-leb (n / 16 * 240) y (omega (arith, line))) (lt-ltb y (n / 16 * 240 + 240) (omega (arith, line)))))

not_in_square : (part x y n : ℕ) → (nat_eq part 0 && is_inside x y) ≡ true → list_any (λ d. hurts_point d part x y) (damaged_square n ∷ []) ≡ false → square_at x y ≡ n → ⊥
not_in_square part x y n inside away e =
    let hit = list_any_at (λ d. hurts_point d part x y) (damaged_square n ∷ []) 0 (damaged_square n) (lit< tt) (in_square part x y n inside e) in
    cc

click_covered : (c : Patches) (view cx cy part x y : ℕ) (b : Bool) → is_inside cx cy ≡ b → list_any (λ d. hurts_point d part x y) (click_hurt cx cy) ≡ false → colour_of (clicked c view cx cy).squares part x y ≡ colour_of c.squares part x y
click_covered c view cx cy part x y true e away =
    let missed : list_any (λ d. hurts_point d part x y) (damaged_square (square_at cx cy) ∷ []) ≡ false = rw e at away in
    rw e (kept_colour c.squares (square_at cx cy) _ part x y _ refl (λ inside here. absurd (not_in_square part x y (square_at cx cy) inside missed here)))
click_covered c view cx cy part x y false e away = rw e refl

typed_covered : (c : Patches) (view chr part x y : ℕ) (a b : Bool) → (chr == 0) ≡ a → (slice_index c.squares (chosen_by c view) == chr % 256) ≡ b → list_any (λ d. hurts_point d part x y) (typed_hurt c view chr) ≡ false → colour_of (typed c view chr).squares part x y ≡ colour_of c.squares part x y
typed_covered c view chr part x y true b none same away = rw none refl
typed_covered c view chr part x y false true none same away =
    rw none (kept_colour c.squares (chosen_by c view) _ part x y _ refl (λ inside here. eqb-true (slice_index c.squares (chosen_by c view)) (chr % 256) same))
typed_covered c view chr part x y false false none same away =
    let missed : list_any (λ d. hurts_point d part x y) (damaged_square (chosen_by c view) ∷ []) ≡ false = rw (none, same) at away in
    rw none (kept_colour c.squares (chosen_by c view) _ part x y _ refl (λ inside here. absurd (not_in_square part x y (chosen_by c view) inside missed here)))

act_covered : (c : Patches) (view : ℕ) (what : What) (part x y : ℕ) → list_any (λ d. hurts_point d part x y) (act_hurt c view what) ≡ false → colour_of (acted c view what).squares part x y ≡ colour_of c.squares part x y
act_covered c view (Key chr code) part x y away = typed_covered c view chr part x y _ _ refl refl away
act_covered c view (Mouse cx cy count buttons modifier) part x y away = click_covered c view cx cy part x y _ refl away

step_covered : (c : Patches) (view : ℕ) (what : What) (part x y : ℕ) (b : Bool) → list_any (λ d. hurts_point d part x y) (if b then act_hurt c view what else []) ≡ false → colour_of (if b then acted c view what else c).squares part x y ≡ colour_of c.squares part x y
step_covered c view what part x y true away = act_covered c view what part x y away
step_covered c view what part x y false away = refl

pub covered : (c : Patches) (input : Input) (part x y : ℕ) → IsPatch c → list_any (λ d. hurts_point d part x y) (step_hurt c input) ≡ false → colour_of (stepped c input).squares part x y ≡ colour_of c.squares part x y
covered c input part x y sound away = step_covered c input.view.0 input.what part x y (nat_eq input.part 0) away

-- the damage

square_within : (c : Patches) (n : ℕ) → n < 256 → AllByRecursion (IsWithin patch_rules c) (damaged_square n ∷ [])
square_within c n small = (record { part = lit≤ tt; right = omega arith; lower = omega arith }, tt)

click_within : (c : Patches) (x y : ℕ) (b : Bool) → is_inside x y ≡ b → AllByRecursion (IsWithin patch_rules c) (click_hurt x y)
click_within c x y true e = rw e (square_within c (square_at x y) (square_small x y e))
click_within c x y false e = rw e tt

act_within : (c : Patches) (view : ℕ) (what : What) → IsPatch c → AllByRecursion (IsWithin patch_rules c) (act_hurt c view what)
act_within c view (Key chr code) sound =
    either (AllByRecursion (IsWithin patch_rules c)) (chr == 0 || slice_index c.squares (chosen_by c view) == chr % 256) [] (damaged_square (chosen_by c view) ∷ []) tt
    (square_within c (chosen_by c view) (chosen_small c view sound))
act_within c view (Mouse x y count buttons modifier) sound = click_within c x y (is_inside x y) refl

pub within : (c : Patches) (input : Input) → IsPatch c → AllByRecursion (IsWithin patch_rules c) (step_hurt c input)
within c input sound = either (AllByRecursion (IsWithin patch_rules c)) (nat_eq input.part 0) (act_hurt c input.view.0 input.what) [] (act_within c input.view.0 input.what sound) tt

act_few : (c : Patches) (view : ℕ) (what : What) → length (act_hurt c view what) ≤ 256
act_few c view (Key chr code) = either (λ hurt. length hurt ≤ 256) (chr == 0 || slice_index c.squares (chosen_by c view) == chr % 256) [] (damaged_square (chosen_by c view) ∷ []) (lit≤ tt) (lit≤ tt)
act_few c view (Mouse x y count buttons modifier) = either (λ hurt. length hurt ≤ 256) (is_inside x y) (damaged_square (square_at x y) ∷ []) [] (lit≤ tt) (lit≤ tt)

pub few : (c : Patches) (input : Input) → IsPatch c → length (step_hurt c input) ≤ 256
few c input sound = either (λ hurt. length hurt ≤ 256) (nat_eq input.part 0) (act_hurt c input.view.0 input.what) [] (act_few c input.view.0 input.what) (lit≤ tt)

-- the file

whole_file : (file : List ℕ) (b : Bool) → (length file == 256) ≡ b → b ≡ true → (if b then file else blank) ≡ file
whole_file file true e yes_it_is = refl
whole_file file false e not_so = cc

pub reads_back : (c : Patches) → IsPatch c → ReadsAs patch_rules c.squares c
reads_back c sound =
    let whole : (length c.squares == 256) ≡ true = eq-eqb (length c.squares) 256 sound.squares in
    record {
      accepted = grind (arith, nat_tests);
      body = whole_file c.squares (length c.squares == 256) refl whole;
    }

pub some_part : (c : Patches) → IsPatch c → 1 ≤ 1
some_part c sound = lit≤ tt
