-- The parts of a group's picture are the pictures of its keys.
use Rattle.std.proofs.Common.{◌≡◌, ℕ, zero, suc, ◌+◌, ◌*◌, ◌/◌, ◌%◌, ◌≤◌, ◌<◌, arith, List, [], ◌∷◌, ◌++◌, length, take, drop, map, get_or, refl, ap, sym, ◌∙◌, sum_by, mod-lt, add-one, inl, inr, eq-zero-or-pos, append_assoc}
use Rattle.std.proofs.lemmas.Nat.{div-mul-add, div-add-mod', mul-le}
use Rattle.std.proofs.lemmas.List.Sums.{sum_by-cons}
use Rattle.tile_key.specs.Places.{Place, IsRun, IsGroup, next_place, place_of_keys}
use Rattle.tile_key.proofs.GroupFacts.{group_place}
use Rattle.kit_trait.specs.declared.values.Pixels.{Pixels}
use Rattle.kit_trait.specs.Pictures.{Colour, picture, rows, x_at}
use Rattle.tile_combine.specs.Parts.{columns, part_at, parts_from, picture_in}
use Rattle.tile_combine.proofs.FrontFacts.{drop_here}
use Rattle.tile_combine.proofs.RowFacts.{columns_are}

many : (n a t q w r : ℕ) → a * t ≡ q * w + r → a * (n * t) ≡ q * (n * w) + n * r
many n a t q w r is =
    let turned : a * (n * t) ≡ n * (a * t) = grind arith in
    turned ∙ (ap (λ x. n * x) is ∙ grind arith)

less : (n r w : ℕ) → 0 < n → r < w → n * r < n * w
less n r w some low =
    let more : n * suc r ≤ n * w = mul-le n (suc r) n w (omega arith) low in
    let next : n * suc r ≡ n * r + n = grind arith in
    omega (arith, more, next, some)

-- a point that a pixel of the i-th of n places side by side samples
point_beside : (i w tw n b : ℕ) → 0 < w → 0 < n → ((b + i * w) * (n * tw)) / (n * w) ≡ i * tw + b * tw / w
point_beside i w tw n b some_w some_n =
    let split : b * tw / w * w + b * tw % w ≡ b * tw = div-add-mod' (b * tw) w in
    let one : (b + i * w) * tw ≡ (i * tw + b * tw / w) * w + b * tw % w = grind (arith, split) in
    let sum : (b + i * w) * (n * tw) ≡ (i * tw + b * tw / w) * (n * w) + n * (b * tw % w) = many n ((b + i * w)) tw (i * tw + b * tw / w) w (b * tw % w) one in
    let low : n * (b * tw % w) < n * w = less n (b * tw % w) w some_n (mod-lt (b * tw) some_w) in
    ap (λ x. x / (n * w)) sum ∙ div-mul-add (i * tw + b * tw / w) (n * w) (n * (b * tw % w)) low

wider : (rest i n w : ℕ) → rest + suc i ≡ n → rest * w + (w + i * w) ≡ n * w
wider rest i n w wide =
    let sum : (rest + suc i) * w ≡ rest * w + (w + i * w) = grind arith in
    sym sum ∙ ap (λ k. k * w) wide

-- the i-th of places side by side, the first being given, and the place that n of them take together
abbrev beside : Place → ℕ → Place
beside first i = record first { posx = first.posx + i * first.tilewidth }

abbrev together : Place → ℕ → Place
together first n = record first { width = n * first.width; tilewidth = n * first.tilewidth }

module _ (colour : ℕ → ℕ → ℕ → Colour) (first : Place) (n : ℕ) (some : 0 < first.width) where
  columns_same : (i rest m below : ℕ) → rest + suc i ≡ n → below + m ≡ first.height → columns (picture colour (together first n)) (i * first.width) first.width m ≡ rows colour (beside first i) m
  unfolding columns
  columns_same i rest zero below wide high = refl
  columns_same i rest (suc m) below wide high =
      let some_n : 0 < n = omega (arith, wide) in
      let room : rest * first.width + (first.width + i * first.width) ≡ n * first.width = wider rest i n first.width wide in
      let point : (b : ℕ) → x_at (beside first i) b ≡ x_at (together first n) (b + i * first.width) = λ b. omega (arith, point_beside i first.width first.tilewidth n b some some_n) in
      let last = columns_are colour (together first n) (beside first i) (i * first.width) m (rest * first.width) below refl refl point room high in
      ap (λ bytes. bytes ++ take (4 * first.width) (drop (4 * (m * (n * first.width) + i * first.width)) (rows colour (together first n) first.height))) (columns_same i rest m (suc below) wide (omega (arith, high)))
      ∙ ap (λ bytes. rows colour (beside first i) m ++ bytes) last

  part_same : (i rest : ℕ) → rest + suc i ≡ n → part_at (picture colour (together first n)) (i * first.width) (beside first i) ≡ picture colour (beside first i)
  part_same i rest wide =
      ap (λ (bytes : List ℕ). let part : Pixels = record { width = first.width; height = first.height; rgba = bytes } in part) (columns_same i rest first.height 0 wide (omega arith))

parts_run : (colour : ℕ → ℕ → ℕ → ℕ → Colour) (first : Place) (n : ℕ) → 0 < first.width → (keys : List Place) (key : Place) (i : ℕ) → key ≡ beside first i → IsRun key keys → length keys + suc i ≡ n → parts_from (picture_in colour (together first n)) (i * first.width) (key ∷ keys) ≡ map (picture_in colour) (key ∷ keys)
parts_run colour first n some [] key i is run all =
    rw is (ap (λ p. p ∷ []) (part_same (colour first.nviewid) first n some i 0 all))
parts_run colour first n some (other ∷ keys) key i is run all =
    let next : other ≡ beside first (suc i) = run.0 ∙ (ap next_place is ∙ ap (λ x. record first { posx = x }) (omega arith)) in
    let left : i * first.width + first.width ≡ suc i * first.width = omega arith in
    let rest : parts_from (picture_in colour (together first n)) (suc i * first.width) (other ∷ keys) ≡ map (picture_in colour) (other ∷ keys) = parts_run colour first n some keys other (suc i) next run.1 (omega (arith, all)) in
    let here : part_at (picture_in colour (together first n)) (i * first.width) key ≡ picture_in colour key = rw is (part_same (colour first.nviewid) first n some i (suc (length keys)) (omega (arith, all))) in
    let step : i * first.width + key.width ≡ suc i * first.width = rw is left in
    ap (λ l. part_at (picture_in colour (together first n)) (i * first.width) key ∷ parts_from (picture_in colour (together first n)) l (other ∷ keys)) step
    ∙ (ap (λ ps. part_at (picture_in colour (together first n)) (i * first.width) key ∷ ps) rest
    ∙ ap (λ p. p ∷ map (picture_in colour) (other ∷ keys)) here)

pub pictures_are : (keys : List Place) (pixels : Pixels) → IsGroup keys → 1 ≤ (place_of_keys keys).width → (colour : ℕ → ℕ → ℕ → ℕ → Colour) → pixels ≡ picture_in colour (place_of_keys keys) → parts_from pixels 0 keys ≡ map (picture_in colour) keys
pictures_are [] pixels group low colour is = absurd group
pictures_are (key ∷ keys) pixels group low colour is =
    let place : together key (length (key ∷ keys)) ≡ place_of_keys (key ∷ keys) = group_place (key ∷ keys) key group refl in
    let wide : length (key ∷ keys) * key.width ≡ (place_of_keys (key ∷ keys)).width = ap (λ p. p.width) place in
    let some : 0 < key.width = elim (eq-zero-or-pos key.width) as (λ _. 0 < key.width) [
      | inl none ↦ absurd (omega (arith, low, wide, ap (λ w. length (key ∷ keys) * w) none))
      | inr some ↦ some
    ] in
    let first : key ≡ beside key 0 = ap (λ x. record key { posx = x }) (omega arith) in
    ap (λ (p : Pixels). parts_from p 0 (key ∷ keys)) (is ∙ ap (picture_in colour) (sym place))
    ∙ (ap (λ left. parts_from (picture_in colour (together key (length (key ∷ keys)))) left (key ∷ keys)) (omega arith)
    ∙ parts_run colour key (length (key ∷ keys)) some keys key 0 first group.1 (omega arith))

-- one more part
pub cut_more : (parts new all : List Pixels) (pixels : Pixels) (left i : ℕ) (keys : List Place) (key : Place) → i < length keys → key ≡ get_or keys i key → new ≡ parts ++ part_at pixels left key ∷ [] → parts ++ parts_from pixels left (drop i keys) ≡ all → new ++ parts_from pixels (left + key.width) (drop (i + 1) keys) ≡ all
cut_more parts new all pixels left i keys key low is now before =
    let split : drop i keys ≡ key ∷ drop (i + 1) keys = drop_here keys i key low ∙ rw (sym is, add-one) refl in
    rw (now, append_assoc parts (part_at pixels left key ∷ []) (parts_from pixels (left + key.width) (drop (i + 1) keys)))
    (ap (λ ks. parts ++ parts_from pixels left ks) (sym split) ∙ before)

pub left_more : (left i wide : ℕ) (keys : List Place) (key : Place) → i < length keys → key ≡ get_or keys i key → left + sum_by (λ k. k.width) (drop i keys) ≡ wide → left + key.width + sum_by (λ k. k.width) (drop (i + 1) keys) ≡ wide
left_more left i wide keys key low is all =
    let split : drop i keys ≡ key ∷ drop (i + 1) keys = drop_here keys i key low ∙ rw (sym is, add-one) refl in
    omega (arith, all, ap (sum_by (λ (k : Place). k.width)) split, sum_by-cons (λ (k : Place). k.width) key (drop (i + 1) keys))

-- the keys of a run are as high as the first
run_height : (keys : List Place) (key other : Place) (i : ℕ) → IsRun key keys → i < length keys → other ≡ get_or keys i other → other.height ≡ key.height
run_height [] key other i run low is = absurd (omega (arith, low))
run_height (next ∷ keys) key other zero run low is = ap (λ k. k.height) (is ∙ run.0)
run_height (next ∷ keys) key other (suc i) run low is = run_height keys next other i run.1 (omega (arith, low)) is ∙ ap (λ k. k.height) run.0

pub group_height : (keys : List Place) (key : Place) (i : ℕ) → IsGroup keys → i < length keys → key ≡ get_or keys i key → (place_of_keys keys).height ≡ key.height
group_height [] key i group low is = absurd group
group_height (first ∷ keys) key zero group low is = ap (λ k. k.height) (sym is)
group_height (first ∷ keys) key (suc i) group low is = sym (run_height keys first key i group.1 (omega (arith, low)) is)

pub group_width : (keys : List Place) → IsGroup keys → (place_of_keys keys).width ≡ sum_by (λ k. k.width) keys
group_width [] group = absurd group
group_width (key ∷ keys) group = refl

pub ruleset parts_facts = (group_height, group_width)
