-- Which tiles of a side have a point of a length.
use Rattle.std.proofs.Common.{◌≡◌, ℕ, ◌+◌, ◌-◌, ◌*◌, ◌/◌, ◌<◌, ◌≤◌, ◌^◌, max, arith}
use Rattle.std.proofs.Math.Nat.{div-mul-le_self, lt-div-mul-add, mul-le-mul_right, lt_of_not-le, div-eq_of_lt, div-le_self, le-div_iff_mul-le}
use Rattle.tile_key.specs.Visible.{tiles_to}

-- the first tile begins at the first point or before, and ends behind it
first_low : (from twips : ℕ) → from / twips * twips ≤ from
first_low from twips = div-mul-le_self from twips

first_high : (from twips : ℕ) → 0 < twips → from < from / twips * twips + twips
first_high from twips some = lt-div-mul-add some

-- a tile behind the last one begins at the end or behind it
last_low : (end twips i : ℕ) → 0 < twips → i < (end + twips - 1) / twips → i * twips < end
last_low end twips i some below =
    let le : (i + 1) * twips ≤ (end + twips - 1) / twips * twips = mul-le-mul_right twips (omega arith) in
    let floor : (end + twips - 1) / twips * twips ≤ end + twips - 1 = div-mul-le_self (end + twips - 1) twips in
    omega (arith, le, floor)

last_high : (end twips i : ℕ) → 0 < twips → i * twips < end → i < (end + twips - 1) / twips
last_high end twips i some inside =
    let ceil : end + twips - 1 < (end + twips - 1) / twips * twips + twips = lt-div-mul-add some in
    lt_of_not-le (λ above.
    let le : (end + twips - 1) / twips * twips ≤ i * twips = mul-le-mul_right twips above in
    omega (arith, le, ceil))

-- no tile has a point of no length at the edge of the part
pub none_over : (twips : ℕ) → 0 < twips → tiles_to 0 0 twips ≡ 0
none_over twips some =
    let e : (0 + twips - 1) / twips ≡ 0 = div-eq_of_lt (omega arith) in
    omega (arith, e)

-- each of the tiles counted has a point of the length
pub side_point : (from end twips k : ℕ) → 0 < twips → from < end → k < tiles_to from end twips → (p : ℕ) × ((from / twips + k) * twips ≤ p) × (p < (from / twips + k) * twips + twips) × (from ≤ p) × (p < end)
side_point from end twips k some length below =
    let last : (from / twips + k) * twips < end = last_low end twips (from / twips + k) some (omega arith) in
    let high : from < from / twips * twips + twips = first_high from twips some in
    let le : from / twips * twips ≤ (from / twips + k) * twips = mul-le-mul_right twips (omega arith) in
    (max ((from / twips + k) * twips) from, omega arith, omega (arith, le, high), omega arith, omega (arith, last))

-- a tile that has a point of the length is counted
pub side_has : (from end twips i p : ℕ) → 0 < twips → i * twips ≤ p → p < i * twips + twips → from ≤ p → p < end → (k : ℕ) × (k < tiles_to from end twips) × (from / twips + k ≡ i)
side_has from end twips i p some low high after before =
    let last : i < (end + twips - 1) / twips = last_high end twips i some (omega arith) in
    let first : from / twips < i + 1 = lt_of_not-le (λ above.
    let le : (i + 1) * twips ≤ from / twips * twips = mul-le-mul_right twips above in
    let floor : from / twips * twips ≤ from = first_low from twips in
    omega (arith, le, floor)) in
    (i - from / twips, omega arith, omega arith)

pub first_to_last : (from end twips : ℕ) → 0 < twips → from ≤ end → from / twips ≤ (end + twips - 1) / twips
first_to_last from end twips some order =
    let floor : from / twips * twips ≤ from = first_low from twips in
    (le-div_iff_mul-le some).1 (omega (arith, floor))

-- the tiles counted end within one tile of the end
pub span_end : (from end twips : ℕ) → 0 < twips → from ≤ end → end < 2 ^ 31 → (from / twips + tiles_to from end twips) * twips ≤ 2147483647 + twips
span_end from end twips some order small =
    let le : from / twips ≤ (end + twips - 1) / twips = first_to_last from end twips some order in
    let sum : from / twips + tiles_to from end twips ≡ (end + twips - 1) / twips = omega arith in
    let floor : (end + twips - 1) / twips * twips ≤ end + twips - 1 = div-mul-le_self (end + twips - 1) twips in
    rw sum (omega (arith, floor))

pub span_small : (from end twips : ℕ) → 0 < twips → from ≤ end → end < 2 ^ 31 → twips ≤ 61440 → from / twips + tiles_to from end twips < 2 ^ 32
span_small from end twips some order small short =
    let le : from / twips ≤ (end + twips - 1) / twips = first_to_last from end twips some order in
    let sum : from / twips + tiles_to from end twips ≡ (end + twips - 1) / twips = omega arith in
    let self : (end + twips - 1) / twips ≤ end + twips - 1 = div-le_self (end + twips - 1) twips in
    rw sum (omega (arith, self))
