-- A part of a picture that a place beside others has is the picture of that place.
use Rattle.std.proofs.Common.{◌≡◌, ℕ, zero, suc, ◌+◌, ◌*◌, ◌≤◌, ◌<◌, arith, List, [], ◌++◌, length, take, drop, refl, ap, sym, ◌∙◌, append_assoc, append-nil, length-append, zero-add, suc-add}
use Rattle.std.proofs.lemmas.Grind.{common_steps}
use Rattle.std.proofs.lemmas.Nat.{mul-le}
use Rattle.tile_key.specs.Places.{Place}
use Rattle.kit_trait.specs.Pictures.{Colour, rgba, row, rows, x_at, y_at}

-- the bytes of a row's columns are bytes of the picture
pub row_within : (j height left width across count : ℕ) → j < height → left + width ≤ across → count ≡ 4 * width → 4 * (j * across + left) + count ≤ 4 * (height * across)
row_within j height left width across count low inside is =
    let more : suc j * across ≤ height * across = mul-le (suc j) across height across low (omega arith) in
    let next : suc j * across ≡ j * across + across = omega arith in
    omega (arith, more, next, inside, is)

-- the list in the middle of three
middle : (a b c : List ℕ) (n m : ℕ) → length a ≡ n → length b ≡ m → take m (drop n (a ++ (b ++ c))) ≡ b
middle a b c n m first second = rw (sym first, sym second) (grind (arith, common_steps))

module _ (colour : ℕ → ℕ → ℕ → Colour) where
  row_length : (p : Place) (j n : ℕ) → length (row colour p j n) ≡ 4 * n
  row_length p j zero = refl
  row_length p j (suc n) = omega (arith, row_length p j n, length-append (row colour p j n) (rgba (colour p.part (x_at p n) (y_at p j))))

  rows_length : (p : Place) (j : ℕ) → length (rows colour p j) ≡ 4 * (j * p.width)
  rows_length p zero = omega arith
  rows_length p (suc j) =
      let next : suc j * p.width ≡ j * p.width + p.width = omega arith in
      omega (arith, rows_length p j, row_length p j p.width, length-append (rows colour p j) (row colour p j p.width), next)

  -- more pixels of a row, and more rows, come behind
  record Longer (short long : List ℕ) : Type 0 where
    tail : List ℕ
    is : long ≡ short ++ tail

  row_longer : (p : Place) (j n more : ℕ) → Longer (row colour p j n) (row colour p j (more + n))
  row_longer p j n zero = record { tail = []; is = ap (row colour p j) (zero-add n) ∙ sym (append-nil (row colour p j n)) }
  row_longer p j n (suc more) =
      let before = row_longer p j n more in
      let last = rgba (colour p.part (x_at p (more + n)) (y_at p j)) in
      record { tail = before.tail ++ last; is = ap (row colour p j) (suc-add more n) ∙ (ap (λ r. r ++ last) before.is ∙ append_assoc (row colour p j n) before.tail last) }

  rows_longer : (p : Place) (j more : ℕ) → Longer (rows colour p j) (rows colour p (more + j))
  rows_longer p j zero = record { tail = []; is = ap (rows colour p) (zero-add j) ∙ sym (append-nil (rows colour p j)) }
  rows_longer p j (suc more) =
      let before = rows_longer p j more in
      let last = row colour p (more + j) p.width in
      record { tail = before.tail ++ last; is = ap (rows colour p) (suc-add more j) ∙ (ap (λ r. r ++ last) before.is ∙ append_assoc (rows colour p j) before.tail last) }

  -- the pixels of a place beside others are pixels of the row that they share
  row_beside : (p q : Place) (left j n : ℕ) → q.part ≡ p.part → y_at q j ≡ y_at p j → ((i : ℕ) → x_at q i ≡ x_at p (i + left)) → row colour p j (n + left) ≡ row colour p j left ++ row colour q j n
  row_beside p q left j zero part same place = ap (row colour p j) (zero-add left) ∙ sym (append-nil (row colour p j left))
  row_beside p q left j (suc n) part same place =
      let last : rgba (colour p.part (x_at p (n + left)) (y_at p j)) ≡ rgba (colour q.part (x_at q n) (y_at q j)) = rw (part, same, place n) refl in
      ap (row colour p j) (suc-add n left)
      ∙ (ap (λ r. r ++ rgba (colour p.part (x_at p (n + left)) (y_at p j))) (row_beside p q left j n part same place)
      ∙ (append_assoc (row colour p j left) (row colour q j n) (rgba (colour p.part (x_at p (n + left)) (y_at p j)))
      ∙ ap (λ l. row colour p j left ++ (row colour q j n ++ l)) last))

  pub columns_are : (p q : Place) (left j rest below : ℕ) → q.part ≡ p.part → y_at q j ≡ y_at p j → ((i : ℕ) → x_at q i ≡ x_at p (i + left)) → rest + (q.width + left) ≡ p.width → below + suc j ≡ p.height → take (4 * q.width) (drop (4 * (j * p.width + left)) (rows colour p p.height)) ≡ row colour q j q.width
  columns_are p q left j rest below part same place wide high =
      let under = rows_longer p (suc j) below in
      let beside = row_longer p j (q.width + left) rest in
      let a = rows colour p j in
      let l = row colour p j left in
      let r = row colour q j q.width in
      let line : row colour p j p.width ≡ (l ++ r) ++ beside.tail = ap (row colour p j) (sym wide) ∙ (beside.is ∙ ap (λ s. s ++ beside.tail) (row_beside p q left j q.width part same place)) in
      let whole : rows colour p p.height ≡ (a ++ l) ++ (r ++ (beside.tail ++ under.tail)) =
      ap (rows colour p) (sym high) ∙ (under.is ∙ (ap (λ s. (a ++ s) ++ under.tail) line ∙ grind (arith, common_steps))) in
      let long : length (a ++ l) ≡ 4 * (j * p.width + left) = omega (arith, length-append a l, rows_length p j, row_length p j left) in
      ap (λ s. take (4 * q.width) (drop (4 * (j * p.width + left)) s)) whole
      ∙ middle (a ++ l) r (beside.tail ++ under.tail) (4 * (j * p.width + left)) (4 * q.width) long (row_length q j q.width)
