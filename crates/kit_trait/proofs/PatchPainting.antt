-- One more pixel and one more row of a patch document's picture.
use Rattle.std.proofs.Common.{◌≡◌, ℕ, ◌+◌, ◌&&◌, nat_eq, slice_index, Bool, true, false, List, [], ◌∷◌, ◌++◌, if◌then◌else◌, refl, append_assoc, add-one, ap, ◌∙◌, sym}
use Rattle.tile_key.specs.Places.{Place}
use Rattle.kit_trait.specs.Pictures.{Colour, white, rgba, row, rows, x_at, y_at}
use Rattle.kit_trait.specs.Patch.{colour_of, shade, grey, is_inside, square_at}

grey_bytes : (b : Bool) (c : ℕ) → rgba (if b then grey c else white) ≡ (if b then c else 255) ∷ (if b then c else 255) ∷ (if b then c else 255) ∷ 255 ∷ []
grey_bytes true c = refl
grey_bytes false c = refl

pub row_pushed : (squares : List ℕ) (p : Place) (j i x y s : ℕ) (start old new : List ℕ) → old ≡ start ++ row (colour_of squares) p j i → x ≡ x_at p i → y ≡ y_at p j → s ≡ shade squares p.part x y → new ≡ old ++ s ∷ s ∷ s ∷ 255 ∷ [] → new ≡ start ++ row (colour_of squares) p j (i + 1)
row_pushed squares p j i x y s start old new was xs ys shades now =
    rw (add-one, now, was, shades, xs, ys, append_assoc) (ap (λ t. start ++ (row (colour_of squares) p j i ++ t)) (sym (grey_bytes (nat_eq p.part 0 && is_inside (x_at p i) (y_at p j)) (slice_index squares (square_at (x_at p i) (y_at p j))))))

pub rows_pushed : (squares : List ℕ) (p : Place) (j : ℕ) (old new : List ℕ) → old ≡ rows (colour_of squares) p j → new ≡ old ++ row (colour_of squares) p j p.width → new ≡ rows (colour_of squares) p (j + 1)
rows_pushed squares p j old new was now = rw (add-one, now, was) refl

pub ruleset pushed = (row_pushed, rows_pushed)
