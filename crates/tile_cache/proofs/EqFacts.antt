-- The test of keys that the library uses is ours.
use Rattle.std.proofs.Common.{◌≡◌, arith}
use Rattle.std.proofs.lemmas.Bool.Decides.{nat_tests}
use Rattle.tile_key.specs.Places.{Place, same_place}
use Rattle.tile_key.specs.contracts.keys.TileKeyPartialEq.TheImpl.{eq-value}

pub eq_same : (p q : Place) → eq-value.it p q ≡ same_place p q
eq_same p q = grind (arith, nat_tests)

pub eq_key : (p : Place) → eq-value.it p ≡ same_place p
eq_key p = λ i q. eq_same p q i

pub eq_keys : eq-value.it ≡ same_place
eq_keys = λ i p q. eq_same p q i
