-- What a final save leaves of the token and the room.
use Rattle.std.proofs.Common.{ℕ, ◌≡◌, true, false, List, Option, Some, None, is_some, refl}
use Rattle.save_core.specs.Saving.{Saving, final_with}

pub keeps_token : (mark : ℕ) (o : Option (List ℕ)) (s : Saving)
    → is_some (final_with mark o s).last_token ≡ is_some s.last_token
keeps_token mark None s = refl
keeps_token mark (Some token) s = refl

pub uses_room : (mark : ℕ) (o : Option (List ℕ)) (s : Saving) → is_some o ≡ true
    → (final_with mark o s).has_room ≡ false
uses_room mark None s h = absurd (cc)
uses_room mark (Some token) s h = refl
