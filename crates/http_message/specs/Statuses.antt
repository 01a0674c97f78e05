-- Which statuses have a body.
use Rattle.std.specs.Prelude.{ℕ, ◌≡◌, ◌≤◌, Bool, true, ◌&&◌, ◌||◌, nat_le, ◌==◌, List, []}
use Rattle.http_message.specs.declared.Response.{Response}

-- A status from 100 to 199, 204 or 304 has no body.
abbrev pub is_bodiless : ℕ → Bool
is_bodiless status = (nat_le 100 status && nat_le status 199) || (status == 204 || status == 304)

-- The response has a body only where its status has one.
abbrev pub HasDueBody : Response → Type 0
HasDueBody r = is_bodiless r.status ≡ true → r.body ≡ []
