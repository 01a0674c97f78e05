-- What may be asked.
use Rattle.std.specs.Prelude.{ℕ, ◌≡◌, ◌≤◌, true, List, length}
use Rattle.cool_base.specs.Words.{is_file_id, is_token}
use Rattle.wire_body.specs.declared.states.TheConstants.{BODY_LIMIT}
use Rattle.wopi_client.specs.declared.asks.Ask.{Ask}
use Rattle.wopi_client.specs.declared.asks.Ask.TheVariants as Asks

-- It names a file by an id and has a token.
abbrev pub IsNamed : List ℕ → List ℕ → Type 0
IsNamed file token = (is_file_id file ≡ true) × (is_token token ≡ true)

-- The same of an ask; a content has at most as many bytes as a body.
abbrev pub IsSound : Ask → Type 0
IsSound (Asks.Check file token) = IsNamed file token
IsSound (Asks.Get file token) = IsNamed file token
IsSound (Asks.Lock file token) = IsNamed file token
IsSound (Asks.Refresh file token) = IsNamed file token
IsSound (Asks.Unlock file token) = IsNamed file token
IsSound (Asks.Put file token content) = IsNamed file token × (length content ≤ BODY_LIMIT)
