-- What a host tells of a file and a token, as JSON.
use Rattle.std.specs.Prelude.{ℕ, ◌^◌, Bool, false, ◌&&◌, nat_lt, List, Option, Some, None, option_and_then, is_some, if◌then◌else◌, codes}
use Rattle.serde_json.specs.Data.{Data, number, unsigned, string, boolean, object, member, no_members}
use Rattle.serde_json.specs.Find.{get, as_str, as_bool, as_number, as_u64}
use Rattle.serde_json.specs.Written.{compact_text}
use Rattle.outside.specs.declared.errands.Admission.{Admission}

-- the object that the host writes
abbrev pub info_data : List ℕ → ℕ → Bool → List ℕ → List ℕ → Data
info_data file size can_write user version =
    object (member (codes "BaseFileName") (string file)
    (member (codes "OwnerId") (string (codes "owner"))
    (member (codes "Size") (number (unsigned size))
    (member (codes "UserCanWrite") (boolean can_write)
    (member (codes "UserId") (string user)
    (member (codes "Version") (string version) no_members))))))

-- its bytes, compactly, with the members in order of their names
unfoldable pub info_text : List ℕ → ℕ → Bool → List ℕ → List ℕ → List ℕ
info_text file size can_write user version = compact_text (info_data file size can_write user version)

-- the text of a member
abbrev pub text_of : List ℕ → Data → Option (List ℕ)
text_of name d = option_and_then as_str (get name d)

-- a size is a whole number below 2^63
abbrev pub small : ℕ → Option ℕ
small n = if nat_lt n (2 ^ 63) then Some n else None

-- the size that the object tells
abbrev pub size_in : Data → Option ℕ
size_in d = option_and_then small (option_and_then as_u64 (option_and_then as_number (get (codes "Size") d)))

-- a truth value; a missing one is false
abbrev pub right_in : Option Data → Option Bool
right_in None = Some false
right_in (Some d) = as_bool d

-- the members that are texts and not used are there
abbrev pub has_names : Data → Bool
has_names d = is_some (text_of (codes "BaseFileName") d) && (is_some (text_of (codes "OwnerId") d) && is_some (text_of (codes "Version") d))

-- the parts, where each is there
abbrev pub joined : Option (List ℕ) → Option ℕ → Option Bool → Option Admission
joined (Some user) (Some size) (Some can_write) = Some (record { can_write = can_write; user = user; size = size })
joined (Some user) (Some size) None = None
joined (Some user) None right = None
joined None size right = None

-- what the object tells of the token
unfoldable pub admitted : Data → Option Admission
admitted d =
    if has_names d then joined (text_of (codes "UserId") d) (size_in d) (right_in (get (codes "UserCanWrite") d)) else None
