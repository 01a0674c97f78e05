-- What a request's target names: a file or its contents, and the token of its query.
use Rattle.std.specs.Prelude.{ℕ, ◌+◌, ◌-◌, unwrap_or, position, Bool, true, false, ◌&&◌, ◌==◌, List, [], ◌∷◌, length, drop, take, Option, Some, None, if◌then◌else◌, codes, nat_eq, bytes_eq}
use Rattle.std.specs.List.{starts_with, ends_with}
use Rattle.wopi_host.specs.declared.targets.Resource.{Resource}
use Rattle.wopi_host.specs.declared.targets.Resource.TheVariants as Resources
use Rattle.cool_base.specs.Words.{file_id}

-- where the byte stands first, or the length where it doesn't
abbrev pub first_at : ℕ → List ℕ → ℕ
first_at wanted bytes = unwrap_or (position (λ b. b == wanted) bytes) (length bytes)

-- the target up to its first `?`
abbrev pub path_of : List ℕ → List ℕ
path_of target = take (first_at 63 target) target

-- the target behind its first `?`
abbrev pub query_of : List ℕ → List ℕ
query_of target = drop (first_at 63 target + 1) target

-- a word up to the next `&`
abbrev pub word_of : List ℕ → List ℕ
word_of bytes = take (first_at 38 bytes) bytes

-- what a path names
pub data Named : Type 0 where
  Nothing : Named
  TheFile : (file : List ℕ) → Named
  TheContents : (file : List ℕ) → Named

-- a file's contents, where there is a file
abbrev pub contents_of : Option (List ℕ) → Named
contents_of None = Nothing
contents_of (Some file) = TheContents file

-- a file, or else this
abbrev pub file_or : Option (List ℕ) → Named → Named
file_or None otherwise = otherwise
file_or (Some file) otherwise = TheFile file

-- a file id and `/contents`
unfoldable pub contents_by : List ℕ → Named
contents_by rest =
    if ends_with nat_eq rest (codes "/contents") then contents_of (file_id (take (length rest - 9) rest)) else Nothing

-- what stands behind `/wopi/files/`: a file id, or a file id and `/contents`
abbrev pub named_by : List ℕ → Named
named_by rest = file_or (file_id rest) (contents_by rest)

-- what the path names
unfoldable pub named_at : List ℕ → Named
named_at path =
    if starts_with nat_eq path (codes "/wopi/files/") then named_by (drop 12 path) else Nothing

-- the value of the first word that begins with `access_token=`, where the flag says that a word begins here
unfoldable pub token_from : Bool → List ℕ → Option (List ℕ)
token_from begins [] = None
token_from begins (b ∷ bytes) =
    if begins && starts_with nat_eq (b ∷ bytes) (codes "access_token=")
    then Some (word_of (drop 13 (b ∷ bytes)))
    else token_from (b == 38) bytes

-- whether a token may write; None for a token that the host doesn't know
abbrev pub right_of : Option (List ℕ) → Option Bool
right_of None = None
right_of (Some token) =
    if bytes_eq token (codes "t-rw") then Some true
    else (if bytes_eq token (codes "t-ro") then Some false else None)

-- the right that the target's token gives
abbrev pub target_right : List ℕ → Option Bool
target_right target = right_of (token_from true (query_of target))

-- what the code's resource says
abbrev pub named_view : Resource → Named
named_view Resources.Nothing = Nothing
named_view (Resources.File file) = TheFile file
named_view (Resources.Contents file) = TheContents file
