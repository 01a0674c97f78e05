-- What a keeper tells: its files with their contents.
use Rattle.std.specs.Prelude.{ℕ, ◌≡◌, ◌+◌, ◌-◌, ◌^◌, min, Bool, true, false, List, Option, Some, None, Result, Ok, Err, if◌then◌else◌, bytes_eq}
use Rattle.wopi_host.specs.declared.keepers.KeeperFault.{KeeperFault}
use Rattle.wopi_host.specs.declared.keepers.KeeperFault.TheVariants.{Failed, Memory}

-- the content of each file, by its id
abbrev pub Files : Type 0
Files = List ℕ → Option (List ℕ)

-- what a keeper holds: its files, where it tells them, and how many keeps it accepted
pub record Holdings : Type 0 where
  pub files : Option Files
  pub accepted : ℕ

-- one keep more; at 2^64 - 1 the count stands still
abbrev pub one_more : ℕ → ℕ
one_more count = min (count + 1) (2 ^ 64 - 1)

-- where the files are told, this is the file's content
unfoldable pub IsIn : Option Files → List ℕ → Option (List ℕ) → Type 0
IsIn None file content = Unit {0}
IsIn (Some files) file content = files file ≡ content

-- where the files are told, this one has the content now and all others have theirs
unfoldable pub Puts : Option Files → List ℕ → List ℕ → Option Files → Type 0
Puts None file content None = Unit {0}
Puts None file content (Some files) = ⊥
Puts (Some old) file content None = ⊥
Puts (Some old) file content (Some new) = (id : List ℕ) → new id ≡ (if bytes_eq id file then Some content else old id)

-- where the files are told, each has the content that it had
unfoldable pub SameFiles : Option Files → Option Files → Type 0
SameFiles None None = Unit {0}
SameFiles None (Some files) = ⊥
SameFiles (Some old) None = ⊥
SameFiles (Some old) (Some new) = (id : List ℕ) → new id ≡ old id

-- this is the file's content, where the files are told
abbrev pub IsKept : Holdings → List ℕ → Option (List ℕ) → Type 0
IsKept held file content = IsIn held.files file content

-- one keep was accepted, which gave this file this content, and all others have theirs
pub record Keeps (old : Holdings) (file content : List ℕ) (new : Holdings) : Type 0 where
  pub files : Puts old.files file content new.files
  pub accepted : new.accepted ≡ one_more old.accepted

-- no keep was accepted, and each file has the content that it had
pub record SameHoldings (old new : Holdings) : Type 0 where
  pub files : SameFiles old.files new.files
  pub accepted : new.accepted ≡ old.accepted

-- the keeper failed
abbrev pub keeper_failed : {A : Type 0} → Result A KeeperFault → Bool
keeper_failed (Ok a) = false
keeper_failed (Err Failed) = true
keeper_failed (Err Memory) = false
