-- A keeper that was not asked has the same files.
use Rattle.std.proofs.Common.{ℕ, List, Option, Some, None, refl}
use Rattle.wopi_host.specs.Keepers.{Files, Holdings, IsIn, IsKept, SameFiles, SameHoldings}

pub same_files : (files : Option Files) → SameFiles files files
unfolding SameFiles
same_files None = tt
same_files (Some files) = λ id. refl

pub same_holdings : (h : Holdings) → SameHoldings h h
same_holdings h = record { files = same_files h.files; accepted = refl }

-- each file has some content or none
some_in : (files : Option Files) (file : List ℕ) → (content : Option (List ℕ)) × IsIn files file content
unfolding IsIn
some_in None file = (None, tt)
some_in (Some files) file = (files file, refl)

pub some_kept : (h : Holdings) (file : List ℕ) → (content : Option (List ℕ)) × IsKept h file content
some_kept h file = some_in h.files file
