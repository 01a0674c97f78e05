-- Paths that don't begin with those of files.
use Rattle.std.proofs.Common.{◌≡◌, ℕ, List, drop, codes, None, false, ap, sym, cond}
use Rattle.std.specs.Str.Pattern.{LacksTextAt}
use Rattle.std.proofs.lemmas.Str.Pattern.{starts_text}
use Rattle.cool_base.specs.Words.{file_id}
use Rattle.load_address.specs.Addresses.{file_at}

-- a path that doesn't begin so names no file
pub elsewhere : (path : List ℕ) → LacksTextAt (codes "/wopi/files/") path 0 → file_at path ≡ None
elsewhere path lacks =
    ap (λ test. cond test (file_id (drop 12 path)) None)
    (sym (starts_text false (codes "/wopi/files/") path lacks))
