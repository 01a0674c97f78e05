-- The first of some words.
use Rattle.std.proofs.Common.{◌≡◌, ◌∙◌, ◌↔◌, ℕ, ◌≤◌, Bool, IsTrue, List, [], ◌∷◌, length, map, get_or, ap, sym, arith, codes}
use Rattle.std.specs.Str.{bytes_eq}
use Rattle.std.proofs.lemmas.Slice.Eq.{bytes_eq-Decides}
use Rattle.coolwsd.specs.Hosts.{IsHost}

-- what comparing the first word tells
pub first_word : {A : Type 0} (f : A → List ℕ) (words : List A) (word : A) (text : List ℕ) (told : Bool) → 1 ≤ length words → word ≡ get_or words 0 word
    → text ≡ f word → told ≡ bytes_eq text (codes "host") → IsTrue told ↔ IsHost (map f words)
first_word f [] word text told some at is compared = absurd (omega (arith, some))
first_word f (first ∷ rest) word text told some at is compared =
    let e : word ≡ first = at in (
      λ yes. ap f (sym e) ∙ sym is ∙ (bytes_eq-Decides text (codes "host")).0 (sym compared ∙ yes),
      λ host. compared ∙ (bytes_eq-Decides text (codes "host")).1 (is ∙ ap f e ∙ host),
    )
