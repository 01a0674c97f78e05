-- Reads and writes one after the other, and lines that grow.
use Rattle.std.proofs.Common.{◌≡◌, ◌≢◌, ℕ, ◌+◌, ◌-◌, ◌<◌, ◌≤◌, List, [], ◌∷◌, ◌++◌, length, length-append, length-drop, take, drop, get_or, refl, ap, sym, append_assoc, arith, Option, None, Some}
use Rattle.std.proofs.lemmas.List.{append-nil, take_all, take-append-drop, length-take-le}
use Rattle.std.proofs.Math.Seq.{take-append-add}
use Rattle.outside.specs.Streams.{Takes, Adds}
use Rattle.script_lines.specs.Lines.{IsUnbroken}

pub takes_more : (old mid new : Option (List ℕ)) (a b : List ℕ) → Takes old a mid → Takes mid b new → Takes old (a ++ b) new
takes_more old mid None a b first later = let e : mid ≡ None = later in rw e at first
takes_more old mid (Some rest) a b first later = let e : mid ≡ Some (b ++ rest) = later in let f : old ≡ Some (a ++ (b ++ rest)) = rw e at first in rw append_assoc f

pub adds_more : (old mid new : Option (List ℕ)) (a b : List ℕ) → Adds old a mid → Adds mid b new → Adds old (a ++ b) new
adds_more None mid new a b first later = let e : mid ≡ None = first in rw e at later
adds_more (Some before) mid new a b first later = let e : mid ≡ Some (before ++ a) = first in let f : new ≡ Some ((before ++ a) ++ b) = rw e at later in rw (← append_assoc) f

pub takes_nothing : (old : Option (List ℕ)) → Takes old [] old
takes_nothing None = refl
takes_nothing (Some rest) = refl

pub adds_nothing : (old : Option (List ℕ)) → Adds old [] old
adds_nothing None = refl
adds_nothing (Some before) = ap (λ (b : List ℕ). Some b) (sym (append-nil before))

pub unbroken_more : (bytes : List ℕ) (c : ℕ) → IsUnbroken bytes → c ≢ 10 → IsUnbroken (bytes ++ c ∷ [])
unbroken_more [] c all one = (one, all)
unbroken_more (b ∷ bytes) c all one = (all.0, unbroken_more bytes c all.1 one)

-- all but the first n bytes, as a slice of the rest
all_behind : (bytes : List ℕ) (n : ℕ) → take (length bytes - n) (drop n bytes) ≡ drop n bytes
all_behind bytes n = take_all (length bytes - n) (drop n bytes) (rw (length-drop n bytes) (omega arith))

-- the first n bytes and as many more
pub take_on : (bytes : List ℕ) (n m : ℕ) → n ≤ length bytes → take (n + m) bytes ≡ take n bytes ++ take m (drop n bytes)
take_on bytes n m within =
    let h = take-append-add (take n bytes) (drop n bytes) m in
    let l : length (take n bytes) ≡ n = length-take-le n bytes within in
    rw (l, take-append-drop n bytes) at h

pub within_further : (bytes : List ℕ) (n m : ℕ) → n ≤ length bytes → m ≤ length (take (length bytes - n) (drop n bytes)) → n + m ≤ length bytes
within_further bytes n m within more = let h : m ≤ length (drop n bytes) = rw (all_behind bytes n) at more in omega (arith, h, length-drop n bytes)

pub adds_further : (old mid new : Option (List ℕ)) (bytes : List ℕ) (n m : ℕ) → n ≤ length bytes → Adds old (take n bytes) mid → Adds mid (take m (take (length bytes - n) (drop n bytes))) new → Adds old (take (n + m) bytes) new
adds_further old mid new bytes n m within first later =
    let h : Adds mid (take m (drop n bytes)) new = rw (all_behind bytes n) at later in
    rw (take_on bytes n m within) (adds_more old mid new (take n bytes) (take m (drop n bytes)) first h)

one_byte : (into : List ℕ) (count : ℕ) → 0 < count → count ≤ length into → length into ≡ 1 → take count into ≡ get_or into 0 0 ∷ []
one_byte [] count some within one = absurd (omega (arith, some, within))
one_byte (b ∷ []) count some within one = let e : count ≡ 1 = omega (arith, within) in rw e refl
one_byte (b ∷ c ∷ rest) count some within one = absurd (omega (arith, one))

-- a line of 70,000 bytes and one more that is no newline
pub too_long : (old mid new : Option (List ℕ)) (line into : List ℕ) (count room whole : ℕ)
    → Takes old line mid → Takes mid (take count into) new → 0 < count → count ≤ length into → length into ≡ 1
    → (get_or into 0 0 ≡ 10 → ⊥) → IsUnbroken line → length line ≡ 70000 → 0 < room → room + length line ≡ whole
    → (x : List ℕ) × Takes old x new × (room - 1 + length x ≡ whole) × (IsUnbroken x × (length x ≡ 70001))
too_long old mid new line into count room whole first later some within one not unbroken long left used =
    let byte : Takes mid (get_or into 0 0 ∷ []) new = rw (one_byte into count some within one) at later in
    let l : length (line ++ get_or into 0 0 ∷ []) ≡ length line + 1 = length-append line (get_or into 0 0 ∷ []) in (
      line ++ get_or into 0 0 ∷ [],
      takes_more old mid new line (get_or into 0 0 ∷ []) first byte,
      omega (arith, l),
      (unbroken_more line (get_or into 0 0) unbroken not, omega (arith, l)),
    )

pub ruleset moves = (takes_more, adds_more, takes_nothing, adds_nothing, unbroken_more)
