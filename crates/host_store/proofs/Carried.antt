-- What comes of a wire that gives what was sent over it.
use Rattle.std.proofs.Common.{◌≡◌, ◌∙◌, ℕ, Bool, true, false, ◌||◌, List, [], ◌++◌, length}
use Rattle.std.proofs.Common.{take}
use Rattle.std.proofs.Common.{drop, Some, Ok, refl, sym, ap, subst, append-nil, arith}
use Rattle.std.proofs.lemmas.List.{drop_all}
use Rattle.std.proofs.lemmas.List.{take-append-drop}
use Rattle.http_message.specs.declared.Response.{Response}
use Rattle.outside.specs.Wires.{Talk, silence, with_sent, with_received, Says, Hears}
use Rattle.http_wire.specs.Messages.{ReadsMessage}
use Rattle.http_wire.specs.Kinds.{responses}
use Rattle.http_again.specs.Given.{IsGiven, GivesFront}
use Rattle.host_store.specs.Loops.{IsLoop}
use Rattle.host_store.specs.Exchanges.{IsReadOf}

same_some : {A : Type 0} (x y : A) → Some x ≡ Some y → x ≡ y
same_some x y h = cc

or_last : (b : Bool) → b ≡ true → (b || false) ≡ true
or_last true e = refl
or_last false e = e

-- What a front of the bytes is followed by is the rest of them.
pub is_front : (bytes : List ℕ) (given : ℕ) (ended : Bool) → (ended ≡ true → given ≡ length bytes)
    → IsLoop (record { sent = bytes; received = take given bytes; ended = ended })
is_front bytes given ended at_end = (
  drop given bytes,
  take-append-drop given bytes,
  λ e. drop_all given bytes (let n : given ≡ length bytes = at_end e in omega arith),
)

-- The bytes were sent over a wire over which nothing was said.
pub sent_of : (bytes : List ℕ) (old new : Talk) → old ≡ silence → Says (Some old) bytes (Some new)
    → new ≡ with_sent bytes silence
sent_of bytes old new is_old says = same_some new (with_sent bytes old) says
    ∙ ap (with_sent bytes) is_old

-- What is then received of it is a front of them.
heard_of : (whole bytes : List ℕ) (ended : Bool) (old new : Talk) → old ≡ with_sent whole silence
    → Hears (Some old) bytes ended (Some new)
    → new ≡ with_received bytes ended (with_sent whole silence)
heard_of whole bytes ended old new is_old hears =
    same_some new (with_received bytes ended old) hears ∙ ap (with_received bytes ended) is_old

given_here : (whole bytes : List ℕ) (ended : Bool)
    → IsLoop (with_received bytes ended (with_sent whole silence)) → IsGiven whole bytes ended
given_here whole bytes ended loop = (loop.0, loop.1, λ e. loop.2 (or_last ended e))

front_here : (whole bytes : List ℕ) (ended : Bool)
    → IsLoop (with_received bytes ended (with_sent whole silence))
    → GivesFront (whole ++ []) (with_sent whole silence)
    (with_received bytes ended (with_sent whole silence))
front_here whole bytes ended loop = (bytes, loop.0, refl, loop.1 ∙ sym (append-nil whole), loop.2)

-- A response is what a reader reads of the bytes that were sent.
pub read_of : (whole : List ℕ) (old new : Talk) (heard : Response) → old ≡ with_sent whole silence
    → IsLoop new → ReadsMessage responses (Some old) (Some new) (Ok heard) → IsReadOf whole heard
read_of whole old new heard is_old loop reads = (
  reads.0,
  reads.1,
  given_here whole reads.0 reads.1
      (subst IsLoop (heard_of whole reads.0 reads.1 old new is_old reads.2) loop),
  reads.3,
)

-- A front of the bytes that were sent was given, whatever was heard.
pub front_of : (whole bytes : List ℕ) (ended : Bool) (old new : Talk)
    → old ≡ with_sent whole silence
    → IsLoop new → Hears (Some old) bytes ended (Some new) → GivesFront (whole ++ []) old new
front_of whole bytes ended old new is_old loop hears =
    let same : new ≡ with_received bytes ended
    (with_sent whole silence) = heard_of whole bytes ended old new is_old hears in
    subst (λ (t : Talk). GivesFront (whole ++ []) t new) (sym is_old)
    (subst (λ (t : Talk). GivesFront (whole ++ []) (with_sent whole silence) t) (sym same)
    (front_here whole bytes ended (subst IsLoop same loop)))
