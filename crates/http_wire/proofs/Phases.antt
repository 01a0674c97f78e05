-- The phase of a head follows the bytes that are received.
use Rattle.std.proofs.Common.{ℕ, ◌≡◌, ◌≤◌, List, [], ◌++◌, length, take, sym, ap, ◌∙◌, subst, append_assoc, append-nil}
use Rattle.std.proofs.lemmas.List.{take-append-le}
use Rattle.http_head.specs.declared.phases.HeadPhase.{HeadPhase}
use Rattle.http_head.specs.Phases.{Ends, Leads, IsOpen, Opens}
use Rattle.http_wire.specs.Messages.{Kind}
use Rattle.http_wire.specs.Following.{Follows}

-- before all bytes
pub follows_none : {P M : Type 0} (k : Kind P M) (bytes : List ℕ) (first : HeadPhase)
    → Opens k.begins first → bytes ≡ [] → Follows k bytes first
follows_none k bytes first opens none =
    subst (λ xs. Follows k xs first) (sym none) (record { begun = opens.begun })

-- one way and then the other
onward : (first next there : HeadPhase) (piece more : List ℕ) → Leads first piece next
    → Leads next more there → Leads first (piece ++ more) there
onward first next there piece more one other = record {
  ends = λ text ends.
      subst (Ends first) (sym (append_assoc piece more text))
      (one.ends (more ++ text) (other.ends text ends));
}

-- behind more bytes
pub follows_more : {P M : Type 0} (k : Kind P M) (bytes piece all : List ℕ) (phase next : HeadPhase)
    → Follows k bytes phase → Leads phase piece next → all ≡ bytes ++ piece → Follows k all next
follows_more k bytes piece all phase next follows leads is =
    subst (λ xs. Follows k xs next) (sym is) (record {
      begun = λ more last other is_open.
          subst k.begins (sym (append_assoc bytes piece more))
          (follows.begun (piece ++ more) last (onward phase next last piece more leads other)
          is_open);
    })

-- what a receive gave lies at the front of the room for it
pub piece_is : (bytes into rest all : List ℕ) (count : ℕ) → count ≤ length into
    → all ≡ bytes ++ take count (into ++ rest) → all ≡ bytes ++ take count into
piece_is bytes into rest all count within is =
    is ∙ ap (λ t. bytes ++ t) (take-append-le count into rest within)

pub piece_leads : (into rest : List ℕ) (count : ℕ) (phase next : HeadPhase) → count ≤ length into
    → Leads phase (take count (into ++ rest)) next → Leads phase (take count into) next
piece_leads into rest count phase next within leads =
    subst (λ t. Leads phase t next) (take-append-le count into rest within) leads

-- at an open phase the bytes begin a head
pub begun_there : {P M : Type 0} (k : Kind P M) (bytes : List ℕ) (phase : HeadPhase)
    → Follows k bytes phase → IsOpen phase → k.begins bytes
begun_there k bytes phase follows is_open =
    subst k.begins (append-nil bytes)
    (follows.begun [] phase (record { ends = λ text ends. ends }) is_open)
