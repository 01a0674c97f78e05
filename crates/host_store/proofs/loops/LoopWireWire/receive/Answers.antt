use Rattle.std.proofs.Common.{ap, ◌≡◌, ◌-◌, ◌∙◌, ℕ, List, take, drop, length, arith}
use Rattle.std.proofs.lemmas.List.{take_all, length-drop}
use Rattle.outside.proofs.Talks.{next_received}
use Rattle.host_store.specs.Loops.{LoopSeen}
use Rattle.host_store.proofs.loops.LoopWireWire.receive.Goals as goal

-- a slice to the end is all that is left
to_the_end : (bytes lent : List ℕ) (given : ℕ) → lent ≡ bytes
    → take (length lent - given) (drop given lent) ≡ drop given bytes
to_the_end bytes lent given is =
    take_all (length lent - given) (drop given lent) (omega (arith, length-drop given lent))
    ∙ ap (λ xs. drop given xs) is

pub returns-clause-receives : goal.returns-clause-receives
returns-clause-receives c =
    let bytes : List ℕ = c.self.inside.bytes.items in
    let front : take c.hand_over-count.result c.hand_over-count.new.into
    ≡ take c.hand_over-count.result (drop c.self.inside.given bytes)
    = c.hand_over-count.ensures.front
    ∙ ap (λ xs. take c.hand_over-count.result xs)
    (to_the_end bytes _ c.self.inside.given c.deref.ensures.value) in (
      c.hand_over-count.ensures.some,
      c.hand_over-count.ensures.within,
      next_received bytes bytes c.hand_over-count.new.into c.self.inside.given
          c.hand_over-count.result c.self.inside.ended c.args.self.now.talk
          (ap (λ (h : LoopSeen). h.talk) c.self.view_is) front,
    )
