use Rattle.std.proofs.Common.{ap, ◌≡◌, ◌-◌, ◌∙◌, ℕ, List, take, drop, length, arith, ◌≤◌, rules, refl, sym}
use Rattle.std.proofs.lemmas.Grind.{common_steps}
use Rattle.std.proofs.lemmas.List.{take_all, length-drop}
use Rattle.outside.specs.Wires.{Held}
use Rattle.outside.proofs.Talks.{next_received}
use Rattle.outside.proofs.wires.MemoryWireWire.receive.Goals as goal

-- a slice to the end is all that is left
to_the_end : (incoming lent : List ℕ) (given : ℕ) → lent ≡ incoming → take (length lent - given) (drop given lent) ≡ drop given incoming
to_the_end incoming lent given is =
    take_all (length lent - given) (drop given lent) (omega (arith, length-drop given lent)) ∙ ap (λ xs. drop given xs) is

pub returns-clause-receives : goal.returns-clause-receives
returns-clause-receives c =
    let front : take c.hand_over-count.result c.hand_over-count.new.into ≡ take c.hand_over-count.result (drop c.self.inside.given c.self.inside.incoming.items)
    = c.hand_over-count.ensures.front ∙ ap (λ xs. take c.hand_over-count.result xs) (to_the_end c.self.inside.incoming.items _ c.self.inside.given c.deref.ensures.value) in (
      c.hand_over-count.ensures.some,
      c.hand_over-count.ensures.within,
      next_received c.self.inside.sent.items c.self.inside.incoming.items c.hand_over-count.new.into c.self.inside.given c.hand_over-count.result c.self.inside.ended c.args.self.now.talk
          (ap (λ (h : Held). h.talk) c.self.view_is) front,
    )
