use Rattle.std.proofs.Common.{subst}
use Rattle.host_store.specs.Loops.{LoopSeen, IsLoop}
use Rattle.host_store.proofs.Carried.{is_front}
use Rattle.host_store.proofs.loops.LoopWire.is_loop.Goals as goal

pub returns-clause-front : goal.returns-clause-front
returns-clause-front c =
    subst (λ (w : LoopSeen). IsLoop w.talk) c.self.view_is
    (is_front c.self.inside.bytes.items c.self.inside.given c.self.inside.ended c.self.invariant.3)
