use Rattle.std.proofs.Common.{rules, ◌≡◌, IsTrue, true, false, refl, sym, ◌∙◌}
use Rattle.paint_yard.proofs.Doing.{put_refused, put_answered}
use Rattle.paint_yard.proofs.working.answered.Goals as goal

-- src/working.rt:37:17
pub returns-then-lacked_memory : goal.returns-then-lacked_memory
returns-then-lacked_memory g c =
    put_refused c.args.work c.in-Put.errand (g.H.Store.calls c.args.store.now) (g.H.Store.calls c.put-result.new.self) c.put-result.result c.in-Put.is c.put-result.ensures.told (c.lacked_memory.ensures.0 c.if-lacked_memory.true)

-- src/working.rt:25:1
pub returns-else-lacked_memory : goal.returns-else-lacked_memory
returns-else-lacked_memory g c =
    put_answered (λ d. d.ticket) (λ d. d.scene) c.args.work c.in-Put.errand (g.H.Store.calls c.args.store.now) (g.H.Store.calls c.put-result.new.self) c.put-result.result c.in-Put.is c.put-result.ensures.told (λ e. let odd : true ≡ false = sym (c.lacked_memory.ensures.1 e) ∙ c.if-lacked_memory.false in absurd (cc))
