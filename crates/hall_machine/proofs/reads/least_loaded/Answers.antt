use Rattle.std.proofs.Common.{◌≡◌, subst, arith}
use Rattle.hall_machine.specs.Machine.{IsLeast}
use Rattle.hall_machine.specs.States.{sights}
use Rattle.hall_machine.proofs.Owners.{still_least, now_least}
use Rattle.hall_machine.proofs.reads.least_loaded.Goals as goal
use Rattle.hall_machine.proofs.reads.least_loaded.Goals.{then-load-least, else-load-least}

pub loop-p-preserved : goal.loop-p-preserved
loop-p-preserved g c =
    let h = c.loop-p.invariant in
    let is = c.load_of-load.ensures in
    elim c.if-load-least.branch [
      | then-load-least w ↦ rw (w.best-is, w.least-is)
          (record {
            best = now_least _ _ _ h.best
                (omega (arith, is, h.least, w.if-load-least.true));
            least = is;
          })
      | else-load-least w ↦ rw (w.best-is, w.least-is)
          (record {
            best = still_least _ _ _ h.best
                (omega (arith, is, h.least, w.if-load-least.false));
            least = h.least;
          })
    ]

pub returns : goal.returns
returns g c =
    let end : c.loop-p.p ≡ c.args.polls = omega arith in
    subst (λ n. IsLeast n
    (sights g.M.Labelled.tag c.args.opens.now) c.loop-p.best) end c.loop-p.invariant.best
