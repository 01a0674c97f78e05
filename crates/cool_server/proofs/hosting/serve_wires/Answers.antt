use Rattle.std.proofs.Common.{◌≡◌, ◌-◌, ◌∙◌, refl, arith}
use Rattle.cool_server.proofs.Runs.{so_far_none, so_far_more, so_far_all, so_far_failed}
use Rattle.cool_server.proofs.hosting.serve_wires.Goals as goal

pub loop-init : goal.loop-init
loop-init g c = record { so_far = so_far_none _ _ _; faults = refl; can_next = tt; is_finite = tt }

pub returns-in-Err-clause-served : goal.returns-in-Err-clause-served
returns-in-Err-clause-served g c =
    rw c.status_of.ensures
    (so_far_failed c.args.requests c.loop.left (g.E.Edge.told c.args.edge.now) (g.E.Edge.told c.loop.edge) (g.E.Edge.told c.serve_next.new.edge) _ _ _ c.in-Err.fault
    c.loop.invariant.so_far c.in-Err.ensures.served)

pub returns-then-left-eq0-clause-served : goal.returns-then-left-eq0-clause-served
returns-then-left-eq0-clause-served g c =
    let before = c.loop.invariant.so_far.count c.if-requests-gt0.true in
    let last : c.loop.left ≡ 1 = omega (arith, before.1) in
    so_far_all c.args.requests c.loop.left (g.E.Edge.told c.args.edge.now) (g.E.Edge.told c.loop.edge) (g.E.Edge.told c.serve_next.new.edge) _ _ _ c.in-Ok.field-0
    c.loop.invariant.so_far c.in-Ok.ensures.served c.if-requests-gt0.true last

pub loop-preserved-else-left-eq0 : goal.loop-preserved-else-left-eq0
loop-preserved-else-left-eq0 g c =
    let before = c.loop.invariant.so_far.count c.if-requests-gt0.true in
    record {
      so_far = so_far_more c.args.requests c.loop.left (c.loop.left - 1) (g.E.Edge.told c.args.edge.now) (g.E.Edge.told c.loop.edge) (g.E.Edge.told c.serve_next.new.edge) _ _ _ c.in-Ok.field-0
          c.loop.invariant.so_far c.in-Ok.ensures.served (λ some. (omega (arith, before.1), omega (arith, before.1)));
      faults = c.in-Ok.ensures.cause.kept (λ is. cc) ∙ c.loop.invariant.faults;
      can_next = tt;
      is_finite = tt;
    }

pub loop-preserved : goal.loop-preserved
loop-preserved g c = record {
  so_far = so_far_more c.args.requests c.loop.left c.loop.left (g.E.Edge.told c.args.edge.now) (g.E.Edge.told c.loop.edge) (g.E.Edge.told c.serve_next.new.edge) _ _ _ c.in-Ok.field-0
      c.loop.invariant.so_far c.in-Ok.ensures.served (λ some. absurd (omega arith));
  faults = c.in-Ok.ensures.cause.kept (λ is. cc) ∙ c.loop.invariant.faults;
  can_next = tt;
  is_finite = tt;
}
