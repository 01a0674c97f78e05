use Rattle.cool_server.proofs.Runs.{next_served, next_out}
use Rattle.cool_server.proofs.hosting.serve_next.Goals as goal

pub returns-in-Ok-served-clause-served : goal.returns-in-Ok-served-clause-served
returns-in-Ok-served-clause-served g c =
    next_served (g.E.Edge.told c.args.edge.now) (g.E.Edge.told c.accept.new.self) (g.E.Edge.told c.close_wire.new.self) _ _ _ c.in-Ok-served.field-0
    c.in-Ok.ensures.told c.close_wire.ensures.told c.in-Ok-served.ensures.served

pub returns-in-Err-served-clause-served : goal.returns-in-Err-served-clause-served
returns-in-Err-served-clause-served g c =
    next_out (g.E.Edge.told c.args.edge.now) (g.E.Edge.told c.accept.new.self) (g.E.Edge.told c.close_wire.new.self) _ _ _
    c.in-Ok.ensures.told c.close_wire.ensures.told c.in-Err-served.ensures.served
