use Rattle.std.proofs.Common.{refl, sym, ◌∙◌}
use Rattle.script_world.specs.House.{document_of, PollTurn, TurnsDocument}
use Rattle.script_world.proofs.Steps.{bare_turn_by, own_tail, on_ok}
use Rattle.script_world.proofs.moves.poll_turn.Goals as goal

pub returns-in-None : goal.returns-in-None
returns-in-None g c =
    on_ok c.turns.result
    (λ turn. TurnsDocument g.K.Kit.rules g.K.Kit.cut c.args.seats.now (document_of c.args.broker) turn.bytes.items turn.worked (document_of turn.broker))
    (λ turn. PollTurn g.K.Kit.rules g.K.Kit.cut c.args.waiting.now.items (record { seats = c.args.seats.now; document = document_of c.args.broker }) turn.bytes.items turn.worked c.pop_front.new.self.items (record { seats = c.args.seats.now; document = document_of turn.broker }))
    (λ turn goes.
    let none = own_tail c.args.waiting.now.items c.pop_front.new.self.items c.in-None.ensures.items c.pop_front.ensures.rest in
    bare_turn_by g.K.Kit.rules g.K.Kit.cut c.args.waiting.now.items c.pop_front.new.self.items (record { seats = c.args.seats.now; document = document_of c.args.broker }) (record { seats = c.args.seats.now; document = document_of turn.broker }) turn.bytes.items turn.worked
    none (sym c.in-None.ensures.items ∙ none) refl goes)
    c.turns.ensures
