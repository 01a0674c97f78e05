use Rattle.std.proofs.Common.{sym, ◌∙◌}
use Rattle.view_session.proofs.CountFacts.{known_asked, known_fresh}
use Rattle.view_session.proofs.asking.is_known.Goals as goal

pub returns-then-is_asked : goal.returns-then-is_asked
returns-then-is_asked c = λ asked k.
    known_asked asked c.args.fresh.now c.args.key.now (sym c.if-is_asked.true ∙ c.is_asked.ensures asked k)

pub returns : goal.returns
returns c = λ asked k.
    c.is_among.ensures ∙ known_fresh asked c.args.fresh.now c.args.key.now (sym c.if-is_asked.false ∙ c.is_asked.ensures asked k)
