use Rattle.std.proofs.Common.{sym, ap, ◌∙◌}
use Rattle.part_calc.specs.Fates.{Fates, fate_in}
use Rattle.part_calc.proofs.FoundLaws.{room_stays}
use Rattle.part_calc.proofs.keeping.make_place.Goals as goal

pub returns-clause-stay : goal.returns-clause-stay
returns-clause-stay c = λ p there.
    ap (λ (es : Fates). fate_in es p) c.in_ok-insert.ensures.entries
    ∙ room_stays c.args.kept.now.entries c.args.at _ (sym c.contains_key.ensures ∙ c.if-contains_key.false) p there
