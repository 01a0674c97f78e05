use Rattle.std.proofs.Common.{◌≡◌, Some, [], ◌∷◌, true, refl, arith, rules}
use Rattle.turn_lock.proofs.Keeps.{publish_keeps, give_keeps}
use Rattle.turn_lock.proofs.steps.give_back.Goals as goal

pub swap-requires : goal.swap-requires
swap-requires g c = (
  search rules,
  omega (arith, c.requires.table.1),
  publish_keeps g.T.Booked.footing g.T.Booked.book _ _ _ _ c.args.value
      (rw (c.exchange.ensures.3, c.requires.holds.1) refl)
      (rw c.exchange.ensures.3 c.requires.holds.0)
      (rw c.exchange.ensures.3 c.requires.grows) c.count-count.ensures,
)

pub swap-requires-2 : goal.swap-requires-2
swap-requires-2 g c =
    let slot : c.exchange.new.seat.me.1
    ≡ (0, Some c.args.value) ∷ [] = rw (c.exchange.ensures.3, c.requires.holds.1) refl in
    let holds : c.exchange.new.seat.me.0.holds
    ≡ true = rw c.exchange.ensures.3 c.requires.holds.0 in
    let e = c.swap.ensures.2 c.args.value slot in (
      search rules,
      omega (arith, c.requires.table.1),
      give_keeps g.T.Booked.footing g.T.Booked.book _ _ _ c.args.value
          (rw e slot) (rw e holds) (rw e refl) (rw (e, c.exchange.ensures.3) c.requires.ground),
    )
