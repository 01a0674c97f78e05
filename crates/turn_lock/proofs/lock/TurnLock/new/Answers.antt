use Rattle.std.proofs.Common.{◌≡◌, Some, [], ◌∷◌, refl}
use Rattle.turn_lock.proofs.Keeps.{opens}
use Rattle.turn_lock.proofs.lock.TurnLock.new.Goals as goal

pub new-requires : goal.new-requires
new-requires g c =
    let o = opens g.T.Booked.footing g.T.Booked.book c.count-count.result c.args.value
    c.count-count.ensures in
    let e : c.push.new.self.items
    ≡ Some c.args.value ∷ [] = rw (
      c.push.ensures.items,
      c.is_err.ensures.negation,
      c.if-is_err.false,
      c.new-slots.ensures.items,
    ) refl in
    rw (e, c.of-about.ensures) o
