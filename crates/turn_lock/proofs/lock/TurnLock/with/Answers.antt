use Rattle.std.proofs.Common.{refl, ap, ◌∙◌, subst}
use Rattle.std.specs.Fn.{FnOnceReturnsAtMut}
use Rattle.turn_lock.specs.Seats.{Meets, MayBecome, after_turn}
use Rattle.turn_lock.proofs.Keeps.{met, turned_ground, turned_grows, turned_view}
use Rattle.turn_lock.proofs.lock.TurnLock.with.Goals as goal

-- what the seat found meets what it had seen, and what f left is what it may become
pub give_back-requires-clause-ground : goal.give_back-requires-clause-ground
give_back-requires-clause-ground g c =
    let m = met g.T.Booked.footing g.T.Booked.book c.seat.inside.place.me.0 c.take_turn.new.place.me
    c.take_out-value.result c.take_turn.ensures.value c.take_out-value.ensures.value in
    let meets : Meets g.T.Booked.footing g.T.Booked.book c.args.seat.now c.take_out-value.result =
    subst (λ k. Meets g.T.Booked.footing g.T.Booked.book k c.take_out-value.result)
    c.seat.view_is (m.1, m.2) in
    let did : FnOnceReturnsAtMut g.F.FnOnce c.args.f c.take_out-value.result c.f-answer.result
    c.f-answer.new.arg2 = record {
      shown = _;
      shows = refl;
      left = _;
      met = c.f-answer.ensures;
      leaves = refl;
    } in
    let may : MayBecome g.T.Booked.footing g.T.Booked.book c.take_out-value.result
    c.f-answer.new.arg2 = c.requires.keeps _ _ _ meets did in
    turned_ground g.T.Booked.footing g.T.Booked.book c.seat.inside.place.me.0
    c.take_turn.new.place.me c.take_out-value.new.place.me c.take_out-value.result
    c.f-answer.new.arg2 m.0 m.1 c.take_out-value.ensures.after may.0

pub give_back-requires-clause-grows : goal.give_back-requires-clause-grows
give_back-requires-clause-grows g c =
    let m = met g.T.Booked.footing g.T.Booked.book c.seat.inside.place.me.0 c.take_turn.new.place.me
    c.take_out-value.result c.take_turn.ensures.value c.take_out-value.ensures.value in
    let meets : Meets g.T.Booked.footing g.T.Booked.book c.args.seat.now c.take_out-value.result =
    subst (λ k. Meets g.T.Booked.footing g.T.Booked.book k c.take_out-value.result)
    c.seat.view_is (m.1, m.2) in
    let did : FnOnceReturnsAtMut g.F.FnOnce c.args.f c.take_out-value.result c.f-answer.result
    c.f-answer.new.arg2 = record {
      shown = _;
      shows = refl;
      left = _;
      met = c.f-answer.ensures;
      leaves = refl;
    } in
    let may : MayBecome g.T.Booked.footing g.T.Booked.book c.take_out-value.result
    c.f-answer.new.arg2 = c.requires.keeps _ _ _ meets did in
    turned_grows g.T.Booked.footing g.T.Booked.book c.seat.inside.place.me.0
    c.take_turn.new.place.me c.take_out-value.new.place.me c.take_out-value.result
    c.f-answer.new.arg2 m.0 c.take_out-value.ensures.after may.1

pub returns : goal.returns
returns g c =
    let m = met g.T.Booked.footing g.T.Booked.book c.seat.inside.place.me.0 c.take_turn.new.place.me
    c.take_out-value.result c.take_turn.ensures.value c.take_out-value.ensures.value in
    let meets : Meets g.T.Booked.footing g.T.Booked.book c.args.seat.now c.take_out-value.result =
    subst (λ k. Meets g.T.Booked.footing g.T.Booked.book k c.take_out-value.result)
    c.seat.view_is (m.1, m.2) in
    let did : FnOnceReturnsAtMut g.F.FnOnce c.args.f c.take_out-value.result c.f-answer.result
    c.f-answer.new.arg2 = record {
      shown = _;
      shows = refl;
      left = _;
      met = c.f-answer.ensures;
      leaves = refl;
    } in
    let same = c.give_back.ensures.place ∙ c.take_out-value.ensures.place
    ∙ c.take_turn.ensures.place in (
      c.take_out-value.result,
      c.f-answer.new.arg2,
      meets,
      did,
      turned_view g.T.Booked.footing g.T.Booked.book _ _ c.seat.inside.place.me.0
          c.take_turn.new.place.me c.take_out-value.new.place.me c.give_back.new.place.me
          c.take_out-value.result c.f-answer.new.arg2 same m.0 c.seat.invariant.no_turn
          c.take_out-value.ensures.after c.give_back.ensures.after
          ∙ ap (λ k. after_turn g.T.Booked.footing g.T.Booked.book k c.take_out-value.result
          c.f-answer.new.arg2) c.seat.view_is,
    )
