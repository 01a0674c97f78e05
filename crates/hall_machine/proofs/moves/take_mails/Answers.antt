use Rattle.std.proofs.Common.{refl, ◌∙◌, get_or}
use Rattle.std.proofs.lemmas.Option.{slice_get-get_or}
use Rattle.hall_machine.proofs.Places.{oldest}
use Rattle.hall_machine.proofs.moves.take_mails.Goals as goal

pub returns : goal.returns
returns g c =
    let a = c.len.ensures.value in
    let b = c.min-n.ensures in
    let d = c.move_mails.ensures in
    let o = get_or c.args.opens.now c.args.at c.index-opens-at.result in
    let m = oldest c.len.result c.min-n.result o.mails a b in (
      o,
      slice_get-get_or c.args.opens.now c.args.at c.index-opens-at.result c.requires.there,
      rw (d.rest, m.0) refl,
      d.bag ∙ m.1,
    )
