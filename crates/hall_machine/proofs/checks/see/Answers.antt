use Rattle.std.proofs.Common.{refl, length}
use Rattle.std.proofs.lemmas.List.{length-map}
use Rattle.std.proofs.lemmas.Option.{slice_get_read}
use Rattle.hall_machine.proofs.Places.{desk_seen}
use Rattle.hall_machine.proofs.checks.see.Goals as goal

pub returns : goal.returns
returns g c =
    let e = desk_seen g.M.Labelled.tag c.args.opens.now c.args.at c.index-opens-at.result
    (slice_get_read c.args.opens.now
    (length c.args.opens.now) c.args.at c.index-opens-at.result refl c.requires
    c.index-opens-at.is) in
    record {
      doc = rw e refl;
      other = rw e c.other_poll.ensures;
      mails = rw
          (e, length-map) c.len.ensures.value;
    }
