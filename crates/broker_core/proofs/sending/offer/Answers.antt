use Rattle.std.proofs.lemmas.List.Edits.{map_over_more}
use Rattle.broker_core.specs.Sending.{offered}
use Rattle.broker_core.proofs.Offerings.{frames_more}
use Rattle.broker_core.proofs.sending.offer.Goals as goal

pub loop-member-preserved : goal.loop-member-preserved
loop-member-preserved c = record {
  members = rw (c.in_ok-offer.ensures.member, ← c.member-item.is) (map_over_more (offered c.args.version c.args.tile.now) c.deref_mut-member-items.result.now c.loop-member.member-items c.loop-member.member-index c.member-item.result c.loop-member-test.true c.loop-member.invariant.members c.member-item.is);
  frames =
      frames_more c.args.version c.args.tile.now c.deref_mut-member-items.result.now c.loop-member.member-items c.loop-member.member-index c.member-item.result c.args.frames.now c.loop-member.frames c.offer.new.frames
      c.loop-member-test.true c.loop-member.invariant.members c.member-item.is c.loop-member.invariant.frames (rw (← c.member-item.is) at c.in_ok-offer.ensures.frames);
}
