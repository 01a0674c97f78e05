use Rattle.std.proofs.Common.{refl}
use Rattle.web_link.specs.Pushing.{NoneYet, OneMore}
use Rattle.web_link.specs.declared.heard.Pushed.TheVariants.{Idle, Blocked, Ended}
use Rattle.web_link.proofs.Leaving.{where_refused}
use Rattle.web_link.proofs.links.WebLink.push.Goals as goal

pub loop-init : goal.loop-init
loop-init g c = NoneYet

pub loop-preserved : goal.loop-preserved
loop-preserved g c =
    OneMore c.loop.self.socket c.push_one.new.self.socket c.loop.self.queue
    c.push_one.new.self.queue c.loop.invariant
    (rw (← c.in-More.is) c.in_ok-push_one.ensures.pushed)

pub returns-in_err-push_one-clause-memory : goal.returns-in_err-push_one-clause-memory
returns-in_err-push_one-clause-memory g c =
    where_refused c.from_residual.result (record {
      mid = c.loop.self.socket;
      between = c.loop.self.queue;
      leave = c.loop.invariant;
      lacks = c.in_err-push_one.ensures.memory;
    })

pub returns-in-Idle-clause-pushed : goal.returns-in-Idle-clause-pushed
returns-in-Idle-clause-pushed g c = record {
  mid = c.loop.self.socket;
  between = c.loop.self.queue;
  pushed = Idle;
  leave = c.loop.invariant;
  last = rw (← c.in-Idle.is) c.in_ok-push_one.ensures.pushed;
  stays = refl;
}

pub returns-in-Blocked-clause-pushed : goal.returns-in-Blocked-clause-pushed
returns-in-Blocked-clause-pushed g c = record {
  mid = c.loop.self.socket;
  between = c.loop.self.queue;
  pushed = Blocked;
  leave = c.loop.invariant;
  last = rw (← c.in-Blocked.is) c.in_ok-push_one.ensures.pushed;
  stays = refl;
}

pub returns-in-Ended-clause-pushed : goal.returns-in-Ended-clause-pushed
returns-in-Ended-clause-pushed g c = record {
  mid = c.loop.self.socket;
  between = c.loop.self.queue;
  pushed = Ended;
  leave = c.loop.invariant;
  last = rw (← c.in-Ended.is) c.in_ok-push_one.ensures.pushed;
  stays = refl;
}
