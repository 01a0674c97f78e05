use Rattle.web_link.proofs.Leaving.{leaves}
use Rattle.web_link.proofs.links.WebLink.push_next.Goals as goal

pub returns-clause-pushed : goal.returns-clause-pushed
returns-clause-pushed g c =
    leaves g.S.Write.contents c.args.self.now.socket c.send_message.new.self.socket
    c.args.self.now.queue c.send_message.new.self.queue c.left-gone.new.self c.in-Some.frame.now
    c.left-gone.result c.in_ok-pushed.pushed c.in-Some.ensures c.send_message.ensures.queue
    c.left-gone.ensures (c.in_ok-pushed.ensures.sent c.in-Some.frame.now c.in_ok-next.ensures)
