use Rattle.paint_yard.proofs.Doing.{post_ends}
use Rattle.paint_yard.proofs.working.delivered.Goals as goal

-- src/working.rt:66:43
pub returns-in-Put : goal.returns-in-Put
returns-in-Put g c =
    let all = c.loop.invariant in
    post_ends c.args.doc c.args.answer c.loop.waiting (g.Q.Post.told c.args.post.now) (g.Q.Post.told c.loop.post)
    (g.Q.Post.told c.post.new.self) all.1.0 c.post.result all.0 all.1.1 all.1.2 c.in-Put.is c.post.ensures
