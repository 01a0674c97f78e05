use Rattle.std.proofs.Common.{◌≡◌, List}
use Rattle.paint_yard.specs.Working.{Adds, AreRefused, Posting}
use Rattle.paint_yard.proofs.working.delivered.Given as goal

-- the answer was posted so far, and refused each time
abbrev pub invariant-loop : goal.invariant-loop
invariant-loop g l =
    (l.waiting ≡ l.initial.waiting)
    × ((made : List (Posting _)) × Adds (g.Q.Post.told l.initial.post) made (g.Q.Post.told l.post)
    × AreRefused l.initial.doc l.initial.waiting made)
