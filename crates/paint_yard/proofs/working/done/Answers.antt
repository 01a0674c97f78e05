use Rattle.std.proofs.Common.{refl, inl, []}
use Rattle.paint_yard.specs.Working.{IsLeft}
use Rattle.paint_yard.proofs.Doing.{refused_by}
use Rattle.paint_yard.proofs.Telling.{adds_none}
use Rattle.paint_yard.proofs.working.done.Goals as goal

-- src/working.rt:90:18
pub returns-in_err-answer : goal.returns-in_err-answer
returns-in_err-answer g c =
    let made = c.in_err-answer.ensures in (
      [],
      made.0,
      adds_none (g.Q.Post.told c.args.post.now) (g.Q.Post.told c.args.post.now) refl,
      made.1,
      refused_by c.from_residual.result _ (IsLeft (λ d. d.ticket) (λ d. d.scene) c.args.doc c.args.work [] made.0)
          c.from_residual.ensures.0 (inl (refl, made.2)),
    )
