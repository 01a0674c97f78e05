use Rattle.std.proofs.Common.{◌≡◌, ◌∙◌, ◌+◌, ◌++◌, ap, arith, drop, take, sym}
use Rattle.std.proofs.lemmas.Grind.{common_steps}
use Rattle.wire_body.specs.Bodies.{run, taken, behind, framing_at, framing_in}
use Rattle.wire_body.proofs.Runs.{one_of_piece, block_of_piece, one_of_framing, block_of_framing}
use Rattle.wire_body.proofs.feeds.feed_front.Goals as goal

pub returns-then-not-is_content : goal.returns-then-not-is_content
returns-then-not-is_content c = (
  omega arith,
  omega arith,
  one_of_piece c.args.state c.args.body.now.items c.args.piece.now (sym c.is_content.ensures ∙ c.if-not-is_content.true) (omega arith)
      ∙ ap (λ s. run s c.args.body.now.items (drop 1 c.args.piece.now)) (sym c.step.ensures),
  one_of_framing c.args.state c.args.piece.now (omega arith)
      ∙ ap (λ s. framing_at c.args.state.phase + framing_in s (drop 1 c.args.piece.now)) (sym c.step.ensures),
)

pub returns : goal.returns
returns c =
    let grown : c.extend_from_slice.new.self.items ≡ c.args.body.now.items ++ take c.block_of-count.result c.args.piece.now = grind (arith, common_steps, c.in_ok-extend_from_slice.ensures.items) in
    let state : c.taken.result ≡ taken (behind c.args.state.phase) c.block_of-count.result c.args.state = cc in
    let whole : run c.args.state c.args.body.now.items c.args.piece.now
    ≡ run (taken (behind c.args.state.phase) c.block_of-count.result c.args.state) (c.args.body.now.items ++ take c.block_of-count.result c.args.piece.now) (drop c.block_of-count.result c.args.piece.now)
    = block_of_piece c.args.state c.args.body.now.items c.args.piece.now c.block_of-count.result (sym c.is_content.ensures ∙ c.if-not-is_content.false) c.block_of-count.ensures.some c.block_of-count.ensures.within c.block_of-count.ensures.content in
    let framing : framing_in c.args.state c.args.piece.now
    ≡ framing_at c.args.state.phase + framing_in (taken (behind c.args.state.phase) c.block_of-count.result c.args.state) (drop c.block_of-count.result c.args.piece.now)
    = block_of_framing c.args.state c.args.piece.now c.block_of-count.result (sym c.is_content.ensures ∙ c.if-not-is_content.false) c.block_of-count.ensures.some c.block_of-count.ensures.within c.block_of-count.ensures.content in (
      c.block_of-count.ensures.some,
      c.block_of-count.ensures.within,
      cc,
      framing ∙ ap (λ s. framing_at c.args.state.phase + framing_in s (drop c.block_of-count.result c.args.piece.now)) (sym state),
    )
