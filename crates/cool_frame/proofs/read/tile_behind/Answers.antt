use Rattle.std.proofs.Common.{◌≡◌, ◌++◌}
use Rattle.cool_frame.specs.Frames.{tile_line}
use Rattle.cool_frame.proofs.Same.{bytes_behind, same_behind, wrong_by}
use Rattle.cool_frame.proofs.read.tile_behind.Goals as goal

-- the bytes are the line and the pixels
split_at_line : (c : goal.After-drop-line) → c.args.bytes.now ≡ tile_line c.args.key.now c.args.ver c.args.wid ++ c.in-Some.pixels.now
split_at_line c =
    rw (← c.in_ok-line.ensures, ← c.as_bytes.ensures.value) (bytes_behind c.args.bytes.now c.as_bytes.result.now c.in-Some.pixels.now c.in-Some.ensures.cases.0 c.in-Some.ensures.cases.1)

pub returns-in-Some-clause-same : goal.returns-in-Some-clause-same
returns-in-Some-clause-same c =
    same_behind c.args.bytes.now (tile_line c.args.key.now c.args.ver c.args.wid ++ c.in-Some.pixels.now) c.tile_of.result (split_at_line c) c.tile_of.ensures.same

pub returns-in-Some-clause-wrong : goal.returns-in-Some-clause-wrong
returns-in-Some-clause-wrong c = λ e.
    wrong_by c.args.key.now c.args.ver c.args.wid c.in-Some.pixels.now c.args.bytes.now c.tile_of.ensures.line (split_at_line c) (c.tile_of.ensures.wrong e)
