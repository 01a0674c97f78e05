use Rattle.std.proofs.Common.{length, arith}
use Rattle.std.specs.Str.{chars}
use Rattle.std.proofs.lemmas.Iterator.{YieldsList-from_chars}
use Rattle.std.proofs.lemmas.Iterator.Consumers.{YieldsList-turn, YieldsList-end}
use Rattle.std.proofs.lemmas.List.{length_push}
use Rattle.tile_raster.specs.Lettering.{black}
use Rattle.tile_raster.specs.Bytes.{painting_on}
use Rattle.tile_raster.proofs.LetterFacts.{letters_none, letter_painted, letters_cut, letters_all}
use Rattle.tile_raster.proofs.letters.write_letters.Goals as goal

pub loop-c-init : goal.loop-c-init
loop-c-init c = record {
  place = omega (arith, c.from-left.ensures);
  painted = letters_none c.args.area.now c.args.clip.now c.args.x c.args.y black (painting_on c.args.area.now c.args.rgba.now);
}

pub loop-c-preserved : goal.loop-c-preserved
loop-c-preserved c =
    let turn = YieldsList-turn (YieldsList-from_chars c.args.text.now c.utf8.text cc) c.loop-c.yielded _ c.loop-c.yielded_by _ _ c.in-Some.c c.in-Some.is c.next.ensures.steps in
    let count = length_push c.loop-c.yielded c.in-Some.c in
    record {
      place = omega (arith, c.loop-c.invariant.place, count);
      painted = rw count (letter_painted c.args.area.now c.args.clip.now c.args.x c.args.y (length c.loop-c.yielded) c.in-Some.c (chars c.args.text.now) black
          (painting_on c.args.area.now c.args.rgba.now) (painting_on c.args.area.now c.loop-c.rgba) (painting_on c.args.area.now c.write_letter.new.rgba) turn.0 turn.1 c.loop-c.invariant.painted (rw c.loop-c.invariant.place at c.write_letter.ensures));
    }

pub returns-in-None : goal.returns-in-None
returns-in-None c =
    let end = YieldsList-end (YieldsList-from_chars c.args.text.now c.utf8.text cc) c.loop-c.yielded _ c.loop-c.yielded_by _ _ c.in-None.is c.next.ensures.steps in
    letters_all c.args.area.now c.args.clip.now c.args.x c.args.y (length c.loop-c.yielded) (chars c.args.text.now) black (painting_on c.args.area.now c.args.rgba.now) (painting_on c.args.area.now c.loop-c.rgba) (omega (arith, end.1)) c.loop-c.invariant.painted

pub returns-then-left-end : goal.returns-then-left-end
returns-then-left-end c =
    let turn = YieldsList-turn (YieldsList-from_chars c.args.text.now c.utf8.text cc) c.loop-c.yielded _ c.loop-c.yielded_by _ _ c.in-Some.c c.in-Some.is c.next.ensures.steps in
    letters_cut c.args.area.now c.args.clip.now c.args.x c.args.y (length c.loop-c.yielded) (chars c.args.text.now) black (painting_on c.args.area.now c.args.rgba.now) (painting_on c.args.area.now c.loop-c.rgba) (omega (arith, turn.0))
    (rw (← c.clip.view_is) (omega (arith, c.loop-c.invariant.place, c.from-end.ensures))) c.loop-c.invariant.painted
