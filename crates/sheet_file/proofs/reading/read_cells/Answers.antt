use Rattle.std.proofs.Common.{◌≡◌, ◌+◌, ◌<◌, true, length, map, Some, arith, sym, ap, ◌∙◌}
use Rattle.std.proofs.lemmas.Grind.{common_steps}
use Rattle.sheet_calc.specs.Books.{Parts}
use Rattle.sheet_file.specs.Lines.{lines_of, cell_said}
use Rattle.sheet_file.specs.BookFile.{comes_after, with_lines}
use Rattle.sheet_file.proofs.ReadLaws.{lines_turn, lines_bad, lines_done, same_length}
use Rattle.sheet_file.proofs.reading.read_cells.Goals as goal

pub returns-in_default-clause-refused : goal.returns-in_default-clause-refused
returns-in_default-clause-refused c =
    let some : 0 < length c.loop-rest.rest.now = grind (arith, common_steps) in
    λ other. sym c.loop-rest.invariant.told ∙ lines_bad c.args.parts c.loop-rest.number c.loop-rest.draft c.loop-rest.before c.loop-rest.rest.now some c.in_default.ensures.said

pub loop-rest-preserved : goal.loop-rest-preserved
loop-rest-preserved c =
    let shorter : length c.in-Some.behind.now < length c.loop-rest.rest.now = c.in-Some.ensures.shorter in
    let ordered : comes_after c.loop-rest.before c.in-Some.at ≡ true = sym c.comes_after.ensures ∙ c.if-not-comes_after.false in
    record {
      told =
          ap (λ (draft : Parts). with_lines draft (c.loop-rest.number + 1) (Some c.in-Some.at) (map (cell_said c.args.parts) (lines_of c.in-Some.behind.now))) c.in_ok-add.ensures.ok
          ∙ sym (lines_turn c.args.parts c.loop-rest.number c.loop-rest.draft c.loop-rest.before (lines_of c.loop-rest.rest.now) (lines_of c.in-Some.behind.now) (c.in-Some.at, c.in-Some.raw.now) c.in-Some.ensures.said ordered)
          ∙ c.loop-rest.invariant.told;
      parts = ap (λ (draft : Parts). length draft) c.in_ok-add.ensures.ok ∙ same_length c.loop-rest.draft c.in-Some.at c.in-Some.raw.now ∙ c.loop-rest.invariant.parts;
      room = omega (arith, shorter);
    }

pub returns-clause-ok : goal.returns-clause-ok
returns-clause-ok c =
    let none : length c.loop-rest.rest.now ≡ 0 = grind (arith, common_steps) in
    sym c.loop-rest.invariant.told ∙ lines_done c.args.parts c.loop-rest.number c.loop-rest.draft c.loop-rest.before c.loop-rest.rest.now none
