use Rattle.std.proofs.Common.{arith, sym, ◌∙◌}
use Rattle.sheet_file.proofs.CutLaws.{cut_is, cut_shorter}
use Rattle.sheet_file.proofs.ReadLaws.{parts_uncut, count_bad, cells_told, cells_late, of_any_fault}
use Rattle.sheet_file.proofs.reading.read_parts.Goals as goal

pub returns-in_default-clause-refused : goal.returns-in_default-clause-refused
returns-in_default-clause-refused c = λ other. parts_uncut c.args.lines.now (sym c.in_default.ensures)

pub returns-in_default-parts_of_text-clause-refused : goal.returns-in_default-parts_of_text-clause-refused
returns-in_default-parts_of_text-clause-refused c = λ other. count_bad c.args.lines.now c.in-Some.text.now c.in-Some.behind.now c.in-Some.ensures c.in_default-parts_of_text.ensures.parts

pub read_cells-requires-clause-short : goal.read_cells-requires-clause-short
read_cells-requires-clause-short c =
    let shorter = cut_shorter 10 c.args.lines.now c.in-Some.text.now c.in-Some.behind.now (cut_is 10 c.args.lines.now c.in-Some.text.now c.in-Some.behind.now (sym c.in-Some.ensures)) in
    omega (arith, shorter)

pub returns-in-Ok-clause-ok : goal.returns-in-Ok-clause-ok
returns-in-Ok-clause-ok c =
    cells_told c.args.lines.now c.in-Some.text.now c.in-Some.behind.now c.in-Some-parts_of_text.parts c.in_ok-draft.draft c.in-Some.ensures c.in-Some-parts_of_text.ensures.parts c.in_ok-draft.ensures
    ∙ c.in-Ok.ensures.ok

pub returns-in-Err-clause-refused : goal.returns-in-Err-clause-refused
returns-in-Err-clause-refused c =
    λ other. cells_told c.args.lines.now c.in-Some.text.now c.in-Some.behind.now c.in-Some-parts_of_text.parts c.in_ok-draft.draft c.in-Some.ensures c.in-Some-parts_of_text.ensures.parts c.in_ok-draft.ensures
    ∙ c.in-Err.ensures.refused other

pub returns-in-Err-clause-early : goal.returns-in-Err-clause-early
returns-in-Err-clause-early c =
    λ lacks. cells_late c.args.lines.now c.in-Some.text.now c.in-Some.behind.now c.in-Some-parts_of_text.parts c.in-Some.ensures c.in-Some-parts_of_text.ensures.parts

pub returns-in_err-draft-clause-early : goal.returns-in_err-draft-clause-early
returns-in_err-draft-clause-early c =
    of_any_fault _ c.from_residual.result (λ fault lacks. cells_late c.args.lines.now c.in-Some.text.now c.in-Some.behind.now c.in-Some-parts_of_text.parts c.in-Some.ensures c.in-Some-parts_of_text.ensures.parts)
