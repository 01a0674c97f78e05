use Rattle.std.proofs.Common.{◌≡◌, ◌<◌, length, [], Err, arith, refl, sym, ap, ◌∙◌}
use Rattle.std.proofs.lemmas.Grind.{common_steps}
use Rattle.sheet_file.specs.declared.fault.BookFault.{BookFault}
use Rattle.std.specs.Prelude.{replicate}
use Rattle.sheet_file.specs.BookFile.{is_early}
use Rattle.sheet_file.proofs.CutLaws.{cut_is, cut_shorter}
use Rattle.sheet_file.proofs.ReadLaws.{header_cut, header_uncut, none_read, of_any_fault}
use Rattle.sheet_file.proofs.reading.read_draft.Goals as goal

pub returns-then-is_empty-clause-ok : goal.returns-then-is_empty-clause-ok
returns-then-is_empty-clause-ok c =
    let none : length c.args.file.now ≡ 0 = grind (arith, common_steps) in none_read c.args.file.now c.in_ok-new.field-0 none c.in_ok-new.ensures

pub behind_header-requires : goal.behind_header-requires
behind_header-requires c =
    let shorter = cut_shorter 10 c.args.file.now c.in-Some.line.now c.in-Some.behind.now (cut_is 10 c.args.file.now c.in-Some.line.now c.in-Some.behind.now (sym c.in-Some.ensures)) in
    omega (arith, shorter)

pub returns-in-Some-clause-ok : goal.returns-in-Some-clause-ok
returns-in-Some-clause-ok c = rw (header_cut c.args.file.now c.in-Some.line.now c.in-Some.behind.now (sym c.in-Some.ensures)) c.behind_header.ensures.ok

pub returns-in-Some-clause-refused : goal.returns-in-Some-clause-refused
returns-in-Some-clause-refused c = rw (header_cut c.args.file.now c.in-Some.line.now c.in-Some.behind.now (sym c.in-Some.ensures)) c.behind_header.ensures.refused

pub returns-in-None-clause-refused : goal.returns-in-None-clause-refused
returns-in-None-clause-refused c =
    let some : 0 < length c.args.file.now = grind (arith, common_steps) in
    λ other. header_uncut c.args.file.now (sym c.in-None.ensures) some ∙ ap (λ (fault : BookFault). Err fault) (sym c.cut_off.ensures.fault)

pub returns-in-Some-clause-early : goal.returns-in-Some-clause-early
returns-in-Some-clause-early c = rw (header_cut c.args.file.now c.in-Some.line.now c.in-Some.behind.now (sym c.in-Some.ensures)) c.behind_header.ensures.early

-- a file without a byte has no fault
pub returns-in_err-new-clause-early : goal.returns-in_err-new-clause-early
returns-in_err-new-clause-early c =
    let none : length c.args.file.now ≡ 0 = grind (arith, common_steps) in
    of_any_fault _ c.from_residual.result (λ fault lacks. ap is_early (none_read c.args.file.now (replicate 1 []) none refl))
