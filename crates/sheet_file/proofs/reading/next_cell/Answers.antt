use Rattle.std.proofs.Common.{ap, ◌∙◌, sym}
use Rattle.std.specs.Option.{option_map}
use Rattle.sheet_file.specs.Lines.{Cell, lines_of}
use Rattle.sheet_file.proofs.CutLaws.{cut_is, cut_shorter}
use Rattle.sheet_file.proofs.ReadLaws.{first_uncut, first_cut}
use Rattle.sheet_file.proofs.LineLaws.{said_is, said_cell}
use Rattle.sheet_file.proofs.reading.next_cell.Goals as goal

pub returns-clause-shorter : goal.returns-clause-shorter
returns-clause-shorter c =
    cut_shorter 10 c.args.lines.now c.in_ok-text.text.now c.in_ok-text.behind.now (cut_is 10 c.args.lines.now c.in_ok-text.text.now c.in_ok-text.behind.now (sym c.in_ok-text.ensures))

pub returns-clause-cell : goal.returns-clause-cell
returns-clause-cell c =
    said_cell c.args.parts c.in_ok-text.text.now (c.in_ok-at.at, c.in_ok-at.raw.now) c.requires (said_is c.args.parts c.in_ok-text.text.now (c.in_ok-at.at, c.in_ok-at.raw.now) (sym c.in_ok-at.ensures))

pub returns-clause-valid : goal.returns-clause-valid
returns-clause-valid c = (said_is c.args.parts c.in_ok-text.text.now (c.in_ok-at.at, c.in_ok-at.raw.now) (sym c.in_ok-at.ensures)).raw

pub returns-in_err-text-clause-said : goal.returns-in_err-text-clause-said
returns-in_err-text-clause-said c = let told = first_uncut c.args.parts c.args.lines.now (sym c.in_err-text.ensures) in rw c.from_residual.ensures (sym told)

pub returns-in_err-at-clause-said : goal.returns-in_err-at-clause-said
returns-in_err-at-clause-said c = let told = first_cut c.args.parts c.args.lines.now c.in_ok-text.text.now c.in_ok-text.behind.now (sym c.in_ok-text.ensures) ∙ ap (option_map (λ (cell : Cell). (cell, lines_of c.in_ok-text.behind.now))) (sym c.in_err-at.ensures) in rw c.from_residual-in_err-at.ensures (sym told)

pub returns-clause-said : goal.returns-clause-said
returns-clause-said c =
    sym (first_cut c.args.parts c.args.lines.now c.in_ok-text.text.now c.in_ok-text.behind.now (sym c.in_ok-text.ensures)
    ∙ ap (option_map (λ (cell : Cell). (cell, lines_of c.in_ok-text.behind.now))) (sym c.in_ok-at.ensures))
