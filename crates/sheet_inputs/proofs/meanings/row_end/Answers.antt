use Rattle.std.proofs.Common.{◌≡◌, ℕ, ap, sym, ◌∙◌, arith}
use Rattle.sheet_cells.specs.declared.cells.CellRef.{CellRef}
use Rattle.sheet_calc.specs.Books.{text_of}
use Rattle.sheet_rules.specs.Typing.{last_filled, row_end}
use Rattle.sheet_rules.proofs.Typings.{filled_none, filled_here, filled_before}
use Rattle.sheet_inputs.proofs.meanings.row_end.Goals as goal
use Rattle.sheet_inputs.proofs.meanings.row_end.Goals.{then-not-is_empty, else-not-is_empty}

pub loop-col-init : goal.loop-col-init
loop-col-init c = filled_none (λ col. text_of c.args.book.now (record { part = c.args.at.part; row = c.args.at.row; col = col }))

pub loop-col-preserved : goal.loop-col-preserved
loop-col-preserved c =
    let text = λ (col : ℕ). text_of c.args.book.now (record { part = c.args.at.part; row = c.args.at.row; col = col }) in
    elim c.if-not-is_empty.branch [
      | then-not-is_empty w ↦ w.last-is ∙ filled_here text c.loop-col.col c.raw.result.now c.raw.ensures (sym c.is_empty.ensures ∙ w.if-not-is_empty.true)
      | else-not-is_empty w ↦ w.last-is ∙ c.loop-col.invariant ∙ filled_before text c.loop-col.col c.raw.result.now c.raw.ensures (sym c.is_empty.ensures ∙ w.if-not-is_empty.false)
    ]

pub returns : goal.returns
unfolding row_end
returns c =
    let text = λ (col : ℕ). text_of c.args.book.now (record { part = c.args.at.part; row = c.args.at.row; col = col }) in
    let all : c.loop-col.col ≡ 256 = omega arith in
    ap (λ (n : ℕ). record { part = c.args.at.part; row = c.args.at.row; col = n }) (c.loop-col.invariant ∙ ap (last_filled text) all)
