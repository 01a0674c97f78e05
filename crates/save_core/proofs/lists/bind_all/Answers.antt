use Rattle.std.proofs.Common.{set, ap, sym, ◌∙◌, arith}
use Rattle.std.proofs.lemmas.List.Edits.{map_over_more}
use Rattle.save_core.specs.Saving.{bound_to}
use Rattle.save_core.specs.declared.values.Save.{Save}
use Rattle.save_core.proofs.lists.bind_all.Goals as goal

pub loop-save-preserved : goal.loop-save-preserved
loop-save-preserved c =
    ap (λ (save : Save). set c.loop-save.saves c.loop-save.save-index save) (c.bind.ensures ∙ ap (bound_to c.args.applied) (sym c.save-item.is))
    ∙ map_over_more (bound_to c.args.applied) c.args.saves.now c.loop-save.saves c.loop-save.save-index c.save-item.result (omega arith) c.loop-save.invariant c.save-item.is
