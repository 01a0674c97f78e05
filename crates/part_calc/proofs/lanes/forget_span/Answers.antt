use Rattle.std.proofs.Common.{not, rules}
use Rattle.std.proofs.lemmas.Fn.{filter_same}
use Rattle.part_calc.specs.declared.lanes.Span.{Span}
use Rattle.part_calc.specs.Lanes.{is_span}
use Rattle.part_calc.proofs.lanes.forget_span.Goals as goal

pub returns : goal.returns
returns c = filter_same _ (λ (s : Span). not (is_span c.args.gone.now.block c.args.gone.now.reader s)) _ (λ x b f' k. search rules) _ _ c.retain.ensures.filtered
