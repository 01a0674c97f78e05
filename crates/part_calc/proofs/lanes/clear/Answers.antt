use Rattle.std.proofs.Common.{List, not, ap, sym, ◌∙◌, rules}
use Rattle.std.specs.List.{filter}
use Rattle.part_calc.specs.declared.lanes.Span.{Span}
use Rattle.part_calc.specs.Lanes.{is_span}
use Rattle.part_calc.proofs.KnowLaws.{spans_changed, spans_found}
use Rattle.part_calc.proofs.lanes.clear.Goals as goal

pub returns-in-Some : goal.returns-in-Some
returns-in-Some c =
    let w = c.forget.new.self in
    let written = (c.get_mut.follows.holds w).3 (search rules) in
    spans_changed (filter (λ s. not (is_span c.args.block c.args.reader s))) c.args.index.now.entries (c.get_mut.follows.lender w).entries c.args.lane w
    (c.forget.ensures ∙ ap (λ (x : List Span). filter (λ s. not (is_span c.args.block c.args.reader s)) x) (sym (spans_found c.args.index.now.entries c.args.lane c.in-Some.spans.now (sym c.in-Some.ensures.value)))) written.0
