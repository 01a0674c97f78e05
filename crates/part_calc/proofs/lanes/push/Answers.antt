use Rattle.std.proofs.Common.{◌≡◌, List, [], ◌∷◌, ◌++◌, None, ap, sym, ◌∙◌, rules}
use Rattle.std.specs.BTreeMap.{is_at, insert_entry}
use Rattle.std.specs.Map.{lookup}
use Rattle.formula_base.specs.Ranges.{position_cmp}
use Rattle.part_calc.specs.declared.lanes.Span.{Span}
use Rattle.part_calc.proofs.KnowLaws.{on_ok, on_err, spans_changed, spans_same, spans_made, spans_found}
use Rattle.part_calc.proofs.lanes.push.Goals as goal

pub returns-in-Some-clause-ok : goal.returns-in-Some-clause-ok
returns-in-Some-clause-ok c =
    let w = c.push.new.self in
    let written = (c.get_mut.follows.holds w).3 (search rules) in
    on_ok _ _ c.push.result
    (λ is.
    spans_changed (λ x. x ++ c.args.span ∷ []) c.args.index.now.entries (c.get_mut.follows.lender w).entries c.args.lane w
    (is ∙ ap (λ (x : List Span). x ++ c.args.span ∷ []) (sym (spans_found c.args.index.now.entries c.args.lane c.in-Some.spans.now (sym c.in-Some.ensures.value)))) written.0)
    c.push.ensures.ok

pub returns-in-Some-clause-err : goal.returns-in-Some-clause-err
returns-in-Some-clause-err c =
    let w = c.push.new.self in
    let written = (c.get_mut.follows.holds w).3 (search rules) in
    on_err _ _ c.push.result
    (λ same.
    spans_same c.args.index.now.entries (c.get_mut.follows.lender w).entries c.args.lane w
    (same ∙ sym (spans_found c.args.index.now.entries c.args.lane c.in-Some.spans.now (sym c.in-Some.ensures.value))) written.0)
    c.push.ensures.err

pub returns-clause-ok : goal.returns-clause-ok
returns-clause-ok c =
    let before = c.args.index.now.entries in
    let none : lookup (is_at (position_cmp c.args.lane)) before ≡ None = search (rules, c.in_default.ensures.value, c.in_default.is) in
    let made : c.insert.new.self.entries ≡ insert_entry position_cmp before c.args.lane c.push-2.new.self = search (rules, c.in_ok-insert.ensures.entries, c.get_mut.follows.holds-at-none) in
    spans_made before c.insert.new.self.entries c.args.lane c.args.span c.push-2.new.self none (c.in_ok-push.ensures.ok ∙ ap (λ (x : List Span). x ++ c.args.span ∷ []) c.new-spans.ensures) made
