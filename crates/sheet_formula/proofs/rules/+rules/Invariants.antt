use Rattle.std.proofs.Common.{◌≡◌, length, ◌+◌, ◌-◌, ◌*◌}
use Rattle.sheet_formula.specs.Grammar.{level_of, fact, arguments, links}
use Rattle.sheet_formula.proofs.Repeats.{with_more, rank}
use Rattle.sheet_formula.proofs.rules.+rules.Given as goal

abbrev pub decreases-argument : goal.decreases-argument
decreases-argument l = 10 * l.depth + 5

abbrev pub decreases-arguments : goal.decreases-arguments
decreases-arguments l = 10 * l.depth + 6

abbrev pub decreases-choice : goal.decreases-choice
decreases-choice l = 10 * l.depth + 6

abbrev pub decreases-closed : goal.decreases-closed
decreases-closed l = 10 * l.depth + 5

abbrev pub decreases-comparison : goal.decreases-comparison
decreases-comparison l = 10 * l.depth + 4

abbrev pub decreases-fact : goal.decreases-fact
decreases-fact l = 10 * l.depth

abbrev pub decreases-level : goal.decreases-level
decreases-level l = 10 * l.depth + rank l.this

abbrev pub decreases-nested : goal.decreases-nested
decreases-nested l = 10 * l.depth + 7

abbrev pub decreases-separated : goal.decreases-separated
decreases-separated l = 10 * l.depth + 5

abbrev pub invariant-arguments-loop-turn : goal.invariant-arguments-loop-turn
invariant-arguments-loop-turn l =
    with_more l.values (arguments (fact l.depth) (l._turn-end - l._turn) l.tokens.items)
    ≡ arguments (fact l.depth) (length l.fn.tokens.items) l.fn.tokens.items

abbrev pub invariant-level-loop-turn : goal.invariant-level-loop-turn
invariant-level-loop-turn l = record {
  told : with_more l.links (links l.this (level_of l.inner (fact l.depth)) (l._turn-end - l._turn) l.tokens.items)
      ≡ links l.this (level_of l.inner (fact l.depth)) (length l.initial.tokens.items) l.initial.tokens.items;
  kept : l.first ≡ l.initial.first;
}
