use Rattle.std.proofs.Common.{ℕ, ◌≢◌, ◌<◌, slice_index_or}
use Rattle.grind_term_graph.specs.Terms.{prop}
use Rattle.grind_theory.proofs.sorts.has_no_formulas.Given as goal

-- none so far is that of formulas
abbrev pub invariant-loop-sort : goal.invariant-loop-sort
invariant-loop-sort l = (k d : ℕ) → k < l.sort-index → slice_index_or l.sorts k d ≢ prop
