use Rattle.std.specs.Prelude.{◌≡◌, ◌<◌, ℕ, Some}
use Rattle.grind_term_graph.specs.Terms.{prop, sort_at}
use Rattle.grind_scenes.proofs.stepping.are_formulas.Given as goal

abbrev pub invariant-loop-n : goal.invariant-loop-n
invariant-loop-n l = (k : ℕ) → k < l.n → sort_at l.terms.nodes k ≡ Some prop
