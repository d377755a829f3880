use Rattle.std.specs.Prelude.{ℕ, ◌≡◌, ◌<◌, Some, slice_get}
use Rattle.grind_given_lines.proofs.hypothesis.place_of_conclusion.Given as goal

abbrev pub invariant-loop-k : goal.invariant-loop-k
invariant-loop-k l = (j : ℕ) → j < l.k → slice_get l.fn.goal.hyps j ≡ Some l.fn.goal.show → ⊥
