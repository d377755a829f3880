use Rattle.std.proofs.Common.{ℕ, ◌<◌}
use Rattle.grind_closure_steps.specs.Clashes.{IsOpposed}
use Rattle.grind_closure_steps.proofs.units.clashes.first_opposed.Given as goal

abbrev pub invariant-loop-number : goal.invariant-loop-number
invariant-loop-number l = (k : ℕ) → k < l.number → ¬ IsOpposed l.known k
