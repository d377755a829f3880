use Rattle.std.proofs.Common.{ℕ, ◌<◌}
use Rattle.grind_truth_prop.specs.Classed.{IsNotClassed}
use Rattle.grind_truth_prop.proofs.units.classed.first_classed.Given as goal

abbrev pub invariant-loop-number : goal.invariant-loop-number
invariant-loop-number l = (k : ℕ) → k < l.number → IsNotClassed l.known l.classes.lists k
