use Rattle.std.proofs.Common.{◌<◌, ℕ}
use Rattle.grind_truth_prop.specs.Equations.{HasNoEquation}
use Rattle.grind_truth_prop.proofs.units.equations.first_equation.Given as goal

abbrev pub invariant-loop-number : goal.invariant-loop-number
invariant-loop-number l = (k : ℕ) → k < l.number → HasNoEquation l.known l.classes.lists k
