use Rattle.std.proofs.Common.{◌<◌, ℕ}
use Rattle.grind_truth_prop.specs.Sides.{HasNoSides}
use Rattle.grind_truth_prop.proofs.units.sides.first_sides.Given as goal

abbrev pub invariant-loop-number : goal.invariant-loop-number
invariant-loop-number l = (k : ℕ) → k < l.number → HasNoSides l.known l.classes.lists k
