use Rattle.std.proofs.Common.{◌<◌, ℕ}
use Rattle.grind_truth_prop.specs.Connectives.{SettlesNothing}
use Rattle.grind_truth_prop.proofs.units.connectives.first_settled.Given as goal

abbrev pub invariant-loop-number : goal.invariant-loop-number
invariant-loop-number l = (k : ℕ) → k < l.number → SettlesNothing l.known l.classes.lists k
