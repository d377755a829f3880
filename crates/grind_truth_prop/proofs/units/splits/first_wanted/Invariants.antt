use Rattle.std.proofs.Common.{ℕ, ◌<◌}
use Rattle.grind_truth_prop.specs.Splits.{WantsNothing}
use Rattle.grind_truth_prop.proofs.units.splits.first_wanted.Given as goal

abbrev pub invariant-loop-number : goal.invariant-loop-number
invariant-loop-number l = (k : ℕ) → k < l.number → WantsNothing l.known l.classes.lists k
