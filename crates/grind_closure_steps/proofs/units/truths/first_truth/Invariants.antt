use Rattle.std.proofs.Common.{ℕ, ◌<◌}
use Rattle.grind_closure_steps.specs.Truths.{HasNothingLeft}
use Rattle.grind_closure_steps.proofs.units.truths.first_truth.Given as goal

abbrev pub invariant-loop-number : goal.invariant-loop-number
invariant-loop-number l = (k : ℕ) → k < l.number → HasNothingLeft l.known l.classes.lists k
