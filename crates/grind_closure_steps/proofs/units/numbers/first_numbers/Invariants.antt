use Rattle.std.proofs.Common.{ℕ, ◌<◌}
use Rattle.grind_closure_steps.specs.Clashes.{IsAlone}
use Rattle.grind_closure_steps.proofs.units.numbers.first_numbers.Given as goal

abbrev pub invariant-loop-number : goal.invariant-loop-number
invariant-loop-number l = (k : ℕ) → k < l.number → IsAlone l.known.terms.nodes l.classes.lists k
