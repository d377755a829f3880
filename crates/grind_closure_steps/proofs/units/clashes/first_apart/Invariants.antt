use Rattle.std.proofs.Common.{ℕ, ◌<◌}
use Rattle.grind_closure_steps.specs.Clashes.{AreApartTogether}
use Rattle.grind_closure_steps.proofs.units.clashes.first_apart.Given as goal

abbrev pub invariant-loop-place : goal.invariant-loop-place
invariant-loop-place l = (k : ℕ) → k < l.place → ¬ AreApartTogether l.known l.classes.lists k
