use Rattle.std.specs.Prelude.{◌≡◌, ◌++◌, length}
use Rattle.grind_normal_forms.specs.Gathering.{no_factors}
use Rattle.grind_normal_forms.proofs.factors.nothing_for.Given as goal

abbrev pub invariant-loop-tail : goal.invariant-loop-tail
invariant-loop-tail l = l.list ++ no_factors l.rest ≡ no_factors l.fn.basis

abbrev pub decreases-loop-tail : goal.decreases-loop-tail
decreases-loop-tail l = length l.rest
