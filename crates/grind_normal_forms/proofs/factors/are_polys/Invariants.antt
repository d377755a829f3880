use Rattle.std.specs.Prelude.{length}
use Rattle.grind_normal_forms.specs.FinalFactors.{ArePolys}
use Rattle.grind_normal_forms.proofs.factors.are_polys.Given as goal

abbrev pub invariant-loop-b : goal.invariant-loop-b
invariant-loop-b l = ArePolys l.rest → ArePolys l.fn.basis

abbrev pub decreases-loop-b : goal.decreases-loop-b
decreases-loop-b l = length l.rest
