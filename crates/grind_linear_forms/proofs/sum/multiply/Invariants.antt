use Rattle.std.specs.Prelude.{◌≡◌, length}
use Rattle.grind_linear_forms.specs.Sums.{behind, multiplied}
use Rattle.grind_linear_forms.proofs.sum.multiply.Given as goal

abbrev pub invariant-loop-x : goal.invariant-loop-x
invariant-loop-x l = behind l.all (multiplied l.m l.rest) ≡ behind l.fn.done (multiplied l.fn.m l.fn.parts)

abbrev pub decreases-loop-x : goal.decreases-loop-x
decreases-loop-x l = length l.rest
