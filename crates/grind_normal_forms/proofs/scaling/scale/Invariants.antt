use Rattle.std.specs.Prelude.{◌≡◌, length}
use Rattle.grind_polynomials.specs.Sums.{behind}
use Rattle.grind_normal_forms.specs.Reduction.{scaled}
use Rattle.grind_normal_forms.proofs.scaling.scale.Given as goal

abbrev pub invariant-loop-term : goal.invariant-loop-term
invariant-loop-term l = behind l.all (scaled l.fn.number l.rest) ≡ scaled l.fn.number l.fn.terms

abbrev pub decreases-loop-term : goal.decreases-loop-term
decreases-loop-term l = length l.rest
