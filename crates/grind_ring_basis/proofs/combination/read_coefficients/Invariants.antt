use Rattle.std.specs.Prelude.{length}
use Rattle.grind_arithmetic_rules.specs.PolyRules.{CoefficientsFit}
use Rattle.grind_ring_basis.proofs.combination.read_coefficients.Given as goal

abbrev pub invariant-loop-term : goal.invariant-loop-term
invariant-loop-term l = CoefficientsFit l.rest → CoefficientsFit l.fn.terms

abbrev pub decreases-loop-term : goal.decreases-loop-term
decreases-loop-term l = length l.rest
