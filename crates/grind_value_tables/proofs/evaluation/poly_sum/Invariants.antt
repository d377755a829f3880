use Rattle.std.specs.Prelude.{◌≡◌, ◌<◌, All, length}
use Rattle.grind_polynomials.specs.declared.poly.Term as terms
use Rattle.grind_value_tables.specs.Overflows.{value_of}
use Rattle.grind_value_tables.specs.Evaluations as specs
use Rattle.grind_value_tables.proofs.evaluation.poly_sum.Given as goal

abbrev pub invariant-loop-term : goal.invariant-loop-term
invariant-loop-term l =
    All (λ (term : terms.Term). All (λ n. n < length l.list) term.monomial) l.rest
    × (specs.along (specs.with_term (value_of l.list)) l.sum l.rest ≡ specs.poly_sum (value_of l.list) l.fn.poly)

abbrev pub decreases-loop-term : goal.decreases-loop-term
decreases-loop-term l = length l.rest
