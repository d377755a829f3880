use Rattle.std.proofs.Common.{[], true, pos, sym, ◌∙◌}
use Rattle.grind_polynomials.specs.Sums.{with_multiples}
use Rattle.grind_polynomials.proofs.Falling.{poly-multiples}
use Rattle.grind_polynomials.proofs.sum.negation.Goals as goal

pub invariant_of-result : goal.invariant_of-result
invariant_of-result c =
    poly-multiples true (pos 1) [] c.args.a.now [] c.in_ok-terms.terms tt c.terms.ensures.keeps tt
    ((λ i. with_multiples true (pos 1) [] (sym c.terms.ensures.value i) (sym c.new.ensures i)) ∙ c.in_ok-terms.ensures.ok)
