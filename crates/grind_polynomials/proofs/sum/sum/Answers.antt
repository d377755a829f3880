use Rattle.std.proofs.Common.{[], false, pos, sym, ◌∙◌}
use Rattle.grind_polynomials.specs.Sums.{with_multiples}
use Rattle.grind_polynomials.proofs.Falling.{poly-multiples}
use Rattle.grind_polynomials.proofs.sum.sum.Goals as goal

pub invariant_of-result : goal.invariant_of-result
invariant_of-result c =
    let start = sym c.terms.ensures.value ∙ sym c.in_ok-start.ensures in
    poly-multiples false (pos 1) [] c.args.b.now c.args.a.now c.in_ok-terms.terms tt c.terms-2.ensures.keeps c.terms.ensures.keeps
    ((λ i. with_multiples false (pos 1) [] (sym c.terms-2.ensures.value i) (start i)) ∙ c.in_ok-terms.ensures.ok)
