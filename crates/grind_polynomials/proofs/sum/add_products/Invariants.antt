use Rattle.std.specs.Prelude.{◌≡◌, length}
use Rattle.grind_polynomials.specs.Running.{terms_of}
use Rattle.grind_polynomials.specs.Sums.{with_products}
use Rattle.grind_polynomials.proofs.sum.add_products.Given as goal

abbrev pub invariant-loop-b : goal.invariant-loop-b
invariant-loop-b l = with_products l.fn.q l.rest (terms_of l.sum) ≡ with_products l.fn.q l.fn.bs (terms_of l.fn.sum)

abbrev pub decreases-loop-b : goal.decreases-loop-b
decreases-loop-b l = length l.rest
