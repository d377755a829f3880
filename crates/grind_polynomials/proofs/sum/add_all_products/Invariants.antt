use Rattle.std.specs.Prelude.{◌≡◌, length}
use Rattle.grind_polynomials.specs.Running.{terms_of}
use Rattle.grind_polynomials.specs.Sums.{with_all_products}
use Rattle.grind_polynomials.proofs.sum.add_all_products.Given as goal

abbrev pub invariant-loop-q : goal.invariant-loop-q
invariant-loop-q l = with_all_products l.rest l.fn.bs (terms_of l.sum) ≡ with_all_products l.fn.qs l.fn.bs (terms_of l.fn.sum)

abbrev pub decreases-loop-q : goal.decreases-loop-q
decreases-loop-q l = length l.rest
