use Rattle.std.specs.Prelude.{◌≡◌, length}
use Rattle.grind_polynomials.specs.Polynomials.{IsPoly}
use Rattle.grind_polynomials.specs.Rows.{all_of, AreAboveNext}
use Rattle.grind_polynomials.specs.Sums.{with_multiples}
use Rattle.grind_polynomials.proofs.multiples.add_multiples.Given as goal

abbrev pub invariant-loop-b : goal.invariant-loop-b
invariant-loop-b l =
    (with_multiples l.fn.by.minus l.fn.by.coefficient l.fn.by.monomial.now l.rest (all_of l.parts)
    ≡ with_multiples l.fn.by.minus l.fn.by.coefficient l.fn.by.monomial.now l.fn.bs l.fn.terms)
    × IsPoly l.rest × AreAboveNext l.fn.by.monomial.now l.rest l.parts.done

abbrev pub decreases-loop-b : goal.decreases-loop-b
decreases-loop-b l = length l.rest
