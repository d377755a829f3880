use Rattle.std.specs.Prelude.{◌≡◌, reverse, length}
use Rattle.grind_polynomials.specs.Rows.{all_of, AreAbove}
use Rattle.grind_polynomials.specs.Sums.{signed, behind, with_more}
use Rattle.grind_polynomials.proofs.put.put_behind.Given as goal

abbrev pub invariant-loop-x : goal.invariant-loop-x
invariant-loop-x l =
    (behind l.done (with_more (signed l.fn.minus l.fn.coefficient) l.fn.monomial (reverse l.rest))
    ≡ with_more (signed l.fn.minus l.fn.coefficient) l.fn.monomial (all_of l.fn.parts))
    × AreAbove l.fn.monomial l.done

abbrev pub decreases-loop-x : goal.decreases-loop-x
decreases-loop-x l = length l.rest
