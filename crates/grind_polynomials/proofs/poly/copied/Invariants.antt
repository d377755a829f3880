use Rattle.std.specs.Prelude.{◌≡◌, ◌++◌, length}
use Rattle.grind_polynomials.proofs.poly.copied.Given as goal

abbrev pub invariant-loop-term : goal.invariant-loop-term
invariant-loop-term l = l.all ++ l.rest ≡ l.fn.terms

abbrev pub decreases-loop-term : goal.decreases-loop-term
decreases-loop-term l = length l.rest
