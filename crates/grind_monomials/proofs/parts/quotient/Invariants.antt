use Rattle.std.specs.Prelude.{◌≡◌, ◌+◌, ◌++◌, length}
use Rattle.grind_monomials.specs.Monomials.{quotient}
use Rattle.grind_monomials.proofs.parts.quotient.Given as goal

abbrev pub invariant-loop-x : goal.invariant-loop-x
invariant-loop-x l = l.all ++ quotient l.rest l.others ≡ quotient l.fn.a l.fn.b

abbrev pub decreases-loop-x : goal.decreases-loop-x
decreases-loop-x l = length l.rest + length l.others
