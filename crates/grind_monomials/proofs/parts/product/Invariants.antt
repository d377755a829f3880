use Rattle.std.specs.Prelude.{◌≡◌, ◌+◌, ◌++◌, length}
use Rattle.grind_monomials.specs.Monomials.{product}
use Rattle.grind_monomials.proofs.parts.product.Given as goal

abbrev pub invariant-loop-x : goal.invariant-loop-x
invariant-loop-x l = l.all ++ product l.rest l.others ≡ product l.fn.a l.fn.b

abbrev pub decreases-loop-x : goal.decreases-loop-x
decreases-loop-x l = length l.rest + length l.others
