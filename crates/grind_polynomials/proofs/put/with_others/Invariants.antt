use Rattle.std.specs.Prelude.{◌≡◌, ◌++◌, reverse, length}
use Rattle.grind_polynomials.proofs.put.with_others.Given as goal

abbrev pub invariant-loop-x : goal.invariant-loop-x
invariant-loop-x l = l.all ++ reverse l.rest ≡ l.fn.terms ++ reverse l.fn.others

abbrev pub decreases-loop-x : goal.decreases-loop-x
decreases-loop-x l = length l.rest
