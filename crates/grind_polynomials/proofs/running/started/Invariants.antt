use Rattle.std.specs.Prelude.{◌≡◌, ◌++◌, length}
use Rattle.grind_polynomials.specs.Running.{terms_of}
use Rattle.grind_polynomials.proofs.running.started.Given as goal

abbrev pub invariant-loop-x : goal.invariant-loop-x
invariant-loop-x l = terms_of l.sum ++ l.rest ≡ l.fn.terms

abbrev pub decreases-loop-x : goal.decreases-loop-x
decreases-loop-x l = length l.rest
