use Rattle.std.specs.Prelude.{◌≡◌, ◌++◌, length}
use Rattle.grind_polynomials.specs.Running.{terms_of}
use Rattle.grind_polynomials.proofs.running.written.Given as goal

abbrev pub invariant-loop-key : goal.invariant-loop-key
invariant-loop-key l = l.all ++ terms_of l.rest ≡ terms_of l.fn.sum

abbrev pub decreases-loop-key : goal.decreases-loop-key
decreases-loop-key l = length l.rest.entries
