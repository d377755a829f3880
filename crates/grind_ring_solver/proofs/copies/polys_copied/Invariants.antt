use Rattle.std.specs.Prelude.{◌≡◌, ◌++◌, length}
use Rattle.grind_ring_solver.proofs.copies.polys_copied.Given as goal

-- what is copied and what is left are the whole
abbrev pub invariant-loop-poly : goal.invariant-loop-poly
invariant-loop-poly l = l.copy ++ l.rest ≡ l.fn.polys

abbrev pub decreases-loop-poly : goal.decreases-loop-poly
decreases-loop-poly l = length l.rest
