use Rattle.std.specs.Prelude.{◌≡◌, ◌++◌, length}
use Rattle.grind_ring_solver.proofs.copies.facts_copied.Given as goal

-- what is copied and what is left are the whole
abbrev pub invariant-loop-it : goal.invariant-loop-it
invariant-loop-it l = l.copy ++ l.rest ≡ l.fn.facts

abbrev pub decreases-loop-it : goal.decreases-loop-it
decreases-loop-it l = length l.rest
