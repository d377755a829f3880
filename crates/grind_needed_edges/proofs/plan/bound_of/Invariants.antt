use Rattle.std.specs.Prelude.{length}
use Rattle.grind_needed_edges.specs.Planning.{IsBoundSoFar}
use Rattle.grind_needed_edges.proofs.plan.bound_of.Given as goal

abbrev pub invariant-loop-place : goal.invariant-loop-place
invariant-loop-place l = IsBoundSoFar l.fn.places l.rest l.bound

abbrev pub decreases-loop-place : goal.decreases-loop-place
decreases-loop-place l = length l.rest
