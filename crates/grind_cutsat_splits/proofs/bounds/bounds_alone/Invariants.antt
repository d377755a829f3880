use Rattle.std.proofs.Common.{length}
use Rattle.grind_cutsat_splits.specs.Alone.{AreBoundsSoFar}
use Rattle.grind_cutsat_splits.proofs.bounds.bounds_alone.Given as goal

abbrev pub invariant-loop-fact : goal.invariant-loop-fact
invariant-loop-fact l = AreBoundsSoFar l.fn.facts l.rest l.bounds

abbrev pub decreases-loop-fact : goal.decreases-loop-fact
decreases-loop-fact l = length l.rest
