use Rattle.std.proofs.Common.{length}
use Rattle.grind_ematch.proofs.BucketLemmas.{IsSorting}
use Rattle.grind_ematch.proofs.buckets.buckets.Given as goal

abbrev pub invariant-loop-partial : goal.invariant-loop-partial
invariant-loop-partial l = IsSorting l.variables l.fn.list l.found.entries l.rest

abbrev pub decreases-loop-partial : goal.decreases-loop-partial
decreases-loop-partial l = length l.rest
