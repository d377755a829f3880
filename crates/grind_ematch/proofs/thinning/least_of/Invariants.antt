use Rattle.std.proofs.Common.{length}
use Rattle.grind_ematch.proofs.ThinningLemmas.{IsThinning}
use Rattle.grind_ematch.proofs.thinning.least_of.Given as goal

abbrev pub invariant-loop-partial : goal.invariant-loop-partial
invariant-loop-partial l = IsThinning l.fn.list l.least.entries l.rest

abbrev pub decreases-loop-partial : goal.decreases-loop-partial
decreases-loop-partial l = length l.rest
