use Rattle.std.proofs.Common.{length}
use Rattle.grind_ematch.proofs.ThinningLemmas.{IsListing}
use Rattle.grind_ematch.proofs.thinning.listed.Given as goal

abbrev pub invariant-loop-slots : goal.invariant-loop-slots
invariant-loop-slots l = IsListing l.fn.least.entries l.found l.rest.entries

abbrev pub decreases-loop-slots : goal.decreases-loop-slots
decreases-loop-slots l = length l.rest.entries
