use Rattle.std.proofs.Common.{length}
use Rattle.grind_cutsat_cuts.proofs.DivisorLemmas.{IsSharedSoFar}
use Rattle.grind_cutsat_cuts.proofs.divisor.shared.Given as goal

abbrev pub invariant-loop-part : goal.invariant-loop-part
invariant-loop-part l = IsSharedSoFar l.fn.parts l.rest l.all

abbrev pub decreases-loop-part : goal.decreases-loop-part
decreases-loop-part l = length l.rest
