use Rattle.std.specs.Prelude.{length}
use Rattle.grind_reach.proofs.MarkLemmas.{SoFar}
use Rattle.grind_reach.proofs.marking.mark_all.Given as goal

abbrev pub invariant-loop-number : goal.invariant-loop-number
invariant-loop-number l = SoFar l.fn.marks l.marks l.fn.numbers l.rest

abbrev pub decreases-loop-number : goal.decreases-loop-number
decreases-loop-number l = length l.rest
