use Rattle.std.proofs.Common.{length}
use Rattle.grind_ematch.proofs.JoinLemmas.{IsGathering}
use Rattle.grind_ematch.proofs.walk.append.Given as goal

abbrev pub invariant-loop-partial : goal.invariant-loop-partial
invariant-loop-partial l = IsGathering l.fn.found l.fn.list l.found l.rest

abbrev pub decreases-loop-partial : goal.decreases-loop-partial
decreases-loop-partial l = length l.rest
