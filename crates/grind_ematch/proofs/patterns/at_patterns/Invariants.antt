use Rattle.grind_ematch.proofs.WaitingLemmas.{AreJoined, waiting_count}
use Rattle.grind_ematch.proofs.patterns.at_patterns.Given as goal

abbrev pub decreases-loop-list : goal.decreases-loop-list
decreases-loop-list l = waiting_count l.waiting

abbrev pub invariant-loop-list : goal.invariant-loop-list
invariant-loop-list l = AreJoined l.query l.patterns l.waiting l.found
