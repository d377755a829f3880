use Rattle.std.proofs.Common.{length}
use Rattle.grind_patterns.specs.Patterns.{hypotheses_of}
use Rattle.grind_patterns.proofs.WalkLemmas.{IsWalking}
use Rattle.grind_patterns.proofs.body.walk_hypotheses.Given as goal

abbrev pub invariant-loop-hyp : goal.invariant-loop-hyp
invariant-loop-hyp l = IsWalking l.fn.taken (hypotheses_of l.fn.body) l.taken (hypotheses_of l.rest)

abbrev pub decreases-loop-hyp : goal.decreases-loop-hyp
decreases-loop-hyp l = length (hypotheses_of l.rest)
