use Rattle.std.proofs.Common.{length}
use Rattle.grind_tokens.proofs.Progress.{Reads}
use Rattle.grind_tokens.proofs.tokens.tokens.Given as goal

abbrev pub invariant-loop-rest : goal.invariant-loop-rest
invariant-loop-rest l = Reads l.fn.text l.tokens l.at l.rest

abbrev pub decreases-loop-rest : goal.decreases-loop-rest
decreases-loop-rest l = length l.rest
