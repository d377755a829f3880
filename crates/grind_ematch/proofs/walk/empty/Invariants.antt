use Rattle.std.proofs.Common.{◌≡◌, None, replicate}
use Rattle.grind_ematch.proofs.walk.empty.Given as goal

abbrev pub invariant-loop-k : goal.invariant-loop-k
invariant-loop-k l = l.slots ≡ replicate l._k None
