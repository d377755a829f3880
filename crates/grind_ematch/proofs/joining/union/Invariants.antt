use Rattle.std.proofs.Common.{length}
use Rattle.grind_ematch.proofs.UnionLemmas.{IsHalfUnion}
use Rattle.grind_ematch.proofs.joining.union.Given as goal

abbrev pub decreases-loop-one : goal.decreases-loop-one
decreases-loop-one l = length l.rest

abbrev pub invariant-loop-one : goal.invariant-loop-one
invariant-loop-one l = IsHalfUnion l.left l.right l.both l.rest l.others
