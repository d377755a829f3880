use Rattle.std.specs.Prelude.{◌≡◌, ◌+◌, length}
use Rattle.grind_linear_forms.specs.Sums.{behind, merged}
use Rattle.grind_linear_forms.proofs.sum.merge.Given as goal

abbrev pub invariant-loop-x : goal.invariant-loop-x
invariant-loop-x l = behind l.done (merged l.m l.rest l.k l.others) ≡ merged l.fn.m l.fn.left l.fn.k l.fn.right

abbrev pub decreases-loop-x : goal.decreases-loop-x
decreases-loop-x l = length l.rest + length l.others
