use Rattle.grind_ematch.specs.Buckets.{HaveRoots}
use Rattle.grind_ematch.proofs.joining.shared.Given as goal

abbrev pub invariant-loop-variable : goal.invariant-loop-variable
invariant-loop-variable l = HaveRoots l.left l.found × HaveRoots l.right l.found
