use Rattle.std.proofs.Common.{◌≤◌}
use Rattle.grind_ematch.proofs.waiting.shared_count.Given as goal

abbrev pub invariant-loop-variable : goal.invariant-loop-variable
invariant-loop-variable l = l.count ≤ l.variable
