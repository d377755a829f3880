use Rattle.grind_goal_equations.specs.Given.{HoldsOutBelow}
use Rattle.grind_goal_equations.proofs.refuted.first_refuted.Given as goal

abbrev pub invariant-loop-k : goal.invariant-loop-k
invariant-loop-k l = HoldsOutBelow l.fn.goal l.fn.closure l.k
