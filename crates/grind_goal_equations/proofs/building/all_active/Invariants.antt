use Rattle.grind_goal_equations.specs.Building.{IsActiveBelow}
use Rattle.grind_goal_equations.proofs.building.all_active.Given as goal

abbrev pub invariant-loop-number : goal.invariant-loop-number
invariant-loop-number l = IsActiveBelow l.fn.terms.nodes l.closure l.number
