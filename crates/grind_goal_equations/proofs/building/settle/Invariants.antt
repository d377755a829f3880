use Rattle.grind_goal_equations.specs.Building.{IsBuilt, KeepsTogether, class_count}
use Rattle.grind_goal_equations.proofs.building.settle.Given as goal

abbrev pub invariant-loop : goal.invariant-loop
invariant-loop l = record { built : IsBuilt l.fn.terms.nodes l.fn.given l.closure; keeps : KeepsTogether l.fn.closure l.closure }

abbrev pub decreases-loop : goal.decreases-loop
decreases-loop l = class_count l.closure.lists
