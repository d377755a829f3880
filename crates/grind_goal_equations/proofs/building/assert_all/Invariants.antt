use Rattle.std.specs.Prelude.{length}
use Rattle.grind_goal_equations.specs.Building.{IsAsserting}
use Rattle.grind_goal_equations.proofs.building.assert_all.Given as goal

abbrev pub invariant-loop-edge : goal.invariant-loop-edge
invariant-loop-edge l = IsAsserting l.fn.terms.nodes l.fn.given l.rest l.closure

abbrev pub decreases-loop-edge : goal.decreases-loop-edge
decreases-loop-edge l = length l.rest
