-- What holds of goals that say nothing but which terms are equal and different.
use Rattle.std.specs.Prelude.{[], All, ◌↔◌}
use Rattle.grind_term_graph.specs.Shape.{IsTable}
use Rattle.grind_schemes.specs.Goals.{GoalData}
use Rattle.grind_goal_equations.specs.Congruences.{CongruenceEntails, IsAnswered, ComparesTerms}

-- a goal over a table of terms, all of whose hypotheses and whose conclusion are equations and negated equations, is
-- answered exactly where it follows by congruence
abbrev pub GroundGoals : Type 0
GroundGoals =
    (goal : GoalData) → IsTable [] goal.terms.nodes → All (ComparesTerms goal) goal.hyps → ComparesTerms goal goal.show
    → IsAnswered goal ↔ CongruenceEntails goal
