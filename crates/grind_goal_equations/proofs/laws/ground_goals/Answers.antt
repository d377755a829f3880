use Rattle.grind_goal_equations.proofs.LawLemmas.{ground_goals_decided}
use Rattle.grind_goal_equations.proofs.laws.ground_goals.Goals as goal

pub returns : goal.returns
returns c = ground_goals_decided
