-- What holds of all goals that congruence decides, for the crates above.
pub use Rattle.grind_goal_equations.specs.Laws.{GroundGoals}
