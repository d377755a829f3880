-- What is known of the outcome of a goal.
use Rattle.std.specs.Prelude.{◌≡◌, length, All}
use Rattle.grind_schemes.specs.Goals.{GoalData}
use Rattle.grind_schemes.specs.declared.lemmas.Lemmas.{Lemmas}
use Rattle.grind_claims.specs.declared.proof.Line.{Line}
use Rattle.grind_claims.specs.declared.proof.Proof.{Proof}
use Rattle.grind_proof_kernel.specs.Typing.{Typed}
use Rattle.grind_goal_equations.specs.Congruences.{IsAnswered, CongruenceEntails}
use Rattle.grind_report.specs.declared.report.Outcome.{Outcome}
use Rattle.grind_report.specs.declared.report.Outcome.TheVariants as outcomes
use Rattle.grind_report.specs.Report.{TakesPremises}
use Rattle.grind_report.specs.Blocks.{widest}
use Rattle.grind_answers.specs.Answers.{IsTrueEverywhere, IsGroundGoal}

-- a proof over the terms of the goal that is typed for it, so that the goal is true wherever these are respected
pub record ProvesGoal (lemmas : Lemmas) (goal : GoalData) (proof : Proof) : Type 0 where
  pub answered : IsAnswered goal
  pub entailed : IsGroundGoal goal → CongruenceEntails goal
  pub typed : Typed lemmas goal proof
  pub true_everywhere : IsTrueEverywhere goal proof
  pub nodes : proof.terms.nodes ≡ goal.terms.nodes
  pub limit : proof.terms.limit ≡ widest
  pub counts : All (λ (line : Line). TakesPremises line.rule (length line.premises)) proof.lines

-- a goal is closed exactly where its conclusion is a hypothesis or congruence entails it, and a ground equality goal exactly
-- where congruence entails it
abbrev pub IsOutcomeOf : Lemmas → GoalData → Outcome → Type 0
IsOutcomeOf lemmas goal (outcomes.Closed proof) = ProvesGoal lemmas goal proof
IsOutcomeOf lemmas goal outcomes.Unexplored = (¬ IsAnswered goal) × (IsGroundGoal goal → ¬ CongruenceEntails goal)
