-- Right answers to a goal, as far as congruence decides it. The words of which these speak are passed on.
use Rattle.grind_schemes.specs.Goals.{GoalData}
use Rattle.grind_schemes.specs.declared.lemmas.Lemmas.{Lemmas}
pub use Rattle.grind_goal_equations.specs.Congruences.{CongruenceEntails, IsAnswered, ComparesTerms}
pub use Rattle.grind_given_lines.specs.Writing.{IsProofOf}
use Rattle.grind_case_split.specs.declared.plain.Plain.{Plain}
use Rattle.grind_case_split.specs.declared.plain.Plain.TheVariants as plain

-- the answer is right: a closed goal is answered, with a proof, and an unexplored one is not
abbrev pub IsRightFor : Lemmas → GoalData → Plain → Type 0
IsRightFor lemmas goal (plain.Closed proof) = IsAnswered goal × IsProofOf lemmas goal proof
IsRightFor lemmas goal plain.Unexplored = ¬ IsAnswered goal

-- the answer is right as far as congruence decides
abbrev pub IsDecided : Lemmas → GoalData → Plain → Type 0
IsDecided lemmas goal (plain.Closed proof) = CongruenceEntails goal × IsProofOf lemmas goal proof
IsDecided lemmas goal plain.Unexplored = ¬ CongruenceEntails goal
