-- Which lines are written for the pairs that a goal gives.
use Rattle.std.specs.Prelude.{ℕ, ◌≡◌, ◌+◌, ◌<◌, true, List, Some, All, length, slice_get}
use Rattle.grind_congruence.specs.declared.edge.Edge.{Edge}
use Rattle.grind_congruence.specs.Congruence.{Congruence}
use Rattle.grind_goal_equations.specs.Building.{HasEnds}
use Rattle.grind_schemes.specs.Goals.{GoalData}
use Rattle.grind_schemes.specs.declared.lemmas.Lemmas.{Lemmas}
use Rattle.grind_claims.specs.declared.claim.Claim.TheVariants.{Same}
use Rattle.grind_claims.specs.declared.proof.Line.{Line}
use Rattle.grind_claims.specs.declared.proof.Proof.{Proof}
use Rattle.grind_congruence.specs.Derivable.Derivable.{given}
use Rattle.grind_needed_edges.specs.declared.why.Why.{Why}
use Rattle.grind_needed_edges.specs.declared.why.Why.TheVariants as why
use Rattle.grind_goal_equations.specs.declared.fact.Fact.{Fact}
use Rattle.grind_goal_equations.specs.Given.{IsGivenEdge}
use Rattle.grind_goal_equations.specs.Facts.{IsFact, equates}
use Rattle.grind_given_lines.specs.Writing.{IsRooted}
use Rattle.grind_proof_writer.specs.Lines.{Tells}

-- the reason is a line of the root that claims that the terms of the fact are equal
pub record IsLineOf (proof : Proof) (reason : Why) (fact : Fact) : Type 0 where
  pub line : ℕ
  pub is : reason ≡ why.Line line
  pub tells : Tells proof 0 line (Same fact.reading.left fact.reading.right)

-- where the source says that two terms are equal, the reason is a line that claims so
pub record IsReasonOf (goal : GoalData) (proof : Proof) (source : ℕ) (reason : Why) : Type 0 where
  pub each : (fact : Fact) → IsFact goal fact → fact.source ≡ source → equates fact ≡ true → IsLineOf proof reason fact

-- such a reason stands at the number after the source's
pub record HasReason (goal : GoalData) (proof : Proof) (whys : List Why) (source : ℕ) : Type 0 where
  pub reason : Why
  pub stands : slice_get whys (source + 1) ≡ Some reason
  pub is : IsReasonOf goal proof source reason

-- it does for each source before the bound, and the number 0 is for congruences
pub record AreWritten (goal : GoalData) (proof : Proof) (whys : List Why) (bound : ℕ) : Type 0 where
  pub congruence : slice_get whys 0 ≡ Some why.Congruence
  pub count : length whys ≡ bound + 1
  pub each : (source : ℕ) → source < bound → HasReason goal proof whys source

-- the line that is written for the number of the edge claims that its ends are equal
pub record IsTold (proof : Proof) (whys : List Why) (edge : Edge) : Type 0 where
  pub line : ℕ
  pub why : slice_get whys edge.why ≡ Some (why.Line line)
  pub tells : Tells proof 0 line (Same edge.left edge.right)

-- each edge is told and given, and the number 0 is for congruences
pub record IsLedger (lemmas : Lemmas) (goal : GoalData) (proof : Proof) (whys : List Why) (given : List Edge) : Type 0 where
  pub rooted : IsRooted lemmas goal proof
  pub congruence : slice_get whys 0 ≡ Some why.Congruence
  pub told : All (IsTold proof whys) given
  pub pairs : All (IsGivenEdge goal) given
  pub ends : All (HasEnds goal.terms.nodes) given
