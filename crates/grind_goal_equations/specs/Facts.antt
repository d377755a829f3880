-- What the sources of a goal, its hypotheses and the denial of its conclusion, say of two terms.
use Rattle.std.specs.Prelude.{ℕ, ◌≡◌, ◌<◌, Bool, true, false, List, Some, slice_get, length}
use Rattle.grind_term_graph.specs.declared.node.Node.{Node}
use Rattle.grind_term_graph.specs.Terms.{prop, sort_at}
use Rattle.grind_schemes.specs.Goals.{GoalData}
use Rattle.grind_claims.specs.Claims.{AreOfOneSort}
use Rattle.grind_term_rules.specs.TermRules.{IsEquation}
use Rattle.grind_truth_tables.specs.Tables.{alike}
use Rattle.grind_goal_equations.specs.declared.fact.Fact.{Fact}
use Rattle.grind_goal_equations.specs.declared.fact.Reading.{Reading}
use Rattle.grind_goal_equations.specs.Congruences.{IsNegation}

-- the formula is an equation of two terms, or the negation of one
abbrev pub IsReadAs : List Node → ℕ → Bool → ℕ → ℕ → ℕ → Type 0
IsReadAs nodes node true equation left right = (equation ≡ node) × IsEquation nodes node left right
IsReadAs nodes node false equation left right = IsNegation nodes node equation × IsEquation nodes equation left right

abbrev pub IsReading : List Node → ℕ → Reading → Type 0
IsReading nodes node reading = IsReadAs nodes node reading.plain reading.equation reading.left reading.right

-- the sides of the equation have one sort, and it is a formula
pub record IsSorted (nodes : List Node) (node : ℕ) (reading : Reading) : Type 0 where
  pub sides : AreOfOneSort nodes reading.left reading.right
  pub left : reading.left < length nodes
  pub right : reading.right < length nodes
  pub formula : sort_at nodes reading.equation ≡ Some prop

-- source k says that the formula holds: it is hypothesis k. Or that it fails: k is the number of hypotheses, and the formula
-- the conclusion
abbrev pub IsSaid : GoalData → ℕ → Bool → ℕ → Type 0
IsSaid goal k true node = slice_get goal.hyps k ≡ Some node
IsSaid goal k false node = (k ≡ length goal.hyps) × (node ≡ goal.show)

-- the fact is what its source says
pub record IsFact (goal : GoalData) (fact : Fact) : Type 0 where
  pub said : IsSaid goal fact.source fact.holds fact.node
  pub reading : IsReading goal.terms.nodes fact.node fact.reading
  pub sorted : IsSorted goal.terms.nodes fact.node fact.reading
  pub formula : sort_at goal.terms.nodes fact.node ≡ Some prop

-- whether the fact says that its terms are equal
abbrev pub equates : Fact → Bool
equates fact = alike fact.holds fact.reading.plain

-- some source of the goal says of these two terms that they are equal, or different
pub record HasFact (goal : GoalData) (same : Bool) (a b : ℕ) : Type 0 where
  pub fact : Fact
  pub is : IsFact goal fact
  pub equates : equates fact ≡ same
  pub left : fact.reading.left ≡ a
  pub right : fact.reading.right ≡ b
