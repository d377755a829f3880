-- What is kept while the given pairs of a goal are found and written down, and which facts a closure refutes.
use Rattle.std.specs.Prelude.{ℕ, ◌≡◌, ◌+◌, ◌<◌, true, false, List, Contains}
use Rattle.grind_schemes.specs.Goals.{GoalData}
use Rattle.grind_classes.specs.Classes.{AreTogether}
use Rattle.grind_congruence.specs.declared.edge.Edge.{Edge}
use Rattle.grind_congruence.specs.Congruence.{Congruence}
use Rattle.grind_goal_equations.specs.declared.fact.Fact.{Fact}
use Rattle.grind_goal_equations.specs.Congruences.{IsGiven, IsDenied}
use Rattle.grind_goal_equations.specs.Facts.{IsFact, equates}

-- a source of the goal says that the ends of the edge are equal, and the edge's number is the one after the source's
pub record IsOfSource (goal : GoalData) (edge : Edge) : Type 0 where
  pub fact : Fact
  pub is : IsFact goal fact
  pub equates : equates fact ≡ true
  pub number : edge.why ≡ fact.source + 1
  pub left : fact.reading.left ≡ edge.left
  pub right : fact.reading.right ≡ edge.right

-- the goal gives the pair of the edge
abbrev pub IsGivenEdge : GoalData → Edge → Type 0
IsGivenEdge goal edge = IsGiven goal edge.left edge.right

-- the pair is that of an edge
pub record HasPair (given : List Edge) (a b : ℕ) : Type 0 where
  pub edge : Edge
  pub among : Contains given edge
  pub left : edge.left ≡ a
  pub right : edge.right ≡ b

-- no pair is lost
pub record KeepsPairs (old new : List Edge) : Type 0 where
  pub stays : (a b : ℕ) → HasPair old a b → HasPair new a b

-- the pair that this source gives, if it does, is that of an edge
pub record Covers (goal : GoalData) (given : List Edge) (source : ℕ) : Type 0 where
  pub each : (fact : Fact) → IsFact goal fact → fact.source ≡ source → equates fact ≡ true
      → HasPair given fact.reading.left fact.reading.right

-- the same of all sources before the bound
pub record CoversBelow (goal : GoalData) (given : List Edge) (bound : ℕ) : Type 0 where
  pub each : (source : ℕ) → source < bound → Covers goal given source

-- each pair that the goal gives is that of an edge
pub record CoversAll (goal : GoalData) (given : List Edge) : Type 0 where
  pub each : (a b : ℕ) → IsGiven goal a b → HasPair given a b

-- the fact says that two terms are different, which are together
pub record IsRefuted (goal : GoalData) (closure : Congruence) (fact : Fact) : Type 0 where
  pub is : IsFact goal fact
  pub differs : equates fact ≡ false
  pub together : AreTogether closure.lists fact.reading.left fact.reading.right

-- the source says of no two terms that are together that they are different
pub record HoldsOut (goal : GoalData) (closure : Congruence) (source : ℕ) : Type 0 where
  pub each : (fact : Fact) → IsFact goal fact → fact.source ≡ source → equates fact ≡ false
      → AreTogether closure.lists fact.reading.left fact.reading.right → ⊥

-- the same of all sources before the bound
pub record HoldsOutBelow (goal : GoalData) (closure : Congruence) (bound : ℕ) : Type 0 where
  pub each : (source : ℕ) → source < bound → HoldsOut goal closure source

-- no pair that the goal denies is together
pub record NoneRefuted (goal : GoalData) (closure : Congruence) : Type 0 where
  pub each : (a b : ℕ) → IsDenied goal a b → AreTogether closure.lists a b → ⊥
