-- What the making of a plan keeps. No public clause cites these words.
use Rattle.std.specs.Prelude.{◌≡◌, ℕ, ◌<◌, ◌≤◌, Bool, true, List, [], ◌∷◌, ◌++◌, All, length, set}
use Rattle.std.specs.List.{AllZip}
use Rattle.grind_term_graph.specs.declared.node.Node.{Node}
use Rattle.grind_congruence.specs.declared.edge.Edge.{Edge}
use Rattle.grind_needed_edges.specs.declared.why.Why.{Why}
use Rattle.grind_needed_edges.specs.declared.plan.Plan.{Plan}
use Rattle.grind_needed_edges.specs.Numbered.{pair_of, HasNumber, KeepsNumbers}
use Rattle.grind_needed_edges.specs.Plans.{IsNeeded, AreWays, IsCovered}

-- these places are needed too
abbrev pub set_all : List Bool → List ℕ → List Bool
set_all needed [] = needed
set_all needed (place ∷ places) = set_all (set needed place true) places

-- the way of a and b is in the plan, with the next number
pub record IsWayKept (old : Plan) (a b : ℕ) (places : List ℕ) (new : Plan) : Type 0 where
  pub needed : new.needed ≡ set_all old.needed places
  pub ways : new.ways ≡ old.ways ++ places ∷ []
  pub pairs : new.pairs ≡ old.pairs ++ (pair_of a b, length old.ways) ∷ []

-- more is planned: each pair keeps its way, and no edge at the bound or above is needed that was not
pub record Extends (old new : Plan) (bound : ℕ) : Type 0 where
  pub long : length new.needed ≡ length old.needed
  pub needed : (place : ℕ) → IsNeeded old.needed place → IsNeeded new.needed place
  pub above : (place : ℕ) → bound ≤ place → IsNeeded new.needed place → IsNeeded old.needed place
  pub pairs : KeepsNumbers old.pairs new.pairs

-- what a loop over the pairs of two rows keeps: what the rest needs completes what is needed
pub record AreHalfCovered (edges : List Edge) (old now : Plan) (place : ℕ) (lefts rights left right : List ℕ) : Type 0 where
  pub extends : Extends old now place
  pub ways : AreWays edges now
  pub covers : (later : Plan) → Extends now later place → AllZip (HasNumber later.pairs) left right → AllZip (HasNumber later.pairs) lefts rights

-- what a loop from the last place down keeps
pub record AreCoveredFrom (nodes : List Node) (edges : List Edge) (whys : List Why) (old now : Plan) (place : ℕ) : Type 0 where
  pub long : length now.needed ≡ length old.needed
  pub pairs : KeepsNumbers old.pairs now.pairs
  pub ways : AreWays edges now
  pub covers : (p : ℕ) → place ≤ p → IsCovered nodes edges whys now p

-- the least number above all of these
pub record IsBound (places : List ℕ) (bound : ℕ) : Type 0 where
  pub above : All (λ place. place < bound) places
  pub least : (k : ℕ) → All (λ place. place < k) places → bound ≤ k

-- what a loop over places keeps: the bound so far is above those that were seen, and no higher than is needed
pub record IsBoundSoFar (places rest : List ℕ) (bound : ℕ) : Type 0 where
  pub above : (n : ℕ) → bound ≤ n → All (λ place. place < n) rest → All (λ place. place < n) places
  pub least : (k : ℕ) → All (λ place. place < k) places → bound ≤ k
  pub left : (k : ℕ) → All (λ place. place < k) places → All (λ place. place < k) rest
