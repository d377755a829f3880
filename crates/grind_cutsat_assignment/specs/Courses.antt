-- The walk from the greatest atom down. No public clause cites these words.
use Rattle.std.specs.Prelude.{◌≡◌, ◌⊎◌, ℕ, suc, ◌≤◌, Bool, List, ℤ, pos, slice_set}
use Rattle.grind_cutsat_facts.specs.declared.facts.Fact.{Fact}
use Rattle.grind_cutsat_bounds.specs.declared.choice.Choice.TheVariants as choices
use Rattle.grind_cutsat_assignment.specs.declared.walk.Stop.{Stop}
use Rattle.grind_cutsat_assignment.specs.declared.walk.Stop.TheVariants as stops
use Rattle.grind_cutsat_assignment.specs.declared.walk.Walk.{Walk}
use Rattle.grind_cutsat_assignment.specs.declared.walk.Walk.TheVariants as walks
use Rattle.grind_cutsat_bounds.specs.Evaluations.{value_of}
use Rattle.grind_cutsat_bounds.specs.Bounds.{IsBetween}
use Rattle.grind_cutsat_bounds.specs.Nearest.{IsNearest}
use Rattle.grind_cutsat_bounds.specs.Choices.{IsChoice}
use Rattle.grind_cutsat_assignment.specs.Walks.{Marks}

-- the walk ends at this node: its bounds enclose no number, or one does not fit
abbrev pub IsStop : List Fact → (ℕ → ℤ) → ℕ → Stop → Type 0
IsStop facts v n (stops.Gap node floor) = (node ≡ n) × IsChoice v facts n (choices.Gap floor)
IsStop facts v n (stops.Unfit node post) = (node ≡ n) × IsChoice v facts n (choices.Unfit post)

-- the node has got the number nearest to 0 between its bounds
abbrev pub IsSettled : List Fact → ℕ → List ℤ → List ℤ → Type 0
IsSettled facts n old new =
    (value : ℤ) × (new ≡ slice_set old n value) × IsNearest (IsBetween (value_of old) facts n) value

-- the node is not marked, and nothing changed, or it is and has got its number
abbrev pub IsVisited : List Fact → List Bool → ℕ → List ℤ → List ℤ → Type 0
IsVisited facts marks n old new = ((Marks marks n → ⊥) × (new ≡ old)) ⊎ (Marks marks n × IsSettled facts n old new)

-- the marked nodes from this one on have the values that they have to have, and no other node has any
pub record AreSettled (facts : List Fact) (marks : List Bool) (least : ℕ) (v : ℕ → ℤ) : Type 0 where
  pub right : (n : ℕ) → least ≤ n → Marks marks n → IsNearest (IsBetween v facts n) (v n)
  pub elsewhere : (n : ℕ) → ¬ Marks marks n → v n ≡ pos 0

-- how a walk ended
abbrev pub IsWalk : List Fact → List Bool → Walk → Type 0
IsWalk facts marks (walks.Values values) = AreSettled facts marks 0 (value_of values)
IsWalk facts marks (walks.Stopped stop) =
    (n : ℕ) × (v : ℕ → ℤ) × Marks marks n × AreSettled facts marks (suc n) v × IsStop facts v n stop
