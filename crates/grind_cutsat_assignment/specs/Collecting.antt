-- The list of the atoms with their values. No public clause cites these words.
use Rattle.std.specs.Prelude.{◌≡◌, ◌↔◌, ℕ, ◌<◌, Bool, List, ℤ}
use Rattle.grind_cutsat_assignment.specs.declared.outcome.Chosen.{Chosen}
use Rattle.grind_cutsat_assignment.specs.declared.outcome.Outcome.{Outcome}
use Rattle.grind_cutsat_assignment.specs.declared.outcome.Outcome.TheVariants as outcomes
use Rattle.grind_cutsat_assignment.specs.declared.walk.Stop.{Stop}
use Rattle.grind_cutsat_assignment.specs.declared.walk.Stop.TheVariants as stops
use Rattle.grind_cutsat_assignment.specs.Assignments.{chosen_value, IsChosenFor, RiseFrom}
use Rattle.grind_cutsat_assignment.specs.Walks.{Marks}

-- the answer to a walk that ended before the last atom
abbrev pub stop_outcome : Stop → Outcome
stop_outcome (stops.Gap node floor) = outcomes.Gap node floor
stop_outcome (stops.Unfit node post) = outcomes.Unfit post

-- the list has the marked nodes below this number, with their values
pub record AreCollected (marks : List Bool) (v : ℕ → ℤ) (count : ℕ) (list : List Chosen) : Type 0 where
  pub rise : RiseFrom 0 list
  pub below : (n : ℕ) → IsChosenFor list n → n < count
  pub marked : (n : ℕ) → n < count → IsChosenFor list n ↔ Marks marks n
  pub values : (n : ℕ) → IsChosenFor list n → chosen_value list n ≡ v n
