-- The same of a run of neighbours: the items from `from` on and before `to`.
use Rattle.std.specs.Prelude.{ℕ, ◌<◌, ◌≤◌, Option, Some, None}

-- each item of the run is true
abbrev pub IsTrueRun : (ℕ → Type 0) → ℕ → ℕ → Type 0
IsTrueRun holds from to = (i : ℕ) → from ≤ i → i < to → holds i

-- the item at this place stands in the run and is not true, and each of the run before it is
pub record IsFirstBadInRun (holds : ℕ → Type 0) (from to place : ℕ) : Type 0 where
  pub begins : from ≤ place
  pub stands : place < to
  pub bad : ¬ holds place
  pub before : (i : ℕ) → from ≤ i → i < place → holds i

-- what was found in the run is right: its first item that is not true, or that each is
abbrev pub IsFoundInRun : (ℕ → Type 0) → ℕ → ℕ → Option ℕ → Type 0
IsFoundInRun holds from to None = IsTrueRun holds from to
IsFoundInRun holds from to (Some place) = IsFirstBadInRun holds from to place

-- the item at this place stands in the run and was refused, and each of the run before it is true
pub record IsFirstRefusedInRun (holds refuses : ℕ → Type 0) (from to place : ℕ) : Type 0 where
  pub begins : from ≤ place
  pub stands : place < to
  pub refused : refuses place
  pub before : (i : ℕ) → from ≤ i → i < place → holds i

-- one item of the run was refused, and each of the run before it is true
abbrev pub IsRefusedInRun : (ℕ → Type 0) → (ℕ → Type 0) → ℕ → ℕ → Type 0
IsRefusedInRun holds refuses from to = (place : ℕ) × IsFirstRefusedInRun holds refuses from to place
