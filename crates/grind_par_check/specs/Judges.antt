-- Items that are true or not, and the first that is not.
use Rattle.std.specs.Prelude.{ℕ, ◌<◌, Option, Some, None}

-- each of so many items is true
abbrev pub AreItemsTrue : (ℕ → Type 0) → ℕ → Type 0
AreItemsTrue holds count = (i : ℕ) → i < count → holds i

-- of so many items, the one at this place is not true, and each before it is
pub record IsFirstBad (holds : ℕ → Type 0) (count place : ℕ) : Type 0 where
  pub stands : place < count
  pub bad : ¬ holds place
  pub before : (i : ℕ) → i < place → holds i

-- the answer is right: each of so many items is true, or the first that is not stands at this place
abbrev pub IsFound : (ℕ → Type 0) → ℕ → Option ℕ → Type 0
IsFound holds count None = AreItemsTrue holds count
IsFound holds count (Some place) = IsFirstBad holds count place

-- of so many items, the one at this place was refused, and each before it is true
pub record IsFirstRefused (holds refuses : ℕ → Type 0) (count place : ℕ) : Type 0 where
  pub stands : place < count
  pub refused : refuses place
  pub before : (i : ℕ) → i < place → holds i

-- one of so many items was refused, and each before it is true, so that no bad item stands before it
abbrev pub IsRefused : (ℕ → Type 0) → (ℕ → Type 0) → ℕ → Type 0
IsRefused holds refuses count = (place : ℕ) × IsFirstRefused holds refuses count place
