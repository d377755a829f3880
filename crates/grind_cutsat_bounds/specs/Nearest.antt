-- The number nearest to 0, and the greatest number, of those that have a property.
use Rattle.std.specs.Prelude.{◌≡◌, ℕ, suc, ◌≤◌, ℤ, pos, negsuc, ◌≤ℤ◌}

-- how far the number is from 0
abbrev pub distance : ℤ → ℕ
distance (pos n) = n
distance (negsuc n) = suc n

-- no number with the property is nearer to 0, and of two that are equally near it is the greater one
pub record IsNearest (P : ℤ → Type 0) (number : ℤ) : Type 0 where
  pub within : P number
  pub nearest : (other : ℤ) → P other → distance number ≤ distance other
  pub positive : (other : ℤ) → P other → distance other ≡ distance number → other ≤ℤ number

-- no number with the property is greater
pub record IsGreatest (P : ℤ → Type 0) (number : ℤ) : Type 0 where
  pub within : P number
  pub greatest : (other : ℤ) → P other → other ≤ℤ number
