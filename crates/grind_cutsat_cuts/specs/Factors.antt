-- The least factors by which two coefficients cancel. No public clause cites these words.
use Rattle.std.specs.Prelude.{◌≡◌, ◌⊎◌, ℕ, ◌/◌, ◌<◌, ◌≤◌, ◌^◌, ℤ, pos, FitsSigned, unsigned_abs}
use Rattle.std.specs.Int.{w128}
use Rattle.grind_cutsat_units.specs.Cuts.{AreFactors}

-- how often the number is in the size of another is not 0, and is this
abbrev pub IsShare : ℤ → ℕ → ℤ → Type 0
IsShare number divisor it = (it ≡ pos (unsigned_abs number / divisor)) × (0 < unsigned_abs number / divisor) × FitsSigned w128 it

-- it is 0, or does not fit
abbrev pub IsNoShare : ℤ → ℕ → Type 0
IsNoShare number divisor = (unsigned_abs number / divisor ≡ 0) ⊎ (2 ^ 127 ≤ unsigned_abs number / divisor)

-- the least factors, which fit
abbrev pub AreFittingFactors : ℤ → ℤ → ℤ → ℤ → Type 0
AreFittingFactors over under m k = AreFactors over under m k × FitsSigned w128 m × FitsSigned w128 k

-- there are none that fit
abbrev pub NoFittingFactors : ℤ → ℤ → Type 0
NoFittingFactors over under = (m k : ℤ) → AreFactors over under m k → FitsSigned w128 m → FitsSigned w128 k → ⊥

-- the least factors do not both fit
abbrev pub HaveUnfitFactors : ℤ → ℤ → Type 0
HaveUnfitFactors over under = (m : ℤ) × (k : ℤ) × AreFactors over under m k
    × ((FitsSigned w128 m → ⊥) ⊎ (FitsSigned w128 k → ⊥))
