-- The greatest common divisor of coefficients, by their sizes. No public clause cites these words.
use Rattle.std.specs.Prelude.{ℕ, List, [], ◌∷◌, ℤ, FitsSigned, unsigned_abs}
use Rattle.std.specs.Int.{w128, ◌∣◌}
use Rattle.grind_linear_forms.specs.declared.form.Part.{Part}
use Rattle.grind_cutsat_units.specs.Cuts.{IsDivisor}

-- the number divides the size of each coefficient
abbrev pub DividesSizes : ℕ → List Part → Type 0
DividesSizes d [] = Unit {0}
DividesSizes d (part ∷ rest) = (d ∣ unsigned_abs part.coefficient) × DividesSizes d rest

-- the greatest common divisor of the coefficients, which fits
abbrev pub IsFittingDivisor : List Part → ℤ → Type 0
IsFittingDivisor parts g = IsDivisor parts g × FitsSigned w128 g

-- there is none that fits
abbrev pub NoFittingDivisor : List Part → Type 0
NoFittingDivisor parts = (g : ℤ) → IsDivisor parts g → FitsSigned w128 g → ⊥
