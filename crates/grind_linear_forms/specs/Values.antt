-- The value of a linear form at a table of values.
use Rattle.std.specs.Prelude.{ℕ, List, [], ◌∷◌, ℤ, pos, ◌+ℤ◌, ◌*ℤ◌}
use Rattle.grind_linear_forms.specs.declared.form.Part.{Part}
use Rattle.grind_linear_forms.specs.Forms.{FormData}
pub use Rattle.grind_reach.specs.Values.{OfOne, OfTwo, Computes, RespectsArithmetic}

-- the sum of each coefficient times the value of its node
abbrev pub parts_value : (ℕ → ℤ) → List Part → ℤ
parts_value v [] = pos 0
parts_value v (part ∷ rest) = (part.coefficient *ℤ v part.node) +ℤ parts_value v rest

-- that sum and the constant
abbrev pub form_value : (ℕ → ℤ) → FormData → ℤ
form_value v form = parts_value v form.parts +ℤ form.constant
