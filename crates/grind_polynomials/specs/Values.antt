-- The value of a polynomial at a table of values.
use Rattle.std.specs.Prelude.{◌≡◌, ℕ, List, [], ◌∷◌, ⊤, ℤ, pos, ◌+ℤ◌, ◌*ℤ◌}
use Rattle.grind_monomials.specs.Counts.{monomial_value}
use Rattle.grind_polynomials.specs.declared.poly.Term.{Term}

-- the sum of each coefficient times the value of its monomial
abbrev pub poly_value : (ℕ → ℤ) → List Term → ℤ
poly_value v [] = pos 0
poly_value v (term ∷ rest) = (term.coefficient *ℤ monomial_value v term.monomial) +ℤ poly_value v rest

-- each polynomial of the basis has the value 0
abbrev pub Vanishes : (ℕ → ℤ) → List (List Term) → Type 0
Vanishes v [] = ⊤
Vanishes v (b ∷ bs) = (poly_value v b ≡ pos 0) × Vanishes v bs
