-- Polynomials: sums of monomials with coefficients.
use Rattle.std.specs.Prelude.{◌≡◌, ◌≢◌, ℕ, List, [], ◌∷◌, length, nat_lt, Bool, ⊤, ℤ, pos}
use Rattle.grind_monomials.specs.declared.order.Place.TheVariants.{Above}
use Rattle.grind_monomials.specs.Order.{place}
use Rattle.grind_monomials.specs.Monomials.{IsMonomial}
use Rattle.grind_polynomials.specs.declared.poly.Term.{Term}
unfoldable pub use Rattle.grind_polynomials.specs.Numbers.{fit_or_refuse}

-- the monomial with this coefficient
abbrev pub term_of : ℤ → List ℕ → Term
term_of coefficient monomial = record { coefficient = coefficient; monomial = monomial }

-- the first of the terms, if there is one, has a lesser monomial
abbrev pub StartsBelow : List ℕ → List Term → Type 0
StartsBelow monomial [] = ⊤
StartsBelow monomial (term ∷ rest) = place monomial term.monomial ≡ Above

-- the nodes of each monomial do not fall, no coefficient is 0, and the monomials fall strictly
abbrev pub IsPoly : List Term → Type 0
IsPoly [] = ⊤
IsPoly (term ∷ rest) =
    IsMonomial term.monomial × (term.coefficient ≢ pos 0) × StartsBelow term.monomial rest × IsPoly rest

-- the degree of a polynomial: that of its first monomial, which is the greatest
abbrev pub degree : List Term → ℕ
degree [] = 0
degree (term ∷ rest) = length term.monomial

-- the coefficient and the monomial of the first term, which is the greatest
abbrev pub lead_coefficient : List Term → ℤ
lead_coefficient [] = pos 0
lead_coefficient (term ∷ rest) = term.coefficient

abbrev pub lead_monomial : List Term → List ℕ
lead_monomial [] = []
lead_monomial (term ∷ rest) = term.monomial

-- a degree that no product may have
abbrev pub is_over : ℕ → Bool
is_over degree = nat_lt 16 degree
