-- The S-polynomial of two polynomials, where the least common multiple of their leading monomials has a degree of at most 16.
use Rattle.std.specs.Prelude.{◌≡◌, ◌<◌, List, Some, Ok, Err, length, slice_get}
use Rattle.grind_polynomials.specs.declared.poly.Term.{Term}
use Rattle.grind_polynomials.specs.declared.poly.PolyRefusal.TheVariants.{Overflow}
use Rattle.grind_normal_forms.specs.Pairs.{IsLeadGcd, lead_multiple, IsSPolynomial}
use Rattle.grind_ring_basis.specs.declared.types.Basis.{Basis}
use Rattle.grind_ring_basis.specs.declared.types.Pair.{Pair}
use Rattle.grind_ring_basis.specs.declared.types.Places.{Places}
use Rattle.grind_ring_basis.specs.declared.types.Cancelled.{Cancelled}
use Rattle.grind_ring_basis.specs.declared.types.Cancelled.TheVariants.{TooHigh, TooLarge, Made}

-- the least common multiple of the leading monomials has a degree over 16
abbrev pub IsTooHigh : List Term → List Term → Type 0
IsTooHigh a b = 16 < length (lead_multiple a b)

-- the S-polynomial of the two, with the greatest common divisor of their leading coefficients
pub record IsPair (a b : List Term) (pair : Pair) : Type 0 where
  pub divisor : IsLeadGcd a b pair.divisor
  pub poly : IsSPolynomial a b (Ok pair.poly)

-- it is the S-polynomial of the elements at these places
pub record IsPairAt (basis : Basis) (places : Places) (pair : Pair) : Type 0 where
  pub first : List Term
  pub second : List Term
  pub first_is : slice_get basis.elements places.first ≡ Some first
  pub second_is : slice_get basis.elements places.second ≡ Some second
  pub pair_is : IsPair first second pair

-- the degree is low enough, and a coefficient of the S-polynomial does not fit in 128 bits
abbrev pub IsTooLarge : List Term → List Term → Type 0
IsTooLarge a b = IsSPolynomial a b (Err Overflow)

-- what comes of the two
abbrev pub Cancels : List Term → List Term → Cancelled → Type 0
Cancels a b TooHigh = IsTooHigh a b
Cancels a b TooLarge = IsTooLarge a b
Cancels a b (Made pair) = IsPair a b pair
