-- Which pairs of basis elements are to be looked at, and which need not be looked at again.
use Rattle.std.specs.Prelude.{◌≡◌, ℕ, ◌<◌, ◌⊎◌, List, Contains, Some, length, slice_get}
use Rattle.grind_polynomials.specs.declared.poly.Term.{Term}
use Rattle.grind_polynomials.specs.Polynomials.{IsPoly}
use Rattle.grind_ring_basis.specs.declared.types.Basis.{Basis}
use Rattle.grind_ring_basis.specs.declared.types.Pair.{Pair}
use Rattle.grind_ring_basis.specs.declared.types.Places.{Places}
use Rattle.grind_ring_basis.specs.Bases.{ReducesToZero}
use Rattle.grind_ring_basis.specs.Pairs.{IsTooHigh, IsPairAt}
use Rattle.grind_ring_units.specs.declared.types.Agenda.{Agenda}

-- the least common multiple of the leading monomials has a degree over 16
pub record IsPairTooHigh (basis : Basis) (places : Places) : Type 0 where
  pub first : List Term
  pub second : List Term
  pub first_is : slice_get basis.elements places.first ≡ Some first
  pub second_is : slice_get basis.elements places.second ≡ Some second
  pub high : IsTooHigh first second

-- the S-polynomial is reduced to 0
pub record IsPairZeroed (basis : Basis) (places : Places) : Type 0 where
  pub pair : Pair
  pub pair_is : IsPairAt basis places pair
  pub poly : IsPoly pair.poly
  pub zero : ReducesToZero basis pair.poly

-- the pair need not be looked at again, whatever joins the basis: the earlier element stands first, and the degree is too high or
-- the S-polynomial is reduced to 0
abbrev pub IsPairSettled : Basis → Places → Type 0
IsPairSettled basis places = (places.first < places.second) × (IsPairTooHigh basis places ⊎ IsPairZeroed basis places)

-- of the pairs of so many elements those that are P are left: each is one of two elements, the earlier first, and each other one is
-- settled
pub record AreLeftOf (basis : Basis) (rows : ℕ) (P : Places → Type 0) : Type 0 where
  pub rising : (places : Places) → P places → places.first < places.second
  pub within : (places : Places) → P places → places.second < length basis.elements
  pub each : (places : Places) → places.first < places.second → places.second < rows → IsPairSettled basis places ⊎ P places

-- those of the list are left
abbrev pub AreLeft : Basis → ℕ → List Places → Type 0
AreLeft basis rows pairs = AreLeftOf basis rows (λ (places : Places). Contains pairs places)

-- what an agenda says
abbrev pub IsAgenda : Basis → Agenda → Type 0
IsAgenda basis agenda = AreLeft basis agenda.rows agenda.pairs
