-- Basis elements that are numbers.
use Rattle.std.specs.Prelude.{◌≡◌, ℕ}
use Rattle.grind_differences.specs.Equations.{IsOtherThanZero}
use Rattle.grind_ring_basis.specs.declared.types.Fact.{Fact}
use Rattle.grind_ring_basis.specs.Bases.{IsElement}
use Rattle.grind_ring_units.specs.declared.types.State.{State}

-- the fact is an element of the basis, and a number other than 0
pub record IsContradiction (state : State) (it : Fact) : Type 0 where
  pub element : IsElement state.basis it
  pub number : IsOtherThanZero it.poly

-- so it is with an element that has that post
abbrev pub HasContradiction : State → ℕ → Type 0
HasContradiction state post = (it : Fact) × (it.post ≡ post) × IsContradiction state it

-- no element is a number
abbrev pub NoContradiction : State → Type 0
NoContradiction state = (it : Fact) → ¬ IsContradiction state it
