-- What the solver knows.
use Rattle.std.specs.Prelude.{ℕ, ◌⊎◌, List, Contains}
use Rattle.grind_polynomials.specs.declared.poly.Term.{Term}
use Rattle.grind_ring_basis.specs.declared.types.Fact.{Fact}
use Rattle.grind_ring_basis.specs.Bases.{fact}
use Rattle.grind_ring_units.specs.declared.types.Equality.{Equality}
use Rattle.grind_ring_units.specs.declared.types.State.{State}

-- the post of this number says that these two are equal
abbrev pub equality : ℕ → ℕ → ℕ → Equality
equality post left right = record { post = post; left = left; right = right }

-- the solver knows the fact: it took it, or has it from its own answers
abbrev pub Knows : State → Fact → Type 0
Knows state it = Contains state.taken it ⊎ Contains state.own it

-- some fact of the list says that the polynomial is 0
abbrev pub IsAmong : List Fact → List Term → Type 0
IsAmong facts poly = (post : ℕ) × Contains facts (fact post poly)

-- some post that the solver knows says that the polynomial is 0
abbrev pub IsClaimed : State → List Term → Type 0
IsClaimed state poly = (post : ℕ) × Knows state (fact post poly)
