-- What the solver keeps, and what it takes.
use Rattle.std.specs.Prelude.{◌≡◌, ℕ, ◌≤◌, List, [], ◌∷◌, ◌++◌, All, Contains, None}
use Rattle.grind_polynomials.specs.declared.poly.Term.{Term}
use Rattle.grind_polynomials.specs.Polynomials.{IsPoly}
use Rattle.grind_normal_forms.specs.Reduction.{target}
use Rattle.grind_claims.specs.declared.claim.Claim.{Claim}
use Rattle.grind_claims.specs.declared.claim.Claim.TheVariants.{Holds, Fails, Same, Differ, AtMost, Zero, Absurd}
use Rattle.grind_ring_basis.specs.declared.types.Basis.{Basis}
use Rattle.grind_ring_basis.specs.declared.types.Fact.{Fact}
use Rattle.grind_ring_basis.specs.Bases.{fact, IsBasis, IsElement, ReducesToZero}
use Rattle.grind_ring_units.specs.declared.types.Agenda.{Agenda}
use Rattle.grind_ring_units.specs.declared.types.State.{State}
use Rattle.grind_ring_units.specs.Given.{equality, Knows}

-- no element of the basis reduces the polynomial
abbrev pub IsIrreducible : Basis → List Term → Type 0
IsIrreducible basis poly = target basis.elements poly ≡ None

-- the fact's polynomial is reduced to 0
pub record IsZeroed (basis : Basis) (it : Fact) : Type 0 where
  pub poly : IsPoly it.poly
  pub zero : ReducesToZero basis it.poly

-- what a solver keeps
pub record IsState (state : State) : Type 0 where
  -- no element of the basis is 0, and each has its post
  pub basis : IsBasis state.basis
  -- which is one that the solver knows
  pub known : (it : Fact) → IsElement state.basis it → Knows state it
  pub polys : All (λ b. IsPoly b) state.basis.elements
  -- what the solver has from its own answers is reduced to 0
  pub zeroed : (it : Fact) → Contains state.own it → IsZeroed state.basis it
  -- no more normal forms joined than may
  pub within : state.made ≤ state.limit

-- nothing is known, and so many normal forms may join
abbrev pub nothing_known : ℕ → State
nothing_known limit = record {
  limit = limit;
  made = 0;
  equalities = [];
  taken = [];
  own = [];
  basis = record { posts = []; elements = [] };
}

-- no pairs of basis elements were looked at
abbrev pub no_agenda : Agenda
no_agenda = record { rows = 0; pairs = [] }

-- an equality was taken
abbrev pub with_equality : State → ℕ → ℕ → ℕ → State
with_equality state post left right = record {
  limit = state.limit;
  made = state.made;
  equalities = state.equalities ++ equality post left right ∷ [];
  taken = state.taken;
  own = state.own;
  basis = state.basis;
}

-- a fact was taken
abbrev pub with_fact : State → Fact → State
with_fact state it = record {
  limit = state.limit;
  made = state.made;
  equalities = state.equalities;
  taken = state.taken ++ it ∷ [];
  own = state.own;
  basis = state.basis;
}

-- what is known after the claim of a post was taken: an equality of two terms, or that a polynomial is 0; other claims say
-- nothing to the solver
abbrev pub IsTaken : State → ℕ → Claim → State → Type 0
IsTaken state post (Same left right) new = new ≡ with_equality state post left right
IsTaken state post (Zero poly) new = new ≡ with_fact state (fact post poly)
IsTaken state post (Holds node) new = new ≡ state
IsTaken state post (Fails node) new = new ≡ state
IsTaken state post (Differ left right) new = new ≡ state
IsTaken state post (AtMost form) new = new ≡ state
IsTaken state post Absurd new = new ≡ state
