-- Equalities whose polynomial no post says to be 0.
use Rattle.std.specs.Prelude.{◌≡◌, ℕ, List, Contains, Some, None}
use Rattle.grind_term_graph.specs.declared.node.Node.{Node}
use Rattle.grind_polynomials.specs.declared.poly.Term.{Term}
use Rattle.grind_differences.specs.Differences.{poly_difference}
use Rattle.grind_ring_units.specs.declared.types.Equality.{Equality}
use Rattle.grind_ring_units.specs.declared.types.State.{State}
use Rattle.grind_ring_units.specs.Given.{IsClaimed}

-- the polynomial of the equality fits, and no known post says that it is 0
abbrev pub LacksZero : State → List Node → Equality → Type 0
LacksZero state nodes it =
    (poly : List Term) × (poly_difference nodes it.left it.right ≡ Some poly) × ¬ IsClaimed state poly

-- an equality of that post was taken, and has such a polynomial
abbrev pub HasZeroed : State → List Node → ℕ → Type 0
HasZeroed state nodes post =
    (it : Equality) × Contains state.equalities it × (it.post ≡ post) × LacksZero state nodes it

-- no equality that was taken has such a polynomial
abbrev pub NoneZeroed : State → List Node → Type 0
NoneZeroed state nodes = (it : Equality) → Contains state.equalities it → ¬ LacksZero state nodes it

-- the polynomial of the equality does not fit in 128 bits
abbrev pub IsUnread : List Node → Equality → Type 0
IsUnread nodes it = poly_difference nodes it.left it.right ≡ None

-- an equality of that post was taken, and its polynomial does not fit
abbrev pub HasUnread : State → List Node → ℕ → Type 0
HasUnread state nodes post = (it : Equality) × Contains state.equalities it × (it.post ≡ post) × IsUnread nodes it

-- the polynomial of each equality that was taken fits
abbrev pub AllRead : State → List Node → Type 0
AllRead state nodes = (it : Equality) → Contains state.equalities it → ¬ IsUnread nodes it
