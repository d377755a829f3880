-- Facts that were taken, and their normal forms.
use Rattle.std.specs.Prelude.{◌≡◌, ◌≢◌, ◌⊎◌, List, []}
use Rattle.grind_polynomials.specs.declared.poly.Term.{Term}
use Rattle.grind_normal_forms.specs.declared.reduction.Reduced.{Reduced}
use Rattle.grind_ring_basis.specs.declared.types.Fact.{Fact}
use Rattle.grind_ring_basis.specs.declared.types.Combination.{Combination}
use Rattle.grind_ring_basis.specs.Bases.{HasNormalForm, Outgrows}
use Rattle.grind_ring_basis.specs.Lines.{IsPostLine}
use Rattle.grind_ring_units.specs.declared.types.State.{State}
use Rattle.grind_ring_units.specs.Given.{IsClaimed}

-- the fact is not 0, and is its own normal form
pub record IsJoining (state : State) (it : Fact) : Type 0 where
  pub nonzero : it.poly ≢ []
  pub normal : Reduced
  pub normal_is : HasNormalForm state.basis it.poly normal
  pub own : normal.rest ≡ it.poly

-- the fact has a normal form that is neither 0 nor the fact itself, and that no known post says to be 0
pub record IsReducible (state : State) (it : Fact) (rest : List Term) : Type 0 where
  pub normal : Reduced
  pub normal_is : HasNormalForm state.basis it.poly normal
  pub rest_is : rest ≡ normal.rest
  pub nonzero : rest ≢ []
  pub other : rest ≢ it.poly
  pub not_claimed : ¬ IsClaimed state rest

-- and this is the line that says so
pub record IsReduced (state : State) (it : Fact) (rest : List Term) (line : Combination) : Type 0 where
  pub reducible : IsReducible state it rest
  pub line_is : IsPostLine state.basis it rest line

-- there is such a line
abbrev pub WouldReduce : State → Fact → Type 0
WouldReduce state it = (rest : List Term) × (line : Combination) × IsReduced state it rest line

-- a number on the way to the normal form of the fact, or in the line that would say that it is 0, does not fit
abbrev pub IsPostTooLarge : State → Fact → Type 0
IsPostTooLarge state it = Outgrows state.basis it.poly
    ⊎ ((rest : List Term) × IsReducible state it rest × ((line : Combination) → ¬ IsPostLine state.basis it rest line))

-- the normal form of the fact is 0, or another known post says that it is 0
abbrev pub IsPostDone : State → Fact → Type 0
IsPostDone state it = (normal : Reduced) × HasNormalForm state.basis it.poly normal
    × ((normal.rest ≡ []) ⊎ ((normal.rest ≢ it.poly) × IsClaimed state normal.rest))
