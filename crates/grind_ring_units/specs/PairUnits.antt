-- Pairs of basis elements, the earlier first, and the normal forms of their S-polynomials.
use Rattle.std.specs.Prelude.{◌≡◌, ◌≢◌, ℕ, ◌<◌, ◌⊎◌, List, [], Some, slice_get}
use Rattle.grind_polynomials.specs.declared.poly.Term.{Term}
use Rattle.grind_normal_forms.specs.declared.reduction.Reduced.{Reduced}
use Rattle.grind_ring_basis.specs.declared.types.Pair.{Pair}
use Rattle.grind_ring_basis.specs.declared.types.Places.{Places}
use Rattle.grind_ring_basis.specs.declared.types.Combination.{Combination}
use Rattle.grind_ring_basis.specs.Bases.{HasNormalForm, Outgrows}
use Rattle.grind_ring_basis.specs.Pairs.{IsTooHigh, IsTooLarge, IsPairAt}
use Rattle.grind_ring_basis.specs.Lines.{IsPairLine}
use Rattle.grind_ring_units.specs.declared.types.State.{State}
use Rattle.grind_ring_units.specs.Given.{IsClaimed}

-- two elements of the basis stand at these places, the earlier first
pub record AreElements (state : State) (places : Places) (first second : List Term) : Type 0 where
  pub rising : places.first < places.second
  pub first_is : slice_get state.basis.elements places.first ≡ Some first
  pub second_is : slice_get state.basis.elements places.second ≡ Some second

-- the S-polynomial of the elements at these places has a normal form that is not 0 and that no known post says to be 0
pub record IsPairReducible (state : State) (places : Places) (pair : Pair) (rest : List Term) : Type 0 where
  pub rising : places.first < places.second
  pub pair_is : IsPairAt state.basis places pair
  pub normal : Reduced
  pub normal_is : HasNormalForm state.basis pair.poly normal
  pub rest_is : rest ≡ normal.rest
  pub nonzero : rest ≢ []
  pub not_claimed : ¬ IsClaimed state rest

-- and this is the line that says so
pub record IsPairReduced (state : State) (places : Places) (pair : Pair) (rest : List Term) (line : Combination) : Type 0 where
  pub reducible : IsPairReducible state places pair rest
  pub line_is : IsPairLine state.basis places pair rest line

-- a number in the S-polynomial of the two, on the way to its normal form, or in the line that would say so, does not fit
abbrev pub IsPairTooLarge : State → Places → Type 0
IsPairTooLarge state places =
    ((first : List Term) × (second : List Term) × AreElements state places first second × IsTooLarge first second)
    ⊎ (((pair : Pair) × (places.first < places.second) × IsPairAt state.basis places pair × Outgrows state.basis pair.poly)
    ⊎ ((pair : Pair) × (rest : List Term) × IsPairReducible state places pair rest
    × ((line : Combination) → ¬ IsPairLine state.basis places pair rest line)))

-- the least common multiple of the leading monomials has a degree over 16, or the normal form of the S-polynomial is 0, or a
-- known post says that it is 0
abbrev pub IsPairDone : State → Places → Type 0
IsPairDone state places = (first : List Term) × (second : List Term) × AreElements state places first second
    × (IsTooHigh first second
    ⊎ ((pair : Pair) × IsPairAt state.basis places pair × (normal : Reduced) × HasNormalForm state.basis pair.poly normal
    × ((normal.rest ≡ []) ⊎ IsClaimed state normal.rest)))

-- some line says that the normal form of the S-polynomial is 0
abbrev pub WouldJoinPair : State → Places → Type 0
WouldJoinPair state places = (pair : Pair) × (rest : List Term) × (line : Combination) × IsPairReduced state places pair rest line

-- these are the posts of the elements at these places
abbrev pub ArePostsAt : State → Places → ℕ → ℕ → Type 0
ArePostsAt state places first second =
    (slice_get state.basis.posts places.first ≡ Some first) × (slice_get state.basis.posts places.second ≡ Some second)
