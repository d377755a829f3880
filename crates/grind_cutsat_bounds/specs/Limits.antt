-- What is kept of the bounds of an atom while they are read. No public clause cites these words.
use Rattle.std.specs.Prelude.{◌≡◌, ◌↔◌, ℕ, suc, List, [], Option, Some, None, ℤ, pos, negsuc, neg_ℤ, ◌≤ℤ◌, ◌<ℤ◌}
use Rattle.grind_claims.specs.declared.claim.Claim.{Claim}
use Rattle.grind_cutsat_facts.specs.declared.facts.Fact.{Fact}
use Rattle.grind_cutsat_facts.specs.Facts.{IsSaid}
use Rattle.grind_cutsat_bounds.specs.declared.limits.Limits.{Limits}
use Rattle.grind_cutsat_bounds.specs.declared.limits.Nearest.{Nearest}
use Rattle.grind_cutsat_bounds.specs.declared.limits.Nearest.TheVariants as nearest
use Rattle.grind_cutsat_bounds.specs.declared.choice.Enclosed.{Enclosed}
use Rattle.grind_cutsat_bounds.specs.declared.choice.Enclosed.TheVariants as enclosed
use Rattle.grind_cutsat_bounds.specs.declared.choice.Choice.{Choice}
use Rattle.grind_cutsat_bounds.specs.declared.choice.Choice.TheVariants as choices
use Rattle.grind_cutsat_bounds.specs.Bounds.{Bound, ClaimsBound, rest_at, Allows, IsBetween, IsBelow, AllFit, IsUnfit}
use Rattle.grind_cutsat_bounds.specs.Nearest.{IsNearest, IsGreatest}

-- the number without its sign
abbrev pub magnitude : ℤ → ℤ
magnitude (pos n) = pos n
magnitude (negsuc n) = pos (suc n)

-- the limits of these two numbers
abbrev pub limits_of : Option ℤ → Option ℤ → Limits
limits_of low high = record { low = low; high = high }

-- the number is at least what is known, if anything is
abbrev pub AtLeast : Option ℤ → ℤ → Type 0
AtLeast None number = Unit {0}
AtLeast (Some least) number = least ≤ℤ number

-- the negation of the number is at least what is kept of upper bounds
abbrev pub IsUnder : Limits → ℤ → Type 0
IsUnder limits number = AtLeast limits.high (neg_ℤ number)

-- and the number at least what is kept of lower bounds
abbrev pub IsWithin : Limits → ℤ → Type 0
IsWithin limits number = AtLeast limits.low number × IsUnder limits number

-- a bound says that: so often the number, and the rest, is at most 0
abbrev pub IsNearestOf : Limits → Nearest → Type 0
IsNearestOf limits (nearest.Value value) = IsNearest (IsWithin limits) value
IsNearestOf limits (nearest.Gap floor) = ((number : ℤ) → ¬ IsWithin limits number) × IsGreatest (IsUnder limits) floor

-- the claim allows the number, if it is a bound of the atom
abbrev pub Permits : (ℕ → ℤ) → Claim → ℕ → ℤ → Type 0
Permits v claim x number = (bound : Bound) → ClaimsBound claim x bound → Allows v bound number

-- the same, if it is an upper bound
abbrev pub PermitsBelow : (ℕ → ℤ) → Claim → ℕ → ℤ → Type 0
PermitsBelow v claim x number = (bound : Bound) → ClaimsBound claim x bound → pos 0 <ℤ bound.coefficient → Allows v bound number

-- the limits once the claim is read, too
pub record IsNarrowed (v : ℕ → ℤ) (old : Limits) (claim : Claim) (x : ℕ) (new : Limits) : Type 0 where
  pub fits : (bound : Bound) → ClaimsBound claim x bound → (rest : ℤ) × (rest_at v bound ≡ Some rest)
  pub within : (number : ℤ) → IsWithin new number ↔ (IsWithin old number × Permits v claim x number)
  pub under : (number : ℤ) → IsUnder new number ↔ (IsUnder old number × PermitsBelow v claim x number)

-- the limits are those of the facts that are read; the rest is still to be read
pub record AreLimits (v : ℕ → ℤ) (facts rest : List Fact) (x : ℕ) (limits : Limits) : Type 0 where
  pub left : (post : ℕ) (claim : Claim) → IsSaid rest post claim → IsSaid facts post claim
  pub fits : AllFit v rest x → AllFit v facts x
  pub within : (number : ℤ) → (IsWithin limits number × IsBetween v rest x number) ↔ IsBetween v facts x number
  pub under : (number : ℤ) → (IsUnder limits number × IsBelow v rest x number) ↔ IsBelow v facts x number

-- what the bounds of the atom leave: the limits of all facts, or a post that does not fit
abbrev pub IsEnclosed : (ℕ → ℤ) → List Fact → ℕ → Enclosed → Type 0
IsEnclosed v facts x (enclosed.Within limits) = AreLimits v facts [] x limits
IsEnclosed v facts x (enclosed.Unfit post) = IsUnfit v facts x post

-- what is chosen within the limits
abbrev pub IsChosen : Limits → Choice → Type 0
IsChosen limits (choices.Value value) = IsNearest (IsWithin limits) value
IsChosen limits (choices.Gap floor) = ((number : ℤ) → ¬ IsWithin limits number) × IsGreatest (IsUnder limits) floor
IsChosen limits (choices.Unfit post) = ⊥
