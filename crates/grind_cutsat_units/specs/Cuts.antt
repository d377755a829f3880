-- Cutting a bound, and resolving two of one lead and opposite signs. Their posts are counted.
use Rattle.std.specs.Prelude.{◌≡◌, ◌≢◌, ◌⊎◌, ℕ, List, [], ◌∷◌, Some, None, ℤ, pos, ◌+ℤ◌, ◌*ℤ◌, ◌≤ℤ◌, ◌<ℤ◌, FitsSigned}
use Rattle.std.specs.Int.{w128}
use Rattle.grind_linear_forms.specs.declared.form.Part.{Part}
use Rattle.grind_linear_forms.specs.Forms.{FormData, number_form}
use Rattle.grind_linear_forms.specs.Cuts.{DividesAll, IsCut}
use Rattle.grind_arithmetic_rules.specs.LinearRules.{combined}
use Rattle.grind_claims.specs.declared.claim.Claim.{Claim}
use Rattle.grind_claims.specs.declared.claim.Claim.TheVariants.{AtMost}
use Rattle.grind_claims.specs.declared.proof.Rule.TheVariants.{Combine}
use Rattle.grind_cutsat_facts.specs.Facts.{IsSaid}
use Rattle.grind_cutsat_facts.specs.Covering.{IsCovered}
use Rattle.grind_cutsat_bounds.specs.Bounds.{Bound, bound_form, IsBound}
use Rattle.grind_cutsat_assignment.specs.Given.{Given}
use Rattle.grind_cutsat_units.specs.declared.types.Planned.{Planned}
use Rattle.grind_cutsat_units.specs.Posts.{planned}

-- g is the greatest common divisor of the coefficients; where there are none it is 1
pub record IsDivisor (parts : List Part) (g : ℤ) : Type 0 where
  pub positive : pos 0 <ℤ g
  pub divides : DividesAll g parts
  pub greatest : (other : ℤ) → pos 0 <ℤ other → DividesAll other parts → parts ≢ [] → other ≤ℤ g
  pub alone : parts ≡ [] → g ≡ pos 1

-- the premises, each so often, add up to a form of which this is the cut by the greatest common divisor of its coefficients; all
-- numbers fit
abbrev pub CombineTo : List ℤ → List Claim → ℤ → FormData → Type 0
CombineTo factors premises g cut = (sum : FormData) × (combined (number_form (pos 0)) factors premises ≡ Some sum)
    × IsDivisor sum.parts g × FitsSigned w128 g × IsCut sum g cut

-- the sum, or its divisor, does not fit
abbrev pub FailToCombine : List ℤ → List Claim → Type 0
FailToCombine factors premises = (combined (number_form (pos 0)) factors premises ≡ None)
    ⊎ ((sum : FormData) × (g : ℤ) × (combined (number_form (pos 0)) factors premises ≡ Some sum)
    × IsDivisor sum.parts g × (FitsSigned w128 g → ⊥))

-- the bound at this post is cut by the greatest common divisor of its coefficients, which is over 1; the cut is not covered
abbrev pub CutsBound : Given → ℕ → List Planned → Type 0
CutsBound it post posts = (form : FormData) × (cut : FormData) × (g : ℤ) × IsSaid it.facts post (AtMost form)
    × CombineTo (pos 1 ∷ []) (AtMost form ∷ []) g cut × (pos 1 <ℤ g) × (IsCovered it.facts cut → ⊥)
    × (posts ≡ planned (AtMost cut) (Combine g (pos 1 ∷ [])) (AtMost form ∷ []) ∷ [])

-- the cut of the bound at this post does not fit
abbrev pub IsUncut : Given → ℕ → Type 0
IsUncut it post = (form : FormData) × IsSaid it.facts post (AtMost form) × FailToCombine (pos 1 ∷ []) (AtMost form ∷ [])

-- the least factors, above 0, by which a positive and a negative coefficient cancel
pub record AreFactors (over under m k : ℤ) : Type 0 where
  pub first : pos 0 <ℤ m
  pub second : pos 0 <ℤ k
  pub cancel : m *ℤ over +ℤ k *ℤ under ≡ pos 0
  pub least : (p q : ℤ) → pos 0 <ℤ p → pos 0 <ℤ q → p *ℤ over +ℤ q *ℤ under ≡ pos 0 → m ≤ℤ p

-- two posts are bounds of one atom, the first from above and the second from below, and these factors cancel it
pub record AreResolvable (it : Given) (above below x : ℕ) (upper lower : Bound) (m k : ℤ) : Type 0 where
  pub upper_is : IsBound it.facts x above upper
  pub lower_is : IsBound it.facts x below lower
  pub over : pos 0 <ℤ upper.coefficient
  pub under : lower.coefficient <ℤ pos 0
  pub factors : AreFactors upper.coefficient lower.coefficient m k

-- the claims of the two
abbrev pub both : ℕ → Bound → Bound → List Claim
both x upper lower = AtMost (bound_form x upper) ∷ AtMost (bound_form x lower) ∷ []

-- the combination that cancels the atom is cut by the greatest common divisor of the coefficients that remain, and not covered
abbrev pub ResolvesBounds : Given → ℕ → ℕ → List Planned → Type 0
ResolvesBounds it above below posts = (x : ℕ) × (upper : Bound) × (lower : Bound) × (m : ℤ) × (k : ℤ)
    × (g : ℤ) × (cut : FormData)
    × AreResolvable it above below x upper lower m k × FitsSigned w128 m × FitsSigned w128 k
    × CombineTo (m ∷ k ∷ []) (both x upper lower) g cut × (IsCovered it.facts cut → ⊥)
    × (posts ≡ planned (AtMost cut) (Combine g (m ∷ k ∷ [])) (both x upper lower) ∷ [])

-- their combination does not fit: a factor, the sum, or the divisor
abbrev pub AreUnresolved : Given → ℕ → ℕ → Type 0
AreUnresolved it above below = (x : ℕ) × (upper : Bound) × (lower : Bound) × (m : ℤ) × (k : ℤ)
    × AreResolvable it above below x upper lower m k
    × ((FitsSigned w128 m → ⊥) ⊎ ((FitsSigned w128 k → ⊥) ⊎ FailToCombine (m ∷ k ∷ []) (both x upper lower)))
