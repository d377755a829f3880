-- The premises of a line with their factors, in rising order.
use Rattle.std.specs.Prelude.{◌≡◌, ℕ, List, [], ◌∷◌, Some, map, if◌then◌else◌, ℤ}
use Rattle.std.specs.BTreeMap.{insert_entry}
use Rattle.std.specs.Map.{keys_of}
use Rattle.std.specs.Ordering.{nat_cmp}
use Rattle.grind_polynomials.specs.declared.poly.Term.{Term}
use Rattle.grind_normal_forms.specs.Gathering.{has_terms}
use Rattle.grind_claims.specs.declared.claim.Claim.{Claim}
use Rattle.grind_claims.specs.declared.claim.Claim.TheVariants.{Zero}
use Rattle.grind_arithmetic_rules.specs.PolyRules.{gathered, IsIdeal}
use Rattle.grind_ring_basis.specs.declared.types.Share.{Share}
use Rattle.grind_ring_basis.specs.declared.types.Combination.{Combination}

-- a premise by its post: what it says is 0, and its factor
abbrev pub share : ℕ → List Term → List Term → ℕ × Share
share post poly factor = (post, record { poly = poly; factor = factor })

-- the elements of a basis, each with its factor
abbrev pub shares_of : List ℕ → List (List Term) → List (List Term) → List (ℕ × Share)
shares_of [] bs qs = []
shares_of (n ∷ ns) [] qs = []
shares_of (n ∷ ns) (b ∷ bs) [] = []
shares_of (n ∷ ns) (b ∷ bs) (q ∷ qs) = share n b q ∷ shares_of ns bs qs

-- the premises with one more at its place, or as they are where its factor is 0
abbrev pub with_share : List (ℕ × Share) → ℕ × Share → List (ℕ × Share)
with_share all one = if has_terms one.1.factor then insert_entry nat_cmp all one.0 one.1 else all

-- the premises with more of them, each at its place by the number of its post; those whose factor is 0 are left out
abbrev pub with_shares : List (ℕ × Share) → List (ℕ × Share) → List (ℕ × Share)
with_shares all [] = all
with_shares all (one ∷ rest) = with_shares (with_share all one) rest

-- the premises in rising order
abbrev pub in_order : List (ℕ × Share) → List (ℕ × Share)
in_order shares = with_shares [] shares

-- their posts
abbrev pub posts_in : List (ℕ × Share) → List ℕ
posts_in shares = keys_of shares

-- their factors
abbrev pub factors_in : List (ℕ × Share) → List (List Term)
factors_in shares = map (λ (one : ℕ × Share). one.1.factor) shares

-- what they claim
abbrev pub claims_in : List (ℕ × Share) → List Claim
claims_in shares = map (λ (one : ℕ × Share). Zero one.1.poly) shares

-- premises in order, added up: their factors, their posts, and the sum of what they say is 0, each times its factor
pub record Sums (premises : List (ℕ × Share)) (factors : List (List Term)) (from : List ℕ) (sum : List Term) : Type 0 where
  pub factors_are : factors ≡ factors_in premises
  pub from_are : from ≡ posts_in premises
  pub sum_is : gathered [] (factors_in premises) (claims_in premises) ≡ Some sum

-- the rule `ideal` allows to claim, over these premises, that the polynomial is 0
abbrev pub IsAllowed : ℤ → List (ℕ × Share) → List Term → Type 0
IsAllowed divisor premises rest = IsIdeal divisor (factors_in premises) (claims_in premises) (Zero rest)

-- the line over these premises that claims that the polynomial is 0
pub record IsLineOver (divisor : ℤ) (premises : List (ℕ × Share)) (rest : List Term) (line : Combination) : Type 0 where
  pub allowed : IsAllowed divisor premises rest
  pub line_is : line ≡ record { divisor = divisor; factors = factors_in premises; from = posts_in premises }
