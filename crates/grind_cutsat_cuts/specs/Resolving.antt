-- What two bounds of one lead and opposite signs give. No public clause cites these words.
use Rattle.std.specs.Prelude.{◌≡◌, ℕ, List, [], ◌∷◌, ℤ, pos, ◌<ℤ◌, FitsSigned}
use Rattle.std.specs.Int.{w128}
use Rattle.grind_linear_forms.specs.declared.form.Part.{Part}
use Rattle.grind_linear_forms.specs.Forms.{FormData}
use Rattle.grind_claims.specs.declared.claim.Claim.{Claim}
use Rattle.grind_claims.specs.declared.claim.Claim.TheVariants.{AtMost}
use Rattle.grind_claims.specs.declared.proof.Rule.TheVariants.{Combine}
use Rattle.grind_cutsat_facts.specs.declared.facts.Fact.{Fact}
use Rattle.grind_cutsat_facts.specs.Covering.{IsCovered}
use Rattle.grind_cutsat_units.specs.declared.types.Planned.{Planned}
use Rattle.grind_cutsat_units.specs.Posts.{planned, AtSomeFact}
use Rattle.grind_cutsat_units.specs.Cuts.{AreFactors, CombineTo}

-- the first part is this node, so often
abbrev pub IsLead : List Part → ℕ → ℤ → Type 0
IsLead [] x coefficient = ⊥
IsLead (part ∷ rest) x coefficient = (part.node ≡ x) × (part.coefficient ≡ coefficient)

-- the forms are led by one atom, the first with a coefficient over 0 and the second with one below 0
pub record AreOpposite (upper lower : FormData) (over under : ℤ) : Type 0 where
  pub atom : ℕ
  pub upper_is : IsLead upper.parts atom over
  pub lower_is : IsLead lower.parts atom under
  pub positive : pos 0 <ℤ over
  pub negative : under <ℤ pos 0

-- they are not
abbrev pub AreNotOpposite : FormData → FormData → Type 0
AreNotOpposite upper lower = (over under : ℤ) → ¬ AreOpposite upper lower over under

-- the two, taken so often, have this cut, which is not covered
abbrev pub HasCutOfTwo : List Fact → FormData → FormData → ℤ → ℤ → ℤ → FormData → Type 0
HasCutOfTwo facts upper lower m k g cut =
    CombineTo (m ∷ k ∷ []) (AtMost upper ∷ AtMost lower ∷ []) g cut × (IsCovered facts cut → ⊥)

-- they have none
abbrev pub NoCutOfTwo : List Fact → FormData → FormData → ℤ → ℤ → Type 0
NoCutOfTwo facts upper lower m k = (g : ℤ) (cut : FormData) → ¬ HasCutOfTwo facts upper lower m k g cut

-- the two cancel by these least factors, and have this cut, which is not covered
pub record Resolve (facts : List Fact) (upper lower : FormData) (m k g : ℤ) (cut : FormData) : Type 0 where
  pub over : ℤ
  pub under : ℤ
  pub opposite : AreOpposite upper lower over under
  pub factors : AreFactors over under m k
  pub first_fits : FitsSigned w128 m
  pub second_fits : FitsSigned w128 k
  pub cut_is : HasCutOfTwo facts upper lower m k g cut

-- they have none
abbrev pub NoneResolve : List Fact → FormData → FormData → Type 0
NoneResolve facts upper lower = (m k g : ℤ) (cut : FormData) → ¬ Resolve facts upper lower m k g cut

-- the post of the cut
abbrev pub resolved_posts : FormData → FormData → ℤ → ℤ → ℤ → FormData → List Planned
resolved_posts upper lower m k g cut =
    planned (AtMost cut) (Combine g (m ∷ k ∷ [])) (AtMost upper ∷ AtMost lower ∷ []) ∷ []

-- the claim is a bound from below, and this is what it gives with the form
abbrev pub LowerGives : List Fact → FormData → Claim → List Planned → Type 0
LowerGives facts upper claim posts = (lower : FormData) × (m : ℤ) × (k : ℤ) × (g : ℤ) × (cut : FormData)
    × (claim ≡ AtMost lower) × Resolve facts upper lower m k g cut × (posts ≡ resolved_posts upper lower m k g cut)

-- the claim is a bound from above, and this is what it gives with some fact
abbrev pub UpperGives : List Fact → Claim → List Planned → Type 0
UpperGives facts claim posts = (upper : FormData) × (claim ≡ AtMost upper) × AtSomeFact facts (LowerGives facts upper) posts
