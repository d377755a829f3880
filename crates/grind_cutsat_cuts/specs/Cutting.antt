-- What a bound gives that is cut, and what a sum gives. No public clause cites these words.
use Rattle.std.specs.Prelude.{◌≡◌, List, [], ◌∷◌, ℤ, pos, ◌<ℤ◌, FitsSigned}
use Rattle.std.specs.Int.{w128}
use Rattle.grind_linear_forms.specs.Forms.{FormData}
use Rattle.grind_linear_forms.specs.Cuts.{IsCut}
use Rattle.grind_claims.specs.declared.claim.Claim.{Claim}
use Rattle.grind_claims.specs.declared.claim.Claim.TheVariants.{AtMost}
use Rattle.grind_claims.specs.declared.proof.Rule.TheVariants.{Combine}
use Rattle.grind_cutsat_facts.specs.declared.facts.Fact.{Fact}
use Rattle.grind_cutsat_facts.specs.Covering.{IsCovered}
use Rattle.grind_cutsat_units.specs.declared.types.Planned.{Planned}
use Rattle.grind_cutsat_units.specs.Posts.{planned}
use Rattle.grind_cutsat_units.specs.Cuts.{IsDivisor, CombineTo}

-- the sum is cut by the greatest common divisor of its coefficients, which fits, and the cut is not covered
pub record IsNewCut (facts : List Fact) (sum : FormData) (g : ℤ) (cut : FormData) : Type 0 where
  pub divisor : IsDivisor sum.parts g
  pub fits : FitsSigned w128 g
  pub cut_is : IsCut sum g cut
  pub new : IsCovered facts cut → ⊥

-- there is no such cut
abbrev pub NoNewCut : List Fact → FormData → Type 0
NoNewCut facts sum = (g : ℤ) (cut : FormData) → ¬ IsNewCut facts sum g cut

-- the form, taken once, has this cut by this divisor, which is over 1; the cut is not covered
abbrev pub HasCut : List Fact → FormData → ℤ → FormData → Type 0
HasCut facts form g cut =
    CombineTo (pos 1 ∷ []) (AtMost form ∷ []) g cut × (pos 1 <ℤ g) × (IsCovered facts cut → ⊥)

-- it has none
abbrev pub NoCut : List Fact → FormData → Type 0
NoCut facts form = (g : ℤ) (cut : FormData) → ¬ HasCut facts form g cut

-- the post of the cut
abbrev pub cut_posts : FormData → ℤ → FormData → List Planned
cut_posts form g cut = planned (AtMost cut) (Combine g (pos 1 ∷ [])) (AtMost form ∷ []) ∷ []

-- the claim is a bound, and this is its cut
abbrev pub CutGives : List Fact → Claim → List Planned → Type 0
CutGives facts claim posts = (form : FormData) × (cut : FormData) × (g : ℤ) × (claim ≡ AtMost form) × HasCut facts form g cut
    × (posts ≡ cut_posts form g cut)
