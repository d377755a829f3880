-- Reading an equation of degree at most 1: once as it is, and once negated. Its posts are counted.
use Rattle.std.specs.Prelude.{◌≡◌, ◌⊎◌, ℕ, List, [], ◌∷◌, Some, None, ℤ, pos, negsuc}
use Rattle.grind_linear_forms.specs.Forms.{FormData, number_form}
use Rattle.grind_polynomials.specs.declared.poly.Term.{Term}
use Rattle.grind_differences.specs.Equations.{form_of}
use Rattle.grind_arithmetic_rules.specs.LinearRules.{combined}
use Rattle.grind_claims.specs.declared.claim.Claim.{Claim}
use Rattle.grind_claims.specs.declared.claim.Claim.TheVariants.{Zero, AtMost}
use Rattle.grind_claims.specs.declared.proof.Rule.TheVariants.{Combine}
use Rattle.grind_cutsat_facts.specs.Facts.{IsSaid}
use Rattle.grind_cutsat_assignment.specs.Given.{Given}
use Rattle.grind_cutsat_units.specs.declared.types.Planned.{Planned}
use Rattle.grind_cutsat_units.specs.Posts.{planned, AtFact}

-- the factors that an equation is taken with
abbrev pub IsSign : ℤ → Type 0
IsSign factor = (factor ≡ pos 1) ⊎ (factor ≡ negsuc 0)

-- the claim is an equation of degree at most 1, and this is what it gives with this factor
abbrev pub SignedGives : Claim → ℤ → List Planned → Type 0
SignedGives claim factor posts = (poly : List Term) × (form : FormData) × (claim ≡ Zero poly)
    × (combined (number_form (pos 0)) (factor ∷ []) (Zero poly ∷ []) ≡ Some form)
    × (posts ≡ planned (AtMost form) (Combine (pos 1) (factor ∷ [])) (claim ∷ []) ∷ [])

-- it is taken with one of the two
abbrev pub EquationGives : Claim → List Planned → Type 0
EquationGives claim posts = (factor : ℤ) × IsSign factor × SignedGives claim factor posts

-- an equation of degree at most 1 is read
abbrev pub ReadsEquation : Given → ℕ → List Planned → Type 0
ReadsEquation it post posts = AtFact it.facts EquationGives post posts

-- it is of degree at most 1, and with one of the factors it does not fit
abbrev pub IsUnreadEquation : Given → ℕ → Type 0
IsUnreadEquation it post = (poly : List Term) × (base : FormData) × (factor : ℤ)
    × IsSaid it.facts post (Zero poly) × (form_of poly ≡ Some base) × IsSign factor
    × (combined (number_form (pos 0)) (factor ∷ []) (Zero poly ∷ []) ≡ None)
