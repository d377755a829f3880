-- Reading a known comparison.
use Rattle.std.specs.Prelude.{◌≡◌, ◌⊎◌, ℕ, List, [], ◌∷◌, Some, None, pos, ◌+ℤ◌, FitsSigned}
use Rattle.std.specs.Int.{w128}
use Rattle.grind_term_graph.specs.declared.node.Node.{Node}
use Rattle.grind_linear_forms.specs.Forms.{FormData}
use Rattle.grind_differences.specs.Differences.{difference}
use Rattle.grind_arithmetic_rules.specs.LinearRules.{IsComparison, IsRead}
use Rattle.grind_claims.specs.declared.claim.Claim.{Claim}
use Rattle.grind_claims.specs.declared.claim.Claim.TheVariants.{Holds, Fails, AtMost}
use Rattle.grind_claims.specs.declared.proof.Rule.TheVariants.{Read}
use Rattle.grind_cutsat_facts.specs.Facts.{IsSaid}
use Rattle.grind_cutsat_assignment.specs.Given.{Given}
use Rattle.grind_cutsat_units.specs.declared.types.Planned.{Planned}
use Rattle.grind_cutsat_units.specs.Posts.{planned, AtFact}

-- the claim is a literal of a comparison, and the rule `read` bounds the form from it
abbrev pub ComparisonGives : List Node → Claim → List Planned → Type 0
ComparisonGives nodes literal posts = (form : FormData)
    × IsRead nodes (literal ∷ []) (AtMost form) × (posts ≡ planned (AtMost form) Read (literal ∷ []) ∷ [])

-- a known comparison is read
abbrev pub ReadsComparison : Given → ℕ → List Planned → Type 0
ReadsComparison it post posts = AtFact it.facts (ComparisonGives it.nodes) post posts

-- the comparison that a literal is of has no difference that fits, or one of which 1 more does not
abbrev pub IsUnreadLiteral : List Node → Claim → Type 0
IsUnreadLiteral nodes literal = (n : ℕ) × (a : ℕ) × (b : ℕ) × IsComparison nodes n a b
    × (((literal ≡ Holds n) × (difference nodes a b ≡ None))
    ⊎ ((literal ≡ Fails n) × ((difference nodes b a ≡ None)
    ⊎ ((base : FormData) × (difference nodes b a ≡ Some base) × (FitsSigned w128 (base.constant +ℤ pos 1) → ⊥)))))

-- the reading of a known comparison does not fit
abbrev pub IsUnreadComparison : Given → ℕ → Type 0
IsUnreadComparison it post = (literal : Claim) × IsSaid it.facts post literal × IsUnreadLiteral it.nodes literal
