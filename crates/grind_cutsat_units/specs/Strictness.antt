-- A bound of the difference of two whole numbers that are different.
use Rattle.std.specs.Prelude.{◌≡◌, ℕ, List, [], ◌∷◌, pos}
use Rattle.grind_term_graph.specs.declared.node.Node.{Node}
use Rattle.grind_linear_forms.specs.Forms.{FormData}
use Rattle.grind_differences.specs.Bounds.{plus}
use Rattle.grind_arithmetic_rules.specs.LinearRules.{IsStrict}
use Rattle.grind_claims.specs.declared.claim.Claim.{Claim}
use Rattle.grind_claims.specs.declared.claim.Claim.TheVariants.{Differ, AtMost}
use Rattle.grind_claims.specs.declared.proof.Rule.TheVariants.{Strict}
use Rattle.grind_cutsat_facts.specs.declared.facts.Fact.{Fact}
use Rattle.grind_cutsat_facts.specs.Covering.{IsCovered}
use Rattle.grind_cutsat_assignment.specs.Given.{Given}
use Rattle.grind_cutsat_units.specs.declared.types.Planned.{Planned}
use Rattle.grind_cutsat_units.specs.Posts.{planned, AtSomeFact}

-- the claim is a bound that the rule `strict` makes strict, as these two differ; the stricter one is not covered
abbrev pub BoundGives : List Node → List Fact → ℕ → ℕ → Claim → List Planned → Type 0
BoundGives nodes facts a b claim posts = (form : FormData) × (claim ≡ AtMost form)
    × IsStrict nodes (Differ a b ∷ AtMost form ∷ []) (AtMost (plus form (pos 1)))
    × (IsCovered facts (plus form (pos 1)) → ⊥)
    × (posts ≡ planned (AtMost (plus form (pos 1))) Strict (Differ a b ∷ AtMost form ∷ []) ∷ [])

-- the claim says that two differ, and a fact is a bound of them
abbrev pub DifferenceGives : List Node → List Fact → Claim → List Planned → Type 0
DifferenceGives nodes facts claim posts = (a : ℕ) × (b : ℕ) × (claim ≡ Differ a b) × AtSomeFact facts (BoundGives nodes facts a b) posts

-- a bound is made strict
abbrev pub Strengthens : Given → List Planned → Type 0
Strengthens it posts = AtSomeFact it.facts (DifferenceGives it.nodes it.facts) posts
