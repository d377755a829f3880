-- Reading an equality of whole numbers, in both directions.
use Rattle.std.specs.Prelude.{◌≡◌, ◌≢◌, ◌⊎◌, ℕ, List, [], ◌∷◌, Some, None, pos}
use Rattle.grind_term_graph.specs.declared.node.Node.{Node}
use Rattle.grind_term_graph.specs.Terms.{int, sort_at}
use Rattle.grind_linear_forms.specs.Forms.{FormData, number_form}
use Rattle.grind_differences.specs.Differences.{difference}
use Rattle.grind_claims.specs.declared.claim.Claim.{Claim}
use Rattle.grind_claims.specs.declared.claim.Claim.TheVariants.{Same, AtMost}
use Rattle.grind_claims.specs.declared.proof.Rule.TheVariants.{Line, Sym}
use Rattle.grind_cutsat_facts.specs.Facts.{IsSaid}
use Rattle.grind_cutsat_assignment.specs.Given.{Given}
use Rattle.grind_cutsat_units.specs.declared.types.Planned.{Planned}
use Rattle.grind_cutsat_units.specs.Posts.{planned, AtFact}

-- the difference of the two is at most 0, they are equal the other way round, and the opposite difference is at most 0
abbrev pub equality_posts : ℕ → ℕ → FormData → FormData → List Planned
equality_posts a b one other = planned (AtMost one) Line (Same a b ∷ []) ∷ planned (Same b a) Sym (Same a b ∷ [])
    ∷ planned (AtMost other) Line (Same b a ∷ []) ∷ []

-- the claim says that two whole numbers are equal whose readings differ; both differences fit, and each is at most 0
abbrev pub EqualityGives : List Node → Claim → List Planned → Type 0
EqualityGives nodes claim posts = (a : ℕ) × (b : ℕ) × (one : FormData) × (other : FormData)
    × (claim ≡ Same a b) × (difference nodes a b ≡ Some one) × (difference nodes b a ≡ Some other)
    × (one ≢ number_form (pos 0))
    × (posts ≡ equality_posts a b one other)

-- an equality of whole numbers is read
abbrev pub ReadsEquality : Given → ℕ → List Planned → Type 0
ReadsEquality it post posts = AtFact it.facts (EqualityGives it.nodes) post posts

-- a difference of two whole numbers that are said to be equal does not fit
abbrev pub IsUnreadEquality : Given → ℕ → Type 0
IsUnreadEquality it post = (a : ℕ) × (b : ℕ) × IsSaid it.facts post (Same a b) × (sort_at it.nodes a ≡ Some int)
    × ((difference it.nodes a b ≡ None) ⊎ (difference it.nodes b a ≡ None))
