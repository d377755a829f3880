-- What one claim, or the readings alone, settle. No public clause cites these words.
use Rattle.std.specs.Prelude.{◌≡◌, ◌⊎◌, ℕ, ◌<◌, List, [], ◌∷◌, Some, pos, ◌≤ℤ◌}
use Rattle.grind_term_graph.specs.declared.node.Node.{Node}
use Rattle.grind_term_graph.specs.Terms.{int, sort_at}
use Rattle.grind_linear_forms.specs.Forms.{FormData}
use Rattle.grind_term_rules.specs.TermRules.{IsEquation}
use Rattle.grind_arithmetic_rules.specs.LinearRules.{IsRead, IsWrite, IsApart}
use Rattle.grind_claims.specs.declared.claim.Claim.{Claim}
use Rattle.grind_claims.specs.declared.claim.Claim.TheVariants.{Holds, Fails, Differ, AtMost}
use Rattle.grind_claims.specs.declared.proof.Rule.TheVariants.{Write, Combine, Apart}
use Rattle.grind_cutsat_facts.specs.declared.facts.Fact.{Fact}
use Rattle.grind_cutsat_assignment.specs.Given.{Given}
use Rattle.grind_cutsat_units.specs.declared.types.Planned.{Planned}
use Rattle.grind_cutsat_units.specs.Posts.{planned, AtSomeFact}
use Rattle.grind_cutsat_units.specs.Settled.{IsUnknown}

-- ---- comparisons

-- the claim is a bound from which the literal is written
abbrev pub WriteGives : List Node → Claim → Claim → List Planned → Type 0
WriteGives nodes literal claim posts = (form : FormData) × (claim ≡ AtMost form)
    × IsWrite nodes (AtMost form ∷ []) literal × (posts ≡ planned literal Write (AtMost form ∷ []) ∷ [])

-- the bound that is combined from nothing, and the literal that is written from it
abbrev pub read_posts : Claim → FormData → List Planned
read_posts literal form =
    planned (AtMost form) (Combine (pos 1) []) [] ∷ planned literal Write (AtMost form ∷ []) ∷ []

-- the form by which the literal is read is a number of at most 0
abbrev pub ReadingGives : List Node → Claim → List Planned → Type 0
ReadingGives nodes literal posts = (form : FormData) × IsRead nodes (literal ∷ []) (AtMost form)
    × (form.parts ≡ []) × (form.constant ≤ℤ pos 0) × (posts ≡ read_posts literal form)

-- a fact or the readings settle the literal
abbrev pub LiteralGives : List Node → List Fact → Claim → List Planned → Type 0
LiteralGives nodes facts literal posts = AtSomeFact facts (WriteGives nodes literal) posts ⊎ ReadingGives nodes literal posts

-- ---- equations

-- the claim is a bound that keeps the two apart
abbrev pub ApartGives : List Node → ℕ → ℕ → Claim → List Planned → Type 0
ApartGives nodes a b claim posts = (form : FormData) × (claim ≡ AtMost form)
    × IsApart nodes (AtMost form ∷ []) (Differ a b) × (posts ≡ planned (Differ a b) Apart (AtMost form ∷ []) ∷ [])

-- the readings alone keep them apart
abbrev pub ApartAlone : List Node → ℕ → ℕ → List Planned → Type 0
ApartAlone nodes a b posts = IsApart nodes [] (Differ a b) × (posts ≡ planned (Differ a b) Apart [] ∷ [])

-- a fact or the readings keep the two apart
abbrev pub SidesGive : List Node → List Fact → ℕ → ℕ → List Planned → Type 0
SidesGive nodes facts a b posts = AtSomeFact facts (ApartGives nodes a b) posts ⊎ ApartAlone nodes a b posts

-- the node is an equation of two whole numbers
abbrev pub IsIntEquation : List Node → ℕ → ℕ → ℕ → Type 0
IsIntEquation nodes n a b = IsEquation nodes n a b × (sort_at nodes a ≡ Some int)

-- whose sides are kept apart
abbrev pub NodeParts : List Node → List Fact → ℕ → List Planned → Type 0
NodeParts nodes facts n posts = (a : ℕ) × (b : ℕ) × IsIntEquation nodes n a b × SidesGive nodes facts a b posts

-- ---- both

-- the node is settled: it holds, or it fails, or its sides are kept apart
abbrev pub NodeGives : List Node → List Fact → ℕ → List Planned → Type 0
NodeGives nodes facts n posts = LiteralGives nodes facts (Holds n) posts
    ⊎ (LiteralGives nodes facts (Fails n) posts ⊎ NodeParts nodes facts n posts)

-- and it is not known
abbrev pub SettlesNode : Given → ℕ → List Planned → Type 0
SettlesNode it n posts = IsUnknown it n × NodeGives it.nodes it.facts n posts

-- so it is of a node below this number
abbrev pub SettlesBelow : Given → ℕ → List Planned → Type 0
SettlesBelow it count posts = (n : ℕ) × (n < count) × SettlesNode it n posts
