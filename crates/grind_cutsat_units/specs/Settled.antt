-- Comparisons that are not known and that a fact or the readings alone settle, and equations whose sides they keep apart.
use Rattle.std.specs.Prelude.{◌≡◌, ◌⊎◌, ℕ, List, [], ◌∷◌, Some, pos, ◌≤ℤ◌}
use Rattle.grind_term_graph.specs.Terms.{int, sort_at}
use Rattle.grind_linear_forms.specs.Forms.{FormData}
use Rattle.grind_classes.specs.Classes.{IsActive}
use Rattle.grind_term_rules.specs.TermRules.{IsEquation}
use Rattle.grind_arithmetic_rules.specs.LinearRules.{IsRead, IsWrite, IsApart}
use Rattle.grind_claims.specs.declared.claim.Claim.{Claim}
use Rattle.grind_claims.specs.declared.claim.Claim.TheVariants.{Holds, Fails, Differ, AtMost}
use Rattle.grind_claims.specs.declared.proof.Rule.TheVariants.{Write, Combine, Apart}
use Rattle.grind_cutsat_facts.specs.Facts.{IsSaid, Stands}
use Rattle.grind_cutsat_assignment.specs.Given.{Given}
use Rattle.grind_cutsat_units.specs.declared.types.Planned.{Planned}
use Rattle.grind_cutsat_units.specs.Posts.{planned}

-- the node is active, and neither known to hold nor to fail
pub record IsUnknown (it : Given) (n : ℕ) : Type 0 where
  pub active : IsActive it.lists n
  pub not_held : Stands it.facts (Holds n) → ⊥
  pub not_failed : Stands it.facts (Fails n) → ⊥

-- the literal says that the node holds, or that it fails
abbrev pub IsLiteralOf : ℕ → Claim → Type 0
IsLiteralOf n literal = (literal ≡ Holds n) ⊎ (literal ≡ Fails n)

-- a fact settles the comparison: the rule `write` allows the literal from it
abbrev pub SettlesByFact : Given → List Planned → Type 0
SettlesByFact it posts = (n : ℕ) × (literal : Claim) × (post : ℕ) × (form : FormData) × IsUnknown it n
    × IsLiteralOf n literal × IsSaid it.facts post (AtMost form)
    × IsWrite it.nodes (AtMost form ∷ []) literal × (posts ≡ planned literal Write (AtMost form ∷ []) ∷ [])

-- the readings alone do: the form by which the literal is read is a number of at most 0, which is posted first
abbrev pub SettlesByReading : Given → List Planned → Type 0
SettlesByReading it posts = (n : ℕ) × (literal : Claim) × (form : FormData) × IsUnknown it n
    × IsLiteralOf n literal × IsRead it.nodes (literal ∷ []) (AtMost form) × (form.parts ≡ []) × (form.constant ≤ℤ pos 0)
    × (posts ≡ planned (AtMost form) (Combine (pos 1) []) [] ∷ planned literal Write (AtMost form ∷ []) ∷ [])

-- a fact keeps the sides of an unknown equation of whole numbers apart
abbrev pub PartsByFact : Given → List Planned → Type 0
PartsByFact it posts = (n : ℕ) × (a : ℕ) × (b : ℕ) × (post : ℕ) × (form : FormData) × IsUnknown it n
    × IsEquation it.nodes n a b × (sort_at it.nodes a ≡ Some int) × IsSaid it.facts post (AtMost form)
    × IsApart it.nodes (AtMost form ∷ []) (Differ a b)
    × (posts ≡ planned (Differ a b) Apart (AtMost form ∷ []) ∷ [])

-- their readings alone do
abbrev pub PartsByReading : Given → List Planned → Type 0
PartsByReading it posts = (n : ℕ) × (a : ℕ) × (b : ℕ) × IsUnknown it n
    × IsEquation it.nodes n a b × (sort_at it.nodes a ≡ Some int) × IsApart it.nodes [] (Differ a b)
    × (posts ≡ planned (Differ a b) Apart [] ∷ [])

-- an unknown comparison or equation is settled
abbrev pub Settles : Given → List Planned → Type 0
Settles it posts = (SettlesByFact it posts ⊎ SettlesByReading it posts) ⊎ (PartsByFact it posts ⊎ PartsByReading it posts)
