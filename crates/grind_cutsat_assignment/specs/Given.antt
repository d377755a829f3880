-- What is given: the facts that were taken, the terms, and the classes of the active nodes.
use Rattle.std.specs.Prelude.{◌≡◌, ℕ, ◌<◌, ◌⊎◌, List, Some, All, Contains, length, ℤ}
use Rattle.grind_term_graph.specs.declared.node.Node.{Node}
use Rattle.grind_term_graph.specs.Terms.{int, sort_at}
use Rattle.grind_linear_forms.specs.Forms.{FormData, part_of}
use Rattle.grind_linear_forms.specs.Readings.{linear}
use Rattle.grind_classes.specs.Classes.{IsActive}
use Rattle.grind_claims.specs.declared.claim.Claim.TheVariants.{AtMost, Differ}
use Rattle.grind_claims.specs.Claims.{IsFormed}
use Rattle.grind_cutsat_facts.specs.declared.facts.Fact.{Fact}
use Rattle.grind_cutsat_facts.specs.Facts.{IsSaid}

-- the facts, the terms, and the member lists of the classes
pub record Given : Type 0 where
  pub facts : List Fact
  pub nodes : List Node
  pub lists : List (List ℕ)

abbrev pub given : List Fact → List Node → List (List ℕ) → Given
given facts nodes lists = record { facts = facts; nodes = nodes; lists = lists }

-- what is given fits together: the facts are well formed over the terms, and the active nodes stand among them
pub record Fits (it : Given) : Type 0 where
  pub formed : All (λ (fact : Fact). IsFormed it.nodes fact.claim) it.facts
  pub within : (n : ℕ) → IsActive it.lists n → n < length it.nodes

-- the form takes the node
abbrev pub Takes : FormData → ℕ → Type 0
Takes form n = (coefficient : ℤ) × Contains form.parts (part_of n coefficient)

-- the node has a coefficient in a fact
abbrev pub IsTakenByFact : Given → ℕ → Type 0
IsTakenByFact it n = (post : ℕ) × (form : FormData) × IsSaid it.facts post (AtMost form) × Takes form n

-- the node has a coefficient in the reading of an active whole number
abbrev pub IsTakenByReading : Given → ℕ → Type 0
IsTakenByReading it n = (m : ℕ) × (form : FormData)
    × IsActive it.lists m × (sort_at it.nodes m ≡ Some int) × (linear it.nodes m ≡ Some form) × Takes form n

-- the node is an atom
abbrev pub IsAtom : Given → ℕ → Type 0
IsAtom it n = IsTakenByFact it n ⊎ IsTakenByReading it n

-- the post says that two whole numbers differ
abbrev pub SaysDiffer : List Fact → List Node → ℕ → ℕ → ℕ → Type 0
SaysDiffer facts nodes post a b = IsSaid facts post (Differ a b) × (sort_at nodes a ≡ Some int)
