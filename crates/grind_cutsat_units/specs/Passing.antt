-- What is kept while facts are looked at one by one. No public clause cites these words.
use Rattle.std.specs.Prelude.{ℕ, List}
use Rattle.grind_claims.specs.declared.claim.Claim.{Claim}
use Rattle.grind_cutsat_facts.specs.declared.facts.Fact.{Fact}
use Rattle.grind_cutsat_facts.specs.Facts.{IsSaid}
use Rattle.grind_cutsat_units.specs.declared.types.Planned.{Planned}
use Rattle.grind_cutsat_units.specs.Posts.{NoCase, AtSomeFact}

-- the facts passed so far give nothing new, and the rest is left
pub record IsPassed (Gives : Claim → List Planned → Type 0) (facts rest : List Fact) : Type 0 where
  pub within : (post : ℕ) (claim : Claim) → IsSaid rest post claim → IsSaid facts post claim
  pub none : NoCase facts (AtSomeFact rest Gives) → NoCase facts (AtSomeFact facts Gives)

-- the facts passed so far do not have the property, and the rest is left
pub record IsWithout (P : Claim → Type 0) (facts rest : List Fact) : Type 0 where
  pub within : (post : ℕ) (claim : Claim) → IsSaid rest post claim → IsSaid facts post claim
  pub none : ((post : ℕ) (claim : Claim) → IsSaid rest post claim → ¬ P claim) → (post : ℕ) (claim : Claim) → IsSaid facts post claim → ¬ P claim
