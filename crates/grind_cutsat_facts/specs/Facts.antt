-- The facts that were taken: claims, each with the number of the post that says it.
use Rattle.std.specs.Prelude.{ℕ, List, Contains}
use Rattle.grind_claims.specs.declared.claim.Claim.{Claim}
use Rattle.grind_cutsat_facts.specs.declared.facts.Fact.{Fact}

-- the post of this number claims this
abbrev pub fact_of : ℕ → Claim → Fact
fact_of post claim = record { post = post; claim = claim }

-- it was taken that the post of this number claims this
abbrev pub IsSaid : List Fact → ℕ → Claim → Type 0
IsSaid facts post claim = Contains facts (fact_of post claim)

-- the claim stands: a post says it
abbrev pub Stands : List Fact → Claim → Type 0
Stands facts claim = (post : ℕ) × IsSaid facts post claim
