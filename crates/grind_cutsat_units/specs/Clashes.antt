-- A bound that cannot be.
use Rattle.std.specs.Prelude.{ℕ}
use Rattle.grind_arithmetic_rules.specs.LinearRules.{IsTooGreat}
use Rattle.grind_claims.specs.declared.claim.Claim.{Claim}
use Rattle.grind_cutsat_facts.specs.Facts.{IsSaid}
use Rattle.grind_cutsat_assignment.specs.Given.{Given}

-- the post says that a number over 0 is at most 0
abbrev pub Clashes : Given → ℕ → Type 0
Clashes it post = (claim : Claim) × IsSaid it.facts post claim × IsTooGreat claim
