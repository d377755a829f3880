-- What the judge of a proof's lines keeps.
use Rattle.std.specs.Prelude.{◌≡◌, length, take}
use Rattle.grind_schemes.specs.Goals.{GoalData}
use Rattle.grind_claims.specs.declared.proof.Proof.{Proof}

-- the first terms of the proof are those of the goal
abbrev pub BeginsWithTerms : GoalData → Proof → Type 0
BeginsWithTerms goal proof = take (length goal.terms.nodes) proof.terms.nodes ≡ goal.terms.nodes
