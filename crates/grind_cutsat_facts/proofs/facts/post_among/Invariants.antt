use Rattle.std.proofs.Common.{◌↔◌, ℕ, length}
use Rattle.grind_cutsat_facts.specs.Facts.{IsSaid}
use Rattle.grind_cutsat_facts.proofs.facts.post_among.Given as goal

-- what is left says the claim exactly where the whole does
abbrev pub invariant-loop-fact : goal.invariant-loop-fact
invariant-loop-fact l = (post : ℕ) → IsSaid l.rest post l.claim ↔ IsSaid l.fn.facts post l.claim

abbrev pub decreases-loop-fact : goal.decreases-loop-fact
decreases-loop-fact l = length l.rest
