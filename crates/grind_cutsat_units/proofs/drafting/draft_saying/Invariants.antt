use Rattle.std.proofs.Common.{◌↔◌, ℕ, length}
use Rattle.grind_cutsat_facts.specs.Facts.{IsSaid}
use Rattle.grind_cutsat_units.specs.Drafting.{facts_of}
use Rattle.grind_cutsat_units.proofs.drafting.draft_saying.Given as goal

abbrev pub invariant-loop-draft : goal.invariant-loop-draft
invariant-loop-draft l =
    (post : ℕ) → IsSaid (facts_of l.number l.rest) post l.claim ↔ IsSaid (facts_of l.fn.next l.fn.drafts) post l.claim

abbrev pub decreases-loop-draft : goal.decreases-loop-draft
decreases-loop-draft l = length l.rest
