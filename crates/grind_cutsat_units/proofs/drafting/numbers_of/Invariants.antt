use Rattle.std.proofs.Common.{ℕ, List, ◌++◌, All, length}
use Rattle.grind_cutsat_facts.specs.Facts.{Stands}
use Rattle.grind_cutsat_units.specs.Posts.{AreSaid}
use Rattle.grind_cutsat_units.specs.Drafting.{with_drafts}
use Rattle.grind_cutsat_units.proofs.drafting.numbers_of.Given as goal

abbrev pub invariant-loop-claim : goal.invariant-loop-claim
invariant-loop-claim l = record {
  stand : All (Stands (with_drafts l.view.facts.now l.view.next l.drafts)) l.rest;
  completes : (more : List ℕ) → AreSaid (with_drafts l.view.facts.now l.view.next l.drafts) more l.rest
      → AreSaid (with_drafts l.view.facts.now l.view.next l.drafts) (l.from ++ more) l.fn.claims;
}

abbrev pub decreases-loop-claim : goal.decreases-loop-claim
decreases-loop-claim l = length l.rest
