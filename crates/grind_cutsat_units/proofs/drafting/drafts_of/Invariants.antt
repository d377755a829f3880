use Rattle.std.proofs.Common.{length}
use Rattle.grind_cutsat_units.specs.Drafting.{IsHalfDrafted}
use Rattle.grind_cutsat_units.proofs.drafting.drafts_of.Given as goal

abbrev pub invariant-loop-it : goal.invariant-loop-it
invariant-loop-it l = IsHalfDrafted l.view.facts.now l.view.next l.fn.posts l.rest l.drafts

abbrev pub decreases-loop-it : goal.decreases-loop-it
decreases-loop-it l = length l.rest
