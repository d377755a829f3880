use Rattle.std.specs.Prelude.{length}
use Rattle.grind_journal.proofs.Passing.{IsPassed}
use Rattle.grind_journal.proofs.journal.find_among.Given as goal

-- none of the posts passed over makes the claim
abbrev pub invariant-loop-post : goal.invariant-loop-post
invariant-loop-post l = IsPassed l.fn.posts l.claim l.rest l.number

abbrev pub decreases-loop-post : goal.decreases-loop-post
decreases-loop-post l = length l.rest
