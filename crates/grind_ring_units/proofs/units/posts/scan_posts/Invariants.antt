use Rattle.std.specs.Prelude.{length}
use Rattle.grind_ring_units.proofs.MarkLemmas.{PostsSoFar}
use Rattle.grind_ring_units.proofs.units.posts.scan_posts.Given as goal

abbrev pub invariant-loop-it : goal.invariant-loop-it
invariant-loop-it l = PostsSoFar l.state l.rest l.marks

abbrev pub decreases-loop-it : goal.decreases-loop-it
decreases-loop-it l = length l.rest
