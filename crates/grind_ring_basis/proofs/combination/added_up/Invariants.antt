use Rattle.std.specs.Prelude.{length}
use Rattle.grind_ring_basis.proofs.ShareLemmas.{AddsUp}
use Rattle.grind_ring_basis.proofs.combination.added_up.Given as goal

abbrev pub invariant-loop-post : goal.invariant-loop-post
invariant-loop-post l = AddsUp l.fn.premises.entries l.rest.entries l.factors l.from l.sum

abbrev pub decreases-loop-post : goal.decreases-loop-post
decreases-loop-post l = length l.rest.entries
