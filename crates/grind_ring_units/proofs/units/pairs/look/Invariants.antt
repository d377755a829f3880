use Rattle.std.specs.Prelude.{length}
use Rattle.grind_ring_units.proofs.AgendaLemmas.{PairsSoFar}
use Rattle.grind_ring_units.proofs.units.pairs.look.Given as goal

abbrev pub invariant-loop-places : goal.invariant-loop-places
invariant-loop-places l = PairsSoFar l.state l.rest l.left l.marks

abbrev pub decreases-loop-places : goal.decreases-loop-places
decreases-loop-places l = length l.rest
