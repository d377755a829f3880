use Rattle.std.specs.Prelude.{length}
use Rattle.grind_ring_units.proofs.ConflictLemmas.{ElementsLeft}
use Rattle.grind_ring_units.proofs.units.conflicts.first_conflict.Given as goal

abbrev pub invariant-loop-element : goal.invariant-loop-element
invariant-loop-element l = ElementsLeft l.state.basis l.posts l.elements

abbrev pub decreases-loop-element : goal.decreases-loop-element
decreases-loop-element l = length l.elements
