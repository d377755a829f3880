use Rattle.std.specs.Prelude.{◌≡◌, length}
use Rattle.grind_ring_units.specs.declared.types.Equality.{Equality}
use Rattle.grind_ring_units.proofs.ListLemmas.{Passes}
use Rattle.grind_ring_units.proofs.units.equal_terms.is_taken_as_equal.Given as goal

abbrev pub invariant-loop-it : goal.invariant-loop-it
invariant-loop-it l = Passes Equality (λ (it : Equality). (it.left ≡ l.fn.a) × (it.right ≡ l.fn.b)) l.fn.state.equalities l.rest

abbrev pub decreases-loop-it : goal.decreases-loop-it
decreases-loop-it l = length l.rest
