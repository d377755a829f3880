use Rattle.std.specs.Prelude.{◌≡◌, length}
use Rattle.grind_ring_basis.specs.declared.types.Fact.{Fact}
use Rattle.grind_ring_units.proofs.ListLemmas.{Passes}
use Rattle.grind_ring_units.proofs.known.post_among.Given as goal

abbrev pub invariant-loop-it : goal.invariant-loop-it
invariant-loop-it l = Passes Fact (λ (it : Fact). it.poly ≡ l.poly) l.fn.facts l.rest

abbrev pub decreases-loop-it : goal.decreases-loop-it
decreases-loop-it l = length l.rest
