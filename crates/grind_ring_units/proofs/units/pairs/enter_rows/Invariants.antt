use Rattle.grind_ring_units.specs.Agendas.{AreLeft}
use Rattle.grind_ring_units.proofs.units.pairs.enter_rows.Given as goal

abbrev pub invariant-loop-second : goal.invariant-loop-second
invariant-loop-second l = AreLeft l.state.basis l.second l.pairs
