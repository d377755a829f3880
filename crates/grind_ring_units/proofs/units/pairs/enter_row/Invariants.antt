use Rattle.grind_ring_units.specs.Findings.{IsRowEntered}
use Rattle.grind_ring_units.proofs.units.pairs.enter_row.Given as goal

abbrev pub invariant-loop-first : goal.invariant-loop-first
invariant-loop-first l = IsRowEntered l.fn.pairs l.second l.first l.pairs
