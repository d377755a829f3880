use Rattle.grind_value_tables.specs.Overflows.{value_of}
use Rattle.grind_value_tables.proofs.KeptNodes.{Underway}
use Rattle.grind_value_tables.proofs.respecting.respects.Given as goal

abbrev pub invariant-loop-number : goal.invariant-loop-number
invariant-loop-number l = Underway l.terms.nodes (value_of l.values.list) l.number
