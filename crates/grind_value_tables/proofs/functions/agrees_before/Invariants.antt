use Rattle.grind_value_tables.specs.Overflows.{value_of}
use Rattle.grind_value_tables.specs.NodeByNode.{AgreesBefore}
use Rattle.grind_value_tables.proofs.functions.agrees_before.Given as goal

abbrev pub invariant-loop-earlier : goal.invariant-loop-earlier
invariant-loop-earlier l = AgreesBefore l.terms.nodes (value_of l.list) l.earlier l.node l.given
