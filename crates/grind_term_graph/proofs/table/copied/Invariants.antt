use Rattle.std.specs.Prelude.{◌≡◌, ◌++◌, length}
use Rattle.grind_term_graph.specs.Shape.{IsTable}
use Rattle.grind_term_graph.proofs.table.copied.Given as goal

abbrev pub invariant-loop-node : goal.invariant-loop-node
invariant-loop-node l = IsTable l.copies.keys l.rest × (l.copies.keys ++ l.rest ≡ l.fn.nodes)

abbrev pub decreases-loop-node : goal.decreases-loop-node
decreases-loop-node l = length l.rest
