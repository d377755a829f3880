use Rattle.std.specs.Prelude.{◌≡◌, ◌<◌, All, length}
use Rattle.grind_value_tables.specs.Overflows.{value_of}
use Rattle.grind_value_tables.specs.Evaluations as specs
use Rattle.grind_value_tables.proofs.evaluation.times_nodes.Given as goal

abbrev pub invariant-loop-node : goal.invariant-loop-node
invariant-loop-node l =
    All (λ n. n < length l.list) l.rest
    × (specs.along (specs.times_node (value_of l.list)) l.product l.rest
    ≡ specs.along (specs.times_node (value_of l.list)) l.fn.coefficient l.nodes)

abbrev pub decreases-loop-node : goal.decreases-loop-node
decreases-loop-node l = length l.rest
