use Rattle.std.specs.Prelude.{length, ◌≤◌}
use Rattle.grind_reach.proofs.MarkLemmas.{IsMarking}
use Rattle.grind_reach.proofs.marking.needed_nodes.Given as goal

abbrev pub invariant-loop-number : goal.invariant-loop-number
invariant-loop-number l = record {
  marking : IsMarking l.table.nodes l.fn.roots l.marks l.number;
  within : l.number ≤ length l.marks;
}

abbrev pub decreases-loop-number : goal.decreases-loop-number
decreases-loop-number l = l.number
