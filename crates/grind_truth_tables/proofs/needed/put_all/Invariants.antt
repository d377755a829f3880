use Rattle.std.proofs.Common.{length}
use Rattle.grind_truth_tables.proofs.NeededLemmas.{Gathering}
use Rattle.grind_truth_tables.proofs.needed.put_all.Given as goal

abbrev pub invariant-loop-node : goal.invariant-loop-node
invariant-loop-node l = Gathering l.fn.set.keys l.fn.nodes l.rest l.set.keys

abbrev pub decreases-loop-node : goal.decreases-loop-node
decreases-loop-node l = length l.rest
