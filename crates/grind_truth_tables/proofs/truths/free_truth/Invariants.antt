use Rattle.std.proofs.Common.{◌≡◌, length}
use Rattle.grind_truth_tables.specs.Tables.{free_truth}
use Rattle.grind_truth_tables.proofs.truths.free_truth.Given as goal

-- what is left gives what the whole gives
abbrev pub invariant-loop-node : goal.invariant-loop-node
invariant-loop-node l = free_truth l.fn.free l.fn.chosen l.n ≡ free_truth l.nodes l.truths l.n

abbrev pub decreases-loop-node : goal.decreases-loop-node
decreases-loop-node l = length l.nodes
