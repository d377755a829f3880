use Rattle.std.proofs.Common.{◌≡◌, ◌↔◌, length}
use Rattle.grind_differences.proofs.equations.are_same_nodes.Given as goal

-- what is left says the same as the whole
abbrev pub invariant-loop-node : goal.invariant-loop-node
invariant-loop-node l = (l.these ≡ l.those) ↔ (l.fn.nodes ≡ l.fn.others)

abbrev pub decreases-loop-node : goal.decreases-loop-node
decreases-loop-node l = length l.these
