use Rattle.std.proofs.Common.{◌≡◌}
use Rattle.grind_syntax.proofs.trees.listed.Given as goal

abbrev pub invariant-loop-tree : goal.invariant-loop-tree
invariant-loop-tree l = l.trees ≡ l.yielded
