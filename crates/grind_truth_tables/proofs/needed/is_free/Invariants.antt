use Rattle.std.proofs.Common.{◌↔◌, length}
use Rattle.grind_truth_tables.specs.Needed.{Lists}
use Rattle.grind_truth_tables.proofs.needed.is_free.Given as goal

-- it stands in what is left exactly where it stands in the whole
abbrev pub invariant-loop-it : goal.invariant-loop-it
invariant-loop-it l = Lists l.rest l.node ↔ Lists l.fn.free l.node

abbrev pub decreases-loop-it : goal.decreases-loop-it
decreases-loop-it l = length l.rest
