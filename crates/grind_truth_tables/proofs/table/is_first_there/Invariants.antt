use Rattle.std.proofs.Common.{◌≢◌, ℕ, ◌<◌, slice_index_or}
use Rattle.grind_truth_tables.proofs.table.is_first_there.Given as goal

-- none of the nodes so far is this one
abbrev pub invariant-loop-i : goal.invariant-loop-i
invariant-loop-i l = (i d : ℕ) → i < l.i → slice_index_or l.nodes i d ≢ slice_index_or l.nodes l.j d
