use Rattle.std.proofs.Common.{◌≢◌, ℕ, ◌<◌, slice_index_or}
use Rattle.grind_truth_tables.proofs.table.are_different.Given as goal

-- the nodes so far are different
abbrev pub invariant-loop-j : goal.invariant-loop-j
invariant-loop-j l = (j : ℕ) → j < l.j → (i d : ℕ) → i < j → slice_index_or l.nodes i d ≢ slice_index_or l.nodes j d
