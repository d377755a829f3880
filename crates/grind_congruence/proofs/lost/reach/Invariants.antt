use Rattle.std.specs.Prelude.{◌≡◌, ℕ, ◌+◌, ◌-◌, None, length, slice_index_or}
use Rattle.grind_congruence.proofs.lost.reach.Given as goal

abbrev pub invariant-loop-n : goal.invariant-loop-n
invariant-loop-n l = record { same : (m : ℕ) → slice_index_or l.lost m None ≡ slice_index_or l.fn.lost m None; node : l.n ≡ l.fn.n }

abbrev pub decreases-loop-n : goal.decreases-loop-n
decreases-loop-n l = l.n + 1 - length l.lost
