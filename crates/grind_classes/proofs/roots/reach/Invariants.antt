use Rattle.std.specs.Prelude.{◌≡◌, ℕ, ◌+◌, ◌-◌, length}
use Rattle.grind_classes.specs.Roots.{root_at}
use Rattle.grind_classes.proofs.roots.reach.Given as goal

abbrev pub invariant-loop-n : goal.invariant-loop-n
invariant-loop-n l = record { same : (m : ℕ) → root_at l.roots m ≡ root_at l.fn.roots m; node : l.n ≡ l.fn.n }

abbrev pub decreases-loop-n : goal.decreases-loop-n
decreases-loop-n l = l.n + 1 - length l.roots
