use Rattle.std.specs.Prelude.{◌≡◌, ℕ, ◌+◌, ◌-◌, length}
use Rattle.grind_congruence.specs.Table.{uses_of}
use Rattle.grind_congruence.proofs.uses.reach.Given as goal

abbrev pub invariant-loop-alloc : goal.invariant-loop-alloc
invariant-loop-alloc l = record { same : (m : ℕ) → uses_of l.uses m ≡ uses_of l.fn.uses m; node : l.n ≡ l.fn.n }

abbrev pub decreases-loop-alloc : goal.decreases-loop-alloc
decreases-loop-alloc l = l.n + 1 - length l.uses
