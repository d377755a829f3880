use Rattle.std.proofs.Common.{◌≡◌, ℕ, ◌<◌, Some}
use Rattle.grind_proof_kernel.specs.Typing.{branch_above}
use Rattle.grind_proof_kernel.proofs.branches.reaches.Given as goal

-- that many steps above the branch stands `at`, and the wanted one stands nowhere below it
abbrev pub invariant-loop-step : goal.invariant-loop-step
invariant-loop-step l = record {
  here : branch_above l.branches l._step l.branch ≡ Some l.at;
  below : (k : ℕ) → k < l._step → ¬ (branch_above l.branches k l.branch ≡ Some l.above);
}
