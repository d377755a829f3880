use Rattle.std.proofs.Common.{ℕ, ◌<◌}
use Rattle.grind_proof_kernel.specs.Typing.{IsGoodBranch}
use Rattle.grind_proof_kernel.proofs.branches.first_bad.Given as goal

-- the branches so far are good
abbrev pub invariant-loop-branch : goal.invariant-loop-branch
invariant-loop-branch l = (b : ℕ) → b < l.branch → IsGoodBranch l.proof b
