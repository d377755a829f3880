use Rattle.std.proofs.Common.{ℕ, ◌<◌}
use Rattle.grind_proof_kernel.specs.Judgement.{HasGoodBranches}
use Rattle.grind_proof_kernel.specs.Typing.{TypedLine}
use Rattle.grind_proof_kernel.proofs.checker.check.Given as goal

-- no branch is bad, and the lines so far are typed
abbrev pub invariant-loop-i : goal.invariant-loop-i
invariant-loop-i l = record {
  branches : HasGoodBranches l.proof;
  before : (k : ℕ) → k < l.i → TypedLine l.lemmas l.goal l.proof k;
}
