use Rattle.std.proofs.Common.{◌≡◌, length}
use Rattle.grind_proof_kernel.specs.Layouts.{AreFirstPairsSoFar}
use Rattle.grind_proof_kernel.proofs.pairs.no_pairs.Given as goal

abbrev pub invariant-loop-branch : goal.invariant-loop-branch
invariant-loop-branch l = record {
  count : length l.pairs ≡ l._branch;
  pairs : AreFirstPairsSoFar l._branches 0 l.pairs;
}
