use Rattle.std.proofs.Common.{◌≡◌, length}
use Rattle.grind_proof_kernel.specs.Layouts.{AreFirstPairsSoFar}
use Rattle.grind_proof_kernel.proofs.pairs.first_pairs.Given as goal

-- the pairs so far are known
abbrev pub invariant-loop-pair : goal.invariant-loop-pair
invariant-loop-pair l = record {
  count : length l.pairs ≡ l.count;
  pairs : AreFirstPairsSoFar l.branches l.pair l.pairs;
}
