use Rattle.std.proofs.Common.{refl}
use Rattle.grind_proof_kernel.proofs.PairLemmas.{one_unknown_more}
use Rattle.grind_proof_kernel.proofs.LayoutLemmas.{one_item_more}
use Rattle.grind_proof_kernel.proofs.pairs.no_pairs.Goals as goal

pub loop-branch-preserved : goal.loop-branch-preserved
loop-branch-preserved c = record {
  count = one_item_more _ _ _ _ c.in_ok-push.ensures.ok c.loop-branch.invariant.count;
  pairs = one_unknown_more c.args._branches.now _ _ _ c.in_ok-push.ensures.ok refl c.loop-branch.invariant.pairs;
}
