use Rattle.std.proofs.Common.{refl}
use Rattle.grind_proof_kernel.proofs.LayoutLemmas.{one_more_empty, one_item_more}
use Rattle.grind_proof_kernel.proofs.spans.no_spans.Goals as goal

pub loop-branch-preserved : goal.loop-branch-preserved
loop-branch-preserved c = record {
  count = one_item_more _ _ _ _ c.in_ok-push.ensures.ok c.loop-branch.invariant.count;
  spans = one_more_empty _ _ _ c.in_ok-push.ensures.ok refl refl refl c.loop-branch.invariant.spans;
}
