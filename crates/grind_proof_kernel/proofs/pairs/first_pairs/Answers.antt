use Rattle.std.proofs.Common.{◌∙◌, arith}
use Rattle.grind_proof_kernel.proofs.PairLemmas.{all_pairs}
use Rattle.grind_proof_kernel.proofs.pairs.first_pairs.Goals as goal

pub loop-pair-preserved : goal.loop-pair-preserved
loop-pair-preserved c = record {
  count = c.note_pair.ensures.count ∙ c.loop-pair.invariant.count;
  pairs = c.note_pair.ensures.pairs c.args.branches.now c.parent_of_pair-parent.ensures c.loop-pair.invariant.pairs;
}

pub returns-clause-pairs : goal.returns-clause-pairs
returns-clause-pairs c =
    all_pairs c.args.branches.now c.loop-pair.pair c.loop-pair.pairs (omega arith) c.loop-pair.invariant.pairs
