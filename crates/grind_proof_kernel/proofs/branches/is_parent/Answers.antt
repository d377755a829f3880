use Rattle.std.proofs.Common.{arith}
use Rattle.grind_proof_kernel.proofs.PairLemmas.{parent_tells}
use Rattle.grind_proof_kernel.proofs.branches.is_parent.Goals as goal

pub returns : goal.returns
returns c =
    parent_tells c.args.proof.now.branches c.args.branch c.len.result c.has_pair.result c.len.ensures.value c.has_pair.ensures
