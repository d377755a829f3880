use Rattle.std.proofs.Common.{arith}
use Rattle.grind_proof_kernel.proofs.PairLemmas.{first_is}
use Rattle.grind_proof_kernel.proofs.layout.first_pair_of.Goals as goal

pub returns : goal.returns
returns c =
    let count = c.requires.layout.pair_count in
    first_is c.args._proof.now.branches c.args.layout.now.pairs c.args.branch c.pair_at.result (omega arith) c.requires.layout.pairs
    (rw c.as_slice.ensures.value at c.pair_at.ensures)
