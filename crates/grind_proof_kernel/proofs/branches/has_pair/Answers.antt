use Rattle.std.proofs.Common.{arith}
use Rattle.grind_proof_kernel.proofs.PairLemmas.{ltb_tells}
use Rattle.grind_proof_kernel.proofs.branches.has_pair.Goals as goal

pub returns : goal.returns
returns c = ltb_tells c.first_pair_of-first.result c.args.pairs (c.first_pair_of-first.ensures c.args.pairs (omega arith))
