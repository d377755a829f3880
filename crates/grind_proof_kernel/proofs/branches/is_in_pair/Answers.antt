use Rattle.std.proofs.Common.{◌-◌, ◌/◌, arith}
use Rattle.grind_proof_kernel.proofs.PlaceLemmas.{first_in_pair, second_in_pair}
use Rattle.grind_proof_kernel.proofs.branches.is_in_pair.Goals as goal

pub returns-then-branch-pair : goal.returns-then-branch-pair
returns-then-branch-pair c =
    first_in_pair c.args.proof.now.terms.nodes c.args.proof.now.branches c.args.proof.now.lines ((c.args.branch - 1) / 2) c.args.branch c.args.it.now
    c.is_first.result (omega arith) c.is_first.ensures

pub returns : goal.returns
returns c =
    let told = rw c.as_slice.ensures.value at c.follows_first.ensures in
    second_in_pair c.args.proof.now.terms.nodes c.args.proof.now.branches c.args.proof.now.lines ((c.args.branch - 1) / 2) c.args.branch (c.args.branch - 1)
    c.args.it.now c.follows_first.result (omega arith) (omega arith) told
