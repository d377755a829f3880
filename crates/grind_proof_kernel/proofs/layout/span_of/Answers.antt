use Rattle.std.proofs.Common.{arith}
use Rattle.grind_proof_kernel.proofs.LayoutLemmas.{span_is}
use Rattle.grind_proof_kernel.proofs.layout.span_of.Goals as goal

pub returns : goal.returns
returns c =
    let count = c.requires.layout.count in
    span_is c.args._proof.now.lines c.args.layout.now.spans c.args.branch c.span_at.result (omega arith) c.requires.layout.spans
    (rw c.as_slice.ensures.value at c.span_at.ensures)
