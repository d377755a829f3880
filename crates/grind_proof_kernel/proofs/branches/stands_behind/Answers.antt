use Rattle.std.proofs.Common.{arith}
use Rattle.grind_proof_kernel.proofs.LayoutLemmas.{leb_tells}
use Rattle.grind_proof_kernel.proofs.branches.stands_behind.Goals as goal

pub returns : goal.returns
returns c = leb_tells c.args.after c.span_of-span.result.begin (c.span_of-span.ensures.begins c.args.after (omega arith))
