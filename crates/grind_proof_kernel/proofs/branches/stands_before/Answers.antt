use Rattle.grind_proof_kernel.proofs.LayoutLemmas.{leb_tells}
use Rattle.grind_proof_kernel.proofs.branches.stands_before.Goals as goal

pub returns : goal.returns
returns c = leb_tells c.span_of-span.result.end c.args.after (c.span_of-span.ensures.ends c.args.after)
