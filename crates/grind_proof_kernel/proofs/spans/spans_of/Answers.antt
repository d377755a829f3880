use Rattle.std.proofs.Common.{◌∙◌}
use Rattle.grind_proof_kernel.proofs.LayoutLemmas.{next_line}
use Rattle.grind_proof_kernel.proofs.spans.spans_of.Goals as goal

pub loop-i-preserved : goal.loop-i-preserved
loop-i-preserved c = record {
  count = c.note.ensures.count ∙ c.loop-i.invariant.count;
  spans = next_line c.args.lines.now c.loop-i.i c.index-lines-i.result c.loop-i.spans c.note.new.spans c.loop-i-test.true c.index-lines-i.is
      c.note.ensures.spans c.loop-i.invariant.spans;
}
