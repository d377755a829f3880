use Rattle.std.proofs.Common.{◌≡◌, [], length}
use Rattle.grind_proof_kernel.specs.Layouts.{AreSpans}
use Rattle.grind_proof_kernel.proofs.spans.no_spans.Given as goal

abbrev pub invariant-loop-branch : goal.invariant-loop-branch
invariant-loop-branch l = record {
  count : length l.spans ≡ l._branch;
  spans : AreSpans [] l.spans;
}
