use Rattle.std.proofs.Common.{◌≡◌, length, take}
use Rattle.grind_proof_kernel.specs.Layouts.{AreSpans}
use Rattle.grind_proof_kernel.proofs.spans.spans_of.Given as goal

-- the spans so far are those of the first lines
abbrev pub invariant-loop-i : goal.invariant-loop-i
invariant-loop-i l = record {
  count : length l.spans ≡ l.count;
  spans : AreSpans (take l.i l.lines) l.spans;
}
