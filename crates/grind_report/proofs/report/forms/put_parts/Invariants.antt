use Rattle.std.proofs.Common.{◌≡◌, ◌++◌, All, length}
use Rattle.std.specs.List.{flat_map}
use Rattle.grind_report.specs.Report.{spaced, part_words, PartFits}
use Rattle.grind_report.proofs.report.forms.put_parts.Given as goal

abbrev pub invariant-loop-part : goal.invariant-loop-part
invariant-loop-part l = (l.out ++ spaced (flat_map part_words l.rest) ≡ l.initial.out ++ spaced (flat_map part_words l.fn.parts))
    × (All PartFits l.rest → All PartFits l.fn.parts)

abbrev pub decreases-loop-part : goal.decreases-loop-part
decreases-loop-part l = length l.rest
