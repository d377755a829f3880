use Rattle.std.proofs.Common.{length}
use Rattle.grind_cutsat_assignment.specs.Walks.{IsMarking, TakesPart}
use Rattle.grind_cutsat_assignment.proofs.atoms.mark_parts.Given as goal

abbrev pub invariant-loop-part : goal.invariant-loop-part
invariant-loop-part l = IsMarking l.fn.marks l.marks (TakesPart l.rest) (TakesPart l.fn.parts)

abbrev pub decreases-loop-part : goal.decreases-loop-part
decreases-loop-part l = length l.rest
