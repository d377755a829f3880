use Rattle.std.proofs.Common.{◌≡◌, ◌≤◌, length}
use Rattle.grind_cutsat_bounds.specs.Evaluations.{value_of}
use Rattle.grind_cutsat_assignment.specs.Courses.{AreSettled}
use Rattle.grind_cutsat_assignment.proofs.walk.values_of.Given as goal

abbrev pub invariant-loop-number : goal.invariant-loop-number
invariant-loop-number l = record {
  count : length l.values ≡ length l.marks;
  within : l.number ≤ length l.marks;
  settled : AreSettled l.facts l.marks l.number (value_of l.values);
}

abbrev pub decreases-loop-number : goal.decreases-loop-number
decreases-loop-number l = l.number
