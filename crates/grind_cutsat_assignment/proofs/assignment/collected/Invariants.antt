use Rattle.grind_cutsat_bounds.specs.Evaluations.{value_of}
use Rattle.grind_cutsat_assignment.specs.Collecting.{AreCollected}
use Rattle.grind_cutsat_assignment.proofs.assignment.collected.Given as goal

abbrev pub invariant-loop-number : goal.invariant-loop-number
invariant-loop-number l = AreCollected l.marks (value_of l.values) l.number l.list
