use Rattle.std.specs.Prelude.{◌≡◌, length}
use Rattle.grind_cutsat_bounds.specs.Evaluations as specs
use Rattle.grind_cutsat_assignment.specs.Assignments.{chosen_value}
use Rattle.grind_cutsat_splits.proofs.evaluation.evaluated.Given as goal

-- what is left, after the sum, comes to what the whole does
abbrev pub invariant-loop-part : goal.invariant-loop-part
invariant-loop-part l =
    specs.evaluated (chosen_value l.values) l.sum l.rest ≡ specs.evaluated (chosen_value l.values) l.fn.number l.fn.parts

abbrev pub decreases-loop-part : goal.decreases-loop-part
decreases-loop-part l = length l.rest
