use Rattle.std.specs.Prelude.{◌≡◌, length}
use Rattle.grind_cutsat_assignment.specs.Assignments.{chosen_value}
use Rattle.grind_cutsat_splits.proofs.evaluation.value_of.Given as goal

-- what is left gives the node what the whole does
abbrev pub invariant-loop-chosen : goal.invariant-loop-chosen
invariant-loop-chosen l = chosen_value l.rest l.node ≡ chosen_value l.fn.values l.node

abbrev pub decreases-loop-chosen : goal.decreases-loop-chosen
decreases-loop-chosen l = length l.rest
