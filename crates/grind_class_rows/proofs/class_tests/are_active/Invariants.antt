use Rattle.std.specs.Prelude.{All, length}
use Rattle.grind_class_joins.specs.Joins.{IsActivePair}
use Rattle.grind_class_rows.proofs.class_tests.are_active.Given as goal

abbrev pub invariant-loop-pair : goal.invariant-loop-pair
invariant-loop-pair l = All (IsActivePair l.fn.classes.lists) l.rest → All (IsActivePair l.fn.classes.lists) l.fn.pairs

abbrev pub decreases-loop-pair : goal.decreases-loop-pair
decreases-loop-pair l = length l.rest
