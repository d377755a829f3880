use Rattle.std.specs.Prelude.{All, length}
use Rattle.grind_classes.specs.Classes.{IsActive}
use Rattle.grind_closure_rows.proofs.closure_tests.are_active.Given as goal

abbrev pub invariant-loop-n : goal.invariant-loop-n
invariant-loop-n l = All (IsActive l.classes.lists) l.rest → All (IsActive l.fn.classes.lists) l.fn.nodes

abbrev pub decreases-loop-n : goal.decreases-loop-n
decreases-loop-n l = length l.rest
