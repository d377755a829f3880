use Rattle.std.specs.Prelude.{◌≡◌, ◌++◌, length}
use Rattle.grind_classes.proofs.lists.copied.Given as goal

abbrev pub invariant-loop-list : goal.invariant-loop-list
invariant-loop-list l = l.copies ++ l.rest ≡ l.fn.lists

abbrev pub decreases-loop-list : goal.decreases-loop-list
decreases-loop-list l = length l.rest
