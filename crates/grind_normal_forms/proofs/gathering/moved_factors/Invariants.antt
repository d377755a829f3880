use Rattle.std.specs.Prelude.{◌≡◌, true, length}
use Rattle.grind_normal_forms.specs.Gathering.{move_with, factors_moved, behind_all}
use Rattle.grind_normal_forms.proofs.gathering.moved_factors.Given as goal

abbrev pub invariant-loop-b : goal.invariant-loop-b
invariant-loop-b l =
    behind_all l.all (factors_moved (move_with l.fn.moving) l.free l.elements l.rest)
    ≡ factors_moved (move_with l.fn.moving) true l.fn.basis l.fn.list

abbrev pub decreases-loop-b : goal.decreases-loop-b
decreases-loop-b l = length l.elements
