use Rattle.std.specs.Prelude.{◌≡◌, ◌++◌, length}
use Rattle.grind_classes.proofs.trail.copied.Given as goal

abbrev pub invariant-loop-change : goal.invariant-loop-change
invariant-loop-change l = l.copy ++ l.rest ≡ l.fn.trail

abbrev pub decreases-loop-change : goal.decreases-loop-change
decreases-loop-change l = length l.rest
