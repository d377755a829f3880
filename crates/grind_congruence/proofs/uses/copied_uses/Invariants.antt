use Rattle.std.specs.Prelude.{◌≡◌, ◌++◌, length}
use Rattle.grind_congruence.proofs.uses.copied_uses.Given as goal

abbrev pub invariant-loop-places : goal.invariant-loop-places
invariant-loop-places l = l.copies ++ l.rest ≡ l.fn.uses

abbrev pub decreases-loop-places : goal.decreases-loop-places
decreases-loop-places l = length l.rest
