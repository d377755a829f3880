use Rattle.std.specs.Prelude.{◌≡◌, ◌++◌, length}
use Rattle.grind_congruence.proofs.application.copied.Given as goal

abbrev pub invariant-loop-it : goal.invariant-loop-it
invariant-loop-it l = l.copies ++ l.rest ≡ l.fn.applications

abbrev pub decreases-loop-it : goal.decreases-loop-it
decreases-loop-it l = length l.rest
