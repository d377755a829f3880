use Rattle.std.specs.Prelude.{◌≡◌, ◌++◌, length}
use Rattle.grind_congruence.proofs.keys.Keys.copy.Given as goal

abbrev pub invariant-loop-key : goal.invariant-loop-key
invariant-loop-key l = l.keys ++ l.rest ≡ l.fn.self

abbrev pub decreases-loop-key : goal.decreases-loop-key
decreases-loop-key l = length l.rest
