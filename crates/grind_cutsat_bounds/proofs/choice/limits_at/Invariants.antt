use Rattle.std.specs.Prelude.{length}
use Rattle.grind_cutsat_bounds.specs.Evaluations.{value_of}
use Rattle.grind_cutsat_bounds.specs.Limits.{AreLimits}
use Rattle.grind_cutsat_bounds.proofs.choice.limits_at.Given as goal

abbrev pub invariant-loop-fact : goal.invariant-loop-fact
invariant-loop-fact l = AreLimits (value_of l.values) l.fn.facts l.rest l.x l.limits

abbrev pub decreases-loop-fact : goal.decreases-loop-fact
decreases-loop-fact l = length l.rest
