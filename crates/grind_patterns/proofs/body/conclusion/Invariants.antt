use Rattle.std.proofs.Common.{◌≡◌, length}
use Rattle.grind_patterns.specs.Patterns.{conclusion_of, hypotheses_of}
use Rattle.grind_patterns.proofs.body.conclusion.Given as goal

abbrev pub invariant-loop-behind : goal.invariant-loop-behind
invariant-loop-behind l = conclusion_of l.fn.body ≡ conclusion_of l.rest

abbrev pub decreases-loop-behind : goal.decreases-loop-behind
decreases-loop-behind l = length (hypotheses_of l.rest)
