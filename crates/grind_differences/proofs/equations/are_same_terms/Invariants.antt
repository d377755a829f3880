use Rattle.std.proofs.Common.{◌≡◌, ◌↔◌, length}
use Rattle.grind_differences.proofs.equations.are_same_terms.Given as goal

-- what is left says the same as the whole
abbrev pub invariant-loop-term : goal.invariant-loop-term
invariant-loop-term l = (l.these ≡ l.those) ↔ (l.fn.terms ≡ l.fn.others)

abbrev pub decreases-loop-term : goal.decreases-loop-term
decreases-loop-term l = length l.these
