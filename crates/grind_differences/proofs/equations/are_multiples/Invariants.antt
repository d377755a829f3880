use Rattle.std.proofs.Common.{◌≡◌, ◌↔◌, length}
use Rattle.grind_differences.specs.Equations.{multiple_poly}
use Rattle.grind_differences.proofs.equations.are_multiples.Given as goal

-- what is left says the same as the whole
abbrev pub invariant-loop-term : goal.invariant-loop-term
invariant-loop-term l = (l.k ≡ l.fn.k) × ((l.these ≡ multiple_poly l.fn.k l.those) ↔ (l.fn.terms ≡ multiple_poly l.fn.k l.fn.others))

abbrev pub decreases-loop-term : goal.decreases-loop-term
decreases-loop-term l = length l.these
