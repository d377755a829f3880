use Rattle.std.proofs.Common.{◌≡◌, ◌↔◌, length, map}
use Rattle.grind_differences.specs.Bounds.{negated_part}
use Rattle.grind_differences.proofs.bounds.are_negated.Given as goal

-- what is left says the same as the whole
abbrev pub invariant-loop-part : goal.invariant-loop-part
invariant-loop-part l = (l.those ≡ map negated_part l.these) ↔ (l.fn.others ≡ map negated_part l.fn.parts)

abbrev pub decreases-loop-part : goal.decreases-loop-part
decreases-loop-part l = length l.these
