use Rattle.std.proofs.Common.{◌≡◌, ◌↔◌, length}
use Rattle.grind_differences.proofs.bounds.are_same_parts.Given as goal

-- what is left says the same as the whole
abbrev pub invariant-loop-part : goal.invariant-loop-part
invariant-loop-part l = (l.these ≡ l.those) ↔ (l.fn.parts ≡ l.fn.others)

abbrev pub decreases-loop-part : goal.decreases-loop-part
decreases-loop-part l = length l.these
