use Rattle.std.specs.Prelude.{length, ◌↔◌}
use Rattle.grind_linear_forms.specs.Cuts.{DividesAll}
use Rattle.grind_linear_forms.proofs.cutting.divides_parts.Given as goal

abbrev pub invariant-loop-part : goal.invariant-loop-part
invariant-loop-part l = DividesAll l.g l.rest ↔ DividesAll l.fn.g l.fn.parts

abbrev pub decreases-loop-part : goal.decreases-loop-part
decreases-loop-part l = length l.rest
