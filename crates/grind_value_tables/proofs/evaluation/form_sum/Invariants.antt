use Rattle.std.specs.Prelude.{◌≡◌, ◌<◌, All, length}
use Rattle.grind_linear_forms.specs.declared.form.Part as parts
use Rattle.grind_value_tables.specs.Overflows.{value_of}
use Rattle.grind_value_tables.specs.Evaluations as specs
use Rattle.grind_value_tables.proofs.evaluation.form_sum.Given as goal

abbrev pub invariant-loop-part : goal.invariant-loop-part
invariant-loop-part l =
    All (λ (part : parts.Part). part.node < length l.list) l.rest
    × (specs.along (specs.with_part (value_of l.list)) l.sum l.rest ≡ specs.form_sum (value_of l.list) l.fn.form)

abbrev pub decreases-loop-part : goal.decreases-loop-part
decreases-loop-part l = length l.rest
