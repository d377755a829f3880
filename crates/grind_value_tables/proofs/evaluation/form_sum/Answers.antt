use Rattle.std.proofs.Common.{rules, FitsSigned, to_z, ◌<◌, length, sym, ◌∙◌}
use Rattle.std.specs.Int.{w128}
use Rattle.std.proofs.lemmas.Int.{to_z-of_z}
use Rattle.grind_linear_forms.specs.declared.form.Part as parts
use Rattle.grind_value_tables.specs.Overflows.{value_of}
use Rattle.grind_value_tables.specs.Evaluations as specs
use Rattle.grind_value_tables.proofs.StepLemmas.{along_step}
use Rattle.grind_value_tables.proofs.evaluation.form_sum.Goals as goal

pub loop-part-preserved : goal.loop-part-preserved
loop-part-preserved c =
    let next_fits : FitsSigned w128 c.in-Some-with_part.next = search rules in
    simp (to_z-of_z w128 c.in-Some-with_part.next next_fits)
    (along_step (λ (part : parts.Part). part.node < length c.args.list.now) (specs.with_part (value_of c.args.list.now))
    (to_z w128 c.loop-part.sum-bits) c.in-Some-with_part.next c.loop-part.rest.now c.in-Some.tail.now c.in-Some.part.now
    (specs.form_sum (value_of c.args.list.now) c.args.form.now) c.in-Some.ensures.cases.0
    (sym c.with_part.ensures ∙ c.in-Some-with_part.is) c.loop-part.invariant)
