use Rattle.std.proofs.Common.{rules, FitsSigned, sym, ◌∙◌}
use Rattle.std.specs.Int.{w128}
use Rattle.std.proofs.lemmas.Int.{to_z-of_z}
use Rattle.grind_linear_forms.specs.Values.{form_value}
use Rattle.grind_value_tables.specs.Overflows.{value_of}
use Rattle.grind_value_tables.proofs.StepLemmas.{form_sum_is, at_most_by}
use Rattle.grind_value_tables.proofs.claims.is_at_most.Goals as goal

pub returns-in-Some-clause-exact : goal.returns-in-Some-clause-exact
returns-in-Some-clause-exact c =
    let fits : FitsSigned w128 c.in-Some.sum = search rules in
    simp (to_z-of_z w128 c.in-Some.sum fits)
    (at_most_by c.in-Some.sum (form_value (value_of c.args.list.now) c.args.form.now)
    (form_sum_is (value_of c.args.list.now) c.args.form.now c.in-Some.sum (sym c.form_sum.ensures ∙ c.in-Some.is)))
