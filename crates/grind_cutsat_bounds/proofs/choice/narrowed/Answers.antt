use Rattle.std.proofs.Common.{rules, ◌≡◌, ◌∷◌, None, Some, FitsSigned, sym, ◌∙◌}
use Rattle.std.proofs.lemmas.Int.{to_z-of_z}
use Rattle.std.specs.Int.{w128}
use Rattle.grind_cutsat_bounds.specs.Evaluations.{value_of, evaluated}
use Rattle.grind_cutsat_bounds.proofs.ChoiceLemmas.{narrowed_none, narrowed_by, bounds_lead}
use Rattle.grind_cutsat_bounds.proofs.choice.narrowed.Goals as goal

pub returns-in_default-evaluated-clause-none : goal.returns-in_default-evaluated-clause-none
returns-in_default-evaluated-clause-none c = λ _.
    let is : c.in-AtMost.form.parts ≡ c.in-Some.lead.now ∷ c.in-Some.greater.now = sym c.parts.ensures.value ∙ c.in-Some.ensures.cases.0 in
    let same : c.in-Some.lead.now.node ≡ c.args.x = search rules in
    let none : evaluated (value_of c.args.values.now) c.in-AtMost.form.constant c.in-Some.greater.now ≡ None = search rules in
    narrowed_none (value_of c.args.values.now) c.args.x c.args.claim.now c.in-AtMost.form c.in-Some.lead.now c.in-Some.greater.now
    c.in-AtMost.is is same none

pub returns-clause-some : goal.returns-clause-some
returns-clause-some c =
    let is : c.in-AtMost.form.parts ≡ c.in-Some.lead.now ∷ c.in-Some.greater.now = sym c.parts.ensures.value ∙ c.in-Some.ensures.cases.0 in
    let same : c.in-Some.lead.now.node ≡ c.args.x = search rules in
    let some : evaluated (value_of c.args.values.now) c.in-AtMost.form.constant c.in-Some.greater.now ≡ Some c.in-Some-evaluated.rest = search rules in
    let fits : FitsSigned w128 c.in-Some-evaluated.rest = search rules in
    let lead_fits : FitsSigned w128 c.in-Some.lead.now.coefficient = search rules in
    let back = to_z-of_z w128 c.in-Some-evaluated.rest fits in
    let lead_back = to_z-of_z w128 c.in-Some.lead.now.coefficient lead_fits in
    let within = simp (back, lead_back) at c.with_bound.ensures.within in
    let under = simp (back, lead_back) at c.with_bound.ensures.under in
    narrowed_by (value_of c.args.values.now) c.args.x c.args.limits.now c.with_bound.result c.args.claim.now
    (record { coefficient = c.in-Some.lead.now.coefficient; greater = c.in-Some.greater.now; constant = c.in-AtMost.form.constant })
    c.in-Some-evaluated.rest
    (c.in-AtMost.is ∙ bounds_lead c.in-AtMost.form c.in-Some.lead.now c.in-Some.greater.now c.args.x is same) some within under
