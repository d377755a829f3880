use Rattle.std.proofs.Common.{◌≡◌, FitsSigned, None, IsErrOf, List, rules, sym, ap, ◌∙◌}
use Rattle.std.specs.Int.{w128}
use Rattle.std.proofs.lemmas.Int.{to_z-of_z}
use Rattle.grind_linear_forms.specs.declared.form.Part.{Part}
use Rattle.grind_linear_forms.specs.declared.form.FormRefusal.TheVariants.{Overflow}
use Rattle.grind_linear_forms.specs.Sums.{multiple, multiplied, behind, scaled_form}
use Rattle.grind_linear_forms.proofs.Merging.{both-none, both-made, behind-nil}
use Rattle.grind_linear_forms.proofs.Rising.{rises-multiplied}
use Rattle.grind_linear_forms.proofs.sum.scale.Goals as goal

pub returns-in_err-parts-clause-overflow : goal.returns-in_err-parts-clause-overflow
returns-in_err-parts-clause-overflow c =
    let back = to_z-of_z w128 c.args.m c.ranges.m in
    let told = simp back at c.multiply.ensures.overflow in
    let leads : IsErrOf c.multiply.result Overflow → scaled_form c.args.m c.args.a.now ≡ None = λ e.
    both-none (multiplied c.args.m c.args.a.now.parts) (multiple c.args.m c.args.a.now.constant)
    (ap (multiplied c.args.m) (sym c.parts.ensures.value) ∙ sym (behind-nil (multiplied c.args.m c.parts.result.now))
    ∙ ap (λ (done : List Part). behind done (multiplied c.args.m c.parts.result.now)) (sym c.new.ensures) ∙ told e) in
    search rules

pub invariant_of-result : goal.invariant_of-result
invariant_of-result c =
    let back = to_z-of_z w128 c.args.m c.ranges.m in
    let told = simp back at c.in_ok-parts.ensures.ok in
    let made = sym (behind-nil (multiplied c.args.m c.parts.result.now))
    ∙ ap (λ (done : List Part). behind done (multiplied c.args.m c.parts.result.now)) (sym c.new.ensures) ∙ told in
    rises-multiplied c.args.m c.args.a.now.parts 0 c.in_ok-parts.parts c.parts.ensures.keeps
    (ap (multiplied c.args.m) (sym c.parts.ensures.value) ∙ made)

pub returns-clause-ok : goal.returns-clause-ok
returns-clause-ok c =
    let back = to_z-of_z w128 c.args.m c.ranges.m in
    let told = simp back at c.in_ok-parts.ensures.ok in
    let made = sym (behind-nil (multiplied c.args.m c.parts.result.now))
    ∙ ap (λ (done : List Part). behind done (multiplied c.args.m c.parts.result.now)) (sym c.new.ensures) ∙ told in
    let fits : FitsSigned w128 c.in-Some.constant = search rules in
    let given_fits : FitsSigned w128 c.constant.result = search rules in
    let constant = simp (back, to_z-of_z w128 c.constant.result given_fits) at c.multiple_of.ensures in
    simp (to_z-of_z w128 c.in-Some.constant fits)
    (both-made (multiplied c.args.m c.args.a.now.parts) (multiple c.args.m c.args.a.now.constant) c.in_ok-parts.parts c.in-Some.constant
    (ap (multiplied c.args.m) (sym c.parts.ensures.value) ∙ made)
    (ap (multiple c.args.m) (sym c.constant.ensures) ∙ sym constant ∙ c.in-Some.is))
