use Rattle.std.proofs.Common.{◌≡◌, FitsSigned, None, IsErrOf, rules, sym, ◌∙◌}
use Rattle.std.specs.Int.{w128}
use Rattle.std.proofs.lemmas.Int.{to_z-of_z}
use Rattle.grind_linear_forms.specs.declared.form.FormRefusal.TheVariants.{Overflow}
use Rattle.grind_linear_forms.specs.Sums.{multiplied, behind}
use Rattle.grind_linear_forms.proofs.Merging.{multiply_step, multiply_fails, multiply_end}
use Rattle.grind_linear_forms.proofs.sum.multiply.Goals as goal

pub returns-in_err-append-clause-overflow : goal.returns-in_err-append-clause-overflow
returns-in_err-append-clause-overflow c =
    let back = to_z-of_z w128 c.args.m c.ranges.m in
    let fits : FitsSigned w128 c.in-Some.x.now.coefficient = search rules in
    let made = simp (back, to_z-of_z w128 c.in-Some.x.now.coefficient fits) at c.multiple_of.ensures in
    let so_far = simp back at c.loop-x.invariant in
    let leads : IsErrOf c.append.result Overflow → behind c.args.done (multiplied c.args.m c.args.parts.now) ≡ None = λ e.
    multiply_fails c.args.m (behind c.args.done (multiplied c.args.m c.args.parts.now)) c.loop-x.all c.loop-x.rest.now c.in-Some.x.now
    c.in-Some.tail.now c.in-Some.ensures.cases.0 so_far c.multiple_of.result made (c.append.ensures.overflow e) in search rules

pub loop-x-preserved : goal.loop-x-preserved
loop-x-preserved c =
    let back = to_z-of_z w128 c.args.m c.ranges.m in
    let fits : FitsSigned w128 c.in-Some.x.now.coefficient = search rules in
    let made = simp (back, to_z-of_z w128 c.in-Some.x.now.coefficient fits) at c.multiple_of.ensures in
    let so_far = simp back at c.loop-x.invariant in
    simp back
    (multiply_step c.args.m (behind c.args.done (multiplied c.args.m c.args.parts.now)) c.loop-x.all c.loop-x.rest.now c.in-Some.x.now
    c.in-Some.tail.now c.in-Some.ensures.cases.0 so_far c.append.new.done c.multiple_of.result made c.in_ok-append.ensures.ok)

pub returns-clause-ok : goal.returns-clause-ok
returns-clause-ok c =
    let back = to_z-of_z w128 c.args.m c.ranges.m in
    let so_far = simp back at c.loop-x.invariant in
    sym so_far ∙ multiply_end c.args.m c.loop-x.all c.loop-x.rest.now c.in_default.ensures.cases
