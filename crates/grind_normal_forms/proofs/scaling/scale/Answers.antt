use Rattle.std.proofs.Common.{FitsSigned, rules, sym}
use Rattle.std.proofs.lemmas.List.{append-nil}
use Rattle.std.specs.Int.{w128}
use Rattle.std.proofs.lemmas.Int.{to_z-of_z}
use Rattle.grind_polynomials.specs.declared.poly.PolyRefusal.TheVariants.{Overflow}
use Rattle.grind_normal_forms.specs.Reduction.{scaled}
use Rattle.grind_normal_forms.proofs.ReductionLemmas.{scale_fails, scale_step, scale_end}
use Rattle.grind_normal_forms.proofs.scaling.scale.Goals as goal

pub returns-in_default-product_of-clause-overflow : goal.returns-in_default-product_of-clause-overflow
returns-in_default-product_of-clause-overflow c =
    let back = to_z-of_z w128 c.args.number c.ranges.number in
    let fits : FitsSigned w128 c.in-Some.term.now.coefficient = search rules in
    let so_far = simp back at c.loop-term.invariant in
    let over = simp (back, to_z-of_z w128 c.in-Some.term.now.coefficient fits) at c.in_default-product_of.ensures in
    λ e. scale_fails c.args.number (scaled c.args.number c.args.terms.now) c.loop-term.all c.loop-term.rest.now c.in-Some.term.now c.in-Some.tail.now
    c.in-Some.ensures.cases.0 so_far Overflow over

pub loop-term-preserved : goal.loop-term-preserved
loop-term-preserved c =
    let back = to_z-of_z w128 c.args.number c.ranges.number in
    let fits : FitsSigned w128 c.in-Some.term.now.coefficient = search rules in
    let made_fits : FitsSigned w128 c.in-Some-product_of.coefficient = search rules in
    let so_far = simp back at c.loop-term.invariant in
    let made = simp (back, to_z-of_z w128 c.in-Some.term.now.coefficient fits) at c.in-Some-product_of.ensures in
    let term = simp (to_z-of_z w128 c.in-Some-product_of.coefficient made_fits) at c.in_ok-with_coefficient.ensures.ok in
    simp back
    (scale_step c.args.number (scaled c.args.number c.args.terms.now) c.loop-term.all c.loop-term.rest.now c.in-Some.term.now c.in-Some.tail.now
    c.in-Some.ensures.cases.0 so_far c.in-Some-product_of.coefficient c.push.new.self made
    (rw (sym term) c.in_ok-push.ensures.ok))

pub returns-clause-ok : goal.returns-clause-ok
returns-clause-ok c =
    let so_far = simp (to_z-of_z w128 c.args.number c.ranges.number) at c.loop-term.invariant in
    scale_end c.args.number (scaled c.args.number c.args.terms.now) c.loop-term.all c.loop-term.rest.now c.in_default.ensures.cases so_far
    (append-nil c.loop-term.all)
