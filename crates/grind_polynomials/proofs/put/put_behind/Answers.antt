use Rattle.std.proofs.Common.{◌≡◌, ◌+ℤ◌, pos, reverse, Err, FitsSigned, IsErrOf, rules, sym, ◌∙◌}
use Rattle.std.specs.Int.{w128}
use Rattle.std.proofs.lemmas.Int.{to_z-of_z}
use Rattle.grind_monomials.specs.declared.order.Place.TheVariants.{Above, Same, Below}
use Rattle.grind_monomials.specs.Order.{place}
use Rattle.grind_polynomials.specs.declared.poly.PolyRefusal.TheVariants.{Overflow}
use Rattle.grind_polynomials.specs.Rows.{all_of}
use Rattle.grind_polynomials.specs.Sums.{signed, with_more}
use Rattle.grind_polynomials.proofs.Putting.{put_above, put_same, put_below, put_end, closes, closes-not}
use Rattle.grind_polynomials.proofs.Rows.{more-behind, above-push, passed-closed, closed-all}
use Rattle.grind_polynomials.proofs.put.put_behind.Goals as goal

pub loop-x-init : goal.loop-x-init
loop-x-init c =
    let back = to_z-of_z w128 c.args.coefficient c.ranges.coefficient in
    simp back (more-behind (signed c.args.minus c.args.coefficient) c.args.monomial c.args.parts.done (reverse c.args.parts.rest) c.requires, c.requires)

pub loop-x-preserved : goal.loop-x-preserved
loop-x-preserved c =
    let back = to_z-of_z w128 c.args.coefficient c.ranges.coefficient in
    let so_far = simp back at c.loop-x.invariant in
    let placed : place c.in-Some.x.monomial c.args.monomial ≡ Above =
    (λ i. place (sym c.as_slice.ensures.value i) (sym c.as_slice-in-Some.ensures.value i)) ∙ sym c.compare.ensures ∙ c.in-Above.is in
    simp back (
      put_above (signed c.args.minus c.args.coefficient) c.args.monomial (with_more (signed c.args.minus c.args.coefficient) c.args.monomial (all_of c.args.parts)) c.loop-x.done c.loop-x.rest c.pop.new.self c.in-Some.x c.in-Some.ensures so_far.0
          c.push.new.self c.in_ok-push-in-Above.ensures.ok placed,
      above-push c.args.monomial c.loop-x.done c.push.new.self c.in-Some.x c.in_ok-push-in-Above.ensures.ok so_far.1 placed,
    )

pub returns-in_err-all-in-Same-clause-overflow : goal.returns-in_err-all-in-Same-clause-overflow
returns-in_err-all-in-Same-clause-overflow c =
    let back = to_z-of_z w128 c.args.coefficient c.ranges.coefficient in
    let so_far = simp back at c.loop-x.invariant in
    let placed : place c.in-Some.x.monomial c.args.monomial ≡ Same =
    (λ i. place (sym c.as_slice.ensures.value i) (sym c.as_slice-in-Some.ensures.value i)) ∙ sym c.compare.ensures ∙ c.in-Same.is in
    let fits : FitsSigned w128 c.in-Some.x.coefficient = search rules in
    let sum = simp (back, to_z-of_z w128 c.in-Some.x.coefficient fits) at c.sum_of-sum.ensures in
    let opened = put_same (signed c.args.minus c.args.coefficient) c.args.monomial (with_more (signed c.args.minus c.args.coefficient) c.args.monomial (all_of c.args.parts)) c.loop-x.done c.loop-x.rest c.pop.new.self c.in-Some.x c.in-Some.ensures so_far.0 placed in
    let leads : IsErrOf c.closed.result Overflow → with_more (signed c.args.minus c.args.coefficient) c.args.monomial (all_of c.args.parts) ≡ Err Overflow = λ e.
    sym opened ∙ closes-not c.loop-x.done (reverse c.pop.new.self) c.args.monomial c.sum_of-sum.result (c.in-Some.x.coefficient +ℤ signed c.args.minus c.args.coefficient) sum (c.closed.ensures.overflow e) in search rules

pub returns-in-Same-clause-ok : goal.returns-in-Same-clause-ok
returns-in-Same-clause-ok c =
    let back = to_z-of_z w128 c.args.coefficient c.ranges.coefficient in
    let so_far = simp back at c.loop-x.invariant in
    let placed : place c.in-Some.x.monomial c.args.monomial ≡ Same =
    (λ i. place (sym c.as_slice.ensures.value i) (sym c.as_slice-in-Some.ensures.value i)) ∙ sym c.compare.ensures ∙ c.in-Same.is in
    let fits : FitsSigned w128 c.in-Some.x.coefficient = search rules in
    let sum = simp (back, to_z-of_z w128 c.in-Some.x.coefficient fits) at c.sum_of-sum.ensures in
    let opened = put_same (signed c.args.minus c.args.coefficient) c.args.monomial (with_more (signed c.args.minus c.args.coefficient) c.args.monomial (all_of c.args.parts)) c.loop-x.done c.loop-x.rest c.pop.new.self c.in-Some.x c.in-Some.ensures so_far.0 placed in
    sym opened ∙ closes c.loop-x.done (all_of c.in_ok-all-in-Same.all) (reverse c.pop.new.self) c.args.monomial c.sum_of-sum.result (c.in-Some.x.coefficient +ℤ signed c.args.minus c.args.coefficient) sum
    (closed-all c.loop-x.done c.in_ok-all-in-Same.all.done c.pop.new.self c.in_ok-all-in-Same.all.rest c.args.monomial c.sum_of-sum.result c.in_ok-all-in-Same.ensures.done c.in_ok-all-in-Same.ensures.rest)

pub returns-in_err-all-in-Below-clause-overflow : goal.returns-in_err-all-in-Below-clause-overflow
returns-in_err-all-in-Below-clause-overflow c =
    let back = to_z-of_z w128 c.args.coefficient c.ranges.coefficient in
    let so_far = simp back at c.loop-x.invariant in
    let placed : place c.in-Some.x.monomial c.args.monomial ≡ Below =
    (λ i. place (sym c.as_slice.ensures.value i) (sym c.as_slice-in-Some.ensures.value i)) ∙ sym c.compare.ensures ∙ c.in-Below.is in
    let sum = simp back at c.sum_of.ensures in
    let opened = put_below (signed c.args.minus c.args.coefficient) c.args.monomial (with_more (signed c.args.minus c.args.coefficient) c.args.monomial (all_of c.args.parts)) c.loop-x.done c.loop-x.rest c.pop.new.self c.in-Some.x c.in-Some.ensures so_far.0 c.push-in-Below.new.self c.in_ok-push-in-Below.ensures.ok placed in
    let leads : IsErrOf c.closed-in-Below.result Overflow → with_more (signed c.args.minus c.args.coefficient) c.args.monomial (all_of c.args.parts) ≡ Err Overflow = λ e.
    sym opened ∙ closes-not c.loop-x.done (reverse c.push-in-Below.new.self) c.args.monomial c.sum_of.result (pos 0 +ℤ signed c.args.minus c.args.coefficient) sum (c.closed-in-Below.ensures.overflow e) in search rules

pub returns-in-Below-clause-ok : goal.returns-in-Below-clause-ok
returns-in-Below-clause-ok c =
    let back = to_z-of_z w128 c.args.coefficient c.ranges.coefficient in
    let so_far = simp back at c.loop-x.invariant in
    let placed : place c.in-Some.x.monomial c.args.monomial ≡ Below =
    (λ i. place (sym c.as_slice.ensures.value i) (sym c.as_slice-in-Some.ensures.value i)) ∙ sym c.compare.ensures ∙ c.in-Below.is in
    let sum = simp back at c.sum_of.ensures in
    let opened = put_below (signed c.args.minus c.args.coefficient) c.args.monomial (with_more (signed c.args.minus c.args.coefficient) c.args.monomial (all_of c.args.parts)) c.loop-x.done c.loop-x.rest c.pop.new.self c.in-Some.x c.in-Some.ensures so_far.0 c.push-in-Below.new.self c.in_ok-push-in-Below.ensures.ok placed in
    sym opened ∙ closes c.loop-x.done (all_of c.in_ok-all-in-Below.all) (reverse c.push-in-Below.new.self) c.args.monomial c.sum_of.result (pos 0 +ℤ signed c.args.minus c.args.coefficient) sum
    (closed-all c.loop-x.done c.in_ok-all-in-Below.all.done c.push-in-Below.new.self c.in_ok-all-in-Below.all.rest c.args.monomial c.sum_of.result c.in_ok-all-in-Below.ensures.done c.in_ok-all-in-Below.ensures.rest)

pub returns-in_err-all-clause-overflow : goal.returns-in_err-all-clause-overflow
returns-in_err-all-clause-overflow c =
    let back = to_z-of_z w128 c.args.coefficient c.ranges.coefficient in
    let so_far = simp back at c.loop-x.invariant in
    let sum = simp back at c.sum_of-2.ensures in
    let opened = put_end (signed c.args.minus c.args.coefficient) c.args.monomial (with_more (signed c.args.minus c.args.coefficient) c.args.monomial (all_of c.args.parts)) c.loop-x.done c.loop-x.rest c.pop.new.self c.in_default.ensures.0 c.in_default.ensures.1 so_far.0 in
    let leads : IsErrOf c.closed-2.result Overflow → with_more (signed c.args.minus c.args.coefficient) c.args.monomial (all_of c.args.parts) ≡ Err Overflow = λ e.
    sym opened ∙ closes-not c.loop-x.done (reverse c.pop.new.self) c.args.monomial c.sum_of-2.result (pos 0 +ℤ signed c.args.minus c.args.coefficient) sum (c.closed-2.ensures.overflow e) in search rules

pub returns-clause-ok : goal.returns-clause-ok
returns-clause-ok c =
    let back = to_z-of_z w128 c.args.coefficient c.ranges.coefficient in
    let so_far = simp back at c.loop-x.invariant in
    let sum = simp back at c.sum_of-2.ensures in
    let opened = put_end (signed c.args.minus c.args.coefficient) c.args.monomial (with_more (signed c.args.minus c.args.coefficient) c.args.monomial (all_of c.args.parts)) c.loop-x.done c.loop-x.rest c.pop.new.self c.in_default.ensures.0 c.in_default.ensures.1 so_far.0 in
    sym opened ∙ closes c.loop-x.done (all_of c.in_ok-all.all) (reverse c.pop.new.self) c.args.monomial c.sum_of-2.result (pos 0 +ℤ signed c.args.minus c.args.coefficient) sum
    (closed-all c.loop-x.done c.in_ok-all.all.done c.pop.new.self c.in_ok-all.all.rest c.args.monomial c.sum_of-2.result c.in_ok-all.ensures.done c.in_ok-all.ensures.rest)

pub returns-in-Same-clause-passed : goal.returns-in-Same-clause-passed
returns-in-Same-clause-passed c =
    let back = to_z-of_z w128 c.args.coefficient c.ranges.coefficient in
    let so_far = simp back at c.loop-x.invariant in
    passed-closed c.args.monomial c.loop-x.done c.in_ok-all-in-Same.all.done c.sum_of-sum.result so_far.1 c.in_ok-all-in-Same.ensures.done

pub returns-in-Below-clause-passed : goal.returns-in-Below-clause-passed
returns-in-Below-clause-passed c =
    let back = to_z-of_z w128 c.args.coefficient c.ranges.coefficient in
    let so_far = simp back at c.loop-x.invariant in
    passed-closed c.args.monomial c.loop-x.done c.in_ok-all-in-Below.all.done c.sum_of.result so_far.1 c.in_ok-all-in-Below.ensures.done

pub returns-clause-passed : goal.returns-clause-passed
returns-clause-passed c =
    let back = to_z-of_z w128 c.args.coefficient c.ranges.coefficient in
    let so_far = simp back at c.loop-x.invariant in
    passed-closed c.args.monomial c.loop-x.done c.in_ok-all.all.done c.sum_of-2.result so_far.1 c.in_ok-all.ensures.done
