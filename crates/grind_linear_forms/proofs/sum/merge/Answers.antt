use Rattle.std.proofs.Common.{◌≡◌, ◌<◌, ◌≤◌, ◌∷◌, FitsSigned, List, None, IsErrOf, rules, sym, ap, ◌∙◌, subst}
use Rattle.std.specs.Int.{w128}
use Rattle.std.proofs.lemmas.Int.{to_z-of_z}
use Rattle.grind_linear_forms.specs.declared.form.Part.{Part}
use Rattle.grind_linear_forms.specs.declared.form.FormRefusal.TheVariants.{Overflow}
use Rattle.grind_linear_forms.specs.Sums.{multiple, combination, merged, behind}
use Rattle.grind_linear_forms.proofs.Merging.{merge_step, merge_fails, merge_end, merge_rest, merged-less, merged-more, merged-same, behind-nil, on_ok}
use Rattle.grind_linear_forms.proofs.sum.merge.Goals as goal

pub loop-x-init : goal.loop-x-init
loop-x-init c =
    let back_m = to_z-of_z w128 c.args.m c.ranges.m in
    let back_k = to_z-of_z w128 c.args.k c.ranges.k in
    simp (back_m, back_k)
    (ap (λ (done : List Part). behind done (merged c.args.m c.args.left.now c.args.k c.args.right.now)) c.new-done.ensures ∙ behind-nil (merged c.args.m c.args.left.now c.args.k c.args.right.now))

pub returns-in_default-split_first-clause-ok : goal.returns-in_default-split_first-clause-ok
returns-in_default-split_first-clause-ok c =
    let back_m = to_z-of_z w128 c.args.m c.ranges.m in
    let back_k = to_z-of_z w128 c.args.k c.ranges.k in
    let so_far = simp (back_m, back_k) at c.loop-x.invariant in
    let told = simp back_m at c.multiply.ensures.ok in
    on_ok c.multiply.result _ _
    (λ all e. sym so_far ∙ merge_rest c.args.m c.args.k c.loop-x.done c.loop-x.rest.now c.loop-x.others.now c.in_default-split_first.ensures.cases ∙ e) told

pub returns-in_default-split_first-clause-overflow : goal.returns-in_default-split_first-clause-overflow
returns-in_default-split_first-clause-overflow c =
    let back_m = to_z-of_z w128 c.args.m c.ranges.m in
    let back_k = to_z-of_z w128 c.args.k c.ranges.k in
    let so_far = simp (back_m, back_k) at c.loop-x.invariant in
    let told = simp back_m at c.multiply.ensures.overflow in
    λ e. sym so_far ∙ merge_rest c.args.m c.args.k c.loop-x.done c.loop-x.rest.now c.loop-x.others.now c.in_default-split_first.ensures.cases ∙ told e

pub returns-in_err-append-clause-overflow : goal.returns-in_err-append-clause-overflow
returns-in_err-append-clause-overflow c =
    let back_m = to_z-of_z w128 c.args.m c.ranges.m in
    let back_k = to_z-of_z w128 c.args.k c.ranges.k in
    let so_far = simp (back_m, back_k) at c.loop-x.invariant in
    let fits_x : FitsSigned w128 c.in-Some.x.now.coefficient = search rules in
    let made = simp (back_m, to_z-of_z w128 c.in-Some.x.now.coefficient fits_x) at c.multiple_of.ensures in
    let less : c.in-Some.x.now.node < c.in-Some-split_first.y.now.node = search rules in
    let leads : IsErrOf c.append.result Overflow → merged c.args.m c.args.left.now c.args.k c.args.right.now ≡ None = λ e.
    merge_fails c.args.m c.args.k (merged c.args.m c.args.left.now c.args.k c.args.right.now) c.loop-x.done c.loop-x.rest.now c.loop-x.others.now c.in-Some.x.now c.in-Some-split_first.y.now c.in-Some.xs.now c.in-Some-split_first.ys.now
    c.in-Some.ensures.cases.0 c.in-Some-split_first.ensures.cases.0 so_far c.in-Some.x.now.node (multiple c.args.m c.in-Some.x.now.coefficient) c.in-Some.xs.now (c.in-Some-split_first.y.now ∷ c.in-Some-split_first.ys.now) (merged-less c.args.m c.args.k c.in-Some.x.now c.in-Some-split_first.y.now c.in-Some.xs.now c.in-Some-split_first.ys.now less) c.multiple_of.result made (c.append.ensures.overflow e) in search rules

pub loop-x-preserved-then-lt : goal.loop-x-preserved-then-lt
loop-x-preserved-then-lt c =
    let back_m = to_z-of_z w128 c.args.m c.ranges.m in
    let back_k = to_z-of_z w128 c.args.k c.ranges.k in
    let so_far = simp (back_m, back_k) at c.loop-x.invariant in
    let fits_x : FitsSigned w128 c.in-Some.x.now.coefficient = search rules in
    let made = simp (back_m, to_z-of_z w128 c.in-Some.x.now.coefficient fits_x) at c.multiple_of.ensures in
    let less : c.in-Some.x.now.node < c.in-Some-split_first.y.now.node = search rules in
    let made_step = merge_step c.args.m c.args.k (merged c.args.m c.args.left.now c.args.k c.args.right.now) c.loop-x.done c.loop-x.rest.now c.loop-x.others.now c.in-Some.x.now c.in-Some-split_first.y.now c.in-Some.xs.now c.in-Some-split_first.ys.now
    c.in-Some.ensures.cases.0 c.in-Some-split_first.ensures.cases.0 so_far c.in-Some.x.now.node (multiple c.args.m c.in-Some.x.now.coefficient) c.in-Some.xs.now (c.in-Some-split_first.y.now ∷ c.in-Some-split_first.ys.now) (merged-less c.args.m c.args.k c.in-Some.x.now c.in-Some-split_first.y.now c.in-Some.xs.now c.in-Some-split_first.ys.now less) c.append.new.done c.multiple_of.result made c.in_ok-append.ensures.ok in
    simp (back_m, back_k) (subst (λ (others : List Part). behind c.append.new.done (merged c.args.m c.in-Some.xs.now c.args.k others) ≡ merged c.args.m c.args.left.now c.args.k c.args.right.now) (sym c.in-Some-split_first.ensures.cases.0) made_step)

pub returns-in_err-append-2-clause-overflow : goal.returns-in_err-append-2-clause-overflow
returns-in_err-append-2-clause-overflow c =
    let back_m = to_z-of_z w128 c.args.m c.ranges.m in
    let back_k = to_z-of_z w128 c.args.k c.ranges.k in
    let so_far = simp (back_m, back_k) at c.loop-x.invariant in
    let fits_y : FitsSigned w128 c.in-Some-split_first.y.now.coefficient = search rules in
    let made = simp (back_k, to_z-of_z w128 c.in-Some-split_first.y.now.coefficient fits_y) at c.multiple_of-then-lt-2.ensures in
    let more : c.in-Some-split_first.y.now.node < c.in-Some.x.now.node = search rules in
    let leads : IsErrOf c.append-then-lt-2.result Overflow → merged c.args.m c.args.left.now c.args.k c.args.right.now ≡ None = λ e.
    merge_fails c.args.m c.args.k (merged c.args.m c.args.left.now c.args.k c.args.right.now) c.loop-x.done c.loop-x.rest.now c.loop-x.others.now c.in-Some.x.now c.in-Some-split_first.y.now c.in-Some.xs.now c.in-Some-split_first.ys.now
    c.in-Some.ensures.cases.0 c.in-Some-split_first.ensures.cases.0 so_far c.in-Some-split_first.y.now.node (multiple c.args.k c.in-Some-split_first.y.now.coefficient) (c.in-Some.x.now ∷ c.in-Some.xs.now) c.in-Some-split_first.ys.now (merged-more c.args.m c.args.k c.in-Some.x.now c.in-Some-split_first.y.now c.in-Some.xs.now c.in-Some-split_first.ys.now more) c.multiple_of-then-lt-2.result made (c.append-then-lt-2.ensures.overflow e) in search rules

pub loop-x-preserved-then-lt-2 : goal.loop-x-preserved-then-lt-2
loop-x-preserved-then-lt-2 c =
    let back_m = to_z-of_z w128 c.args.m c.ranges.m in
    let back_k = to_z-of_z w128 c.args.k c.ranges.k in
    let so_far = simp (back_m, back_k) at c.loop-x.invariant in
    let fits_y : FitsSigned w128 c.in-Some-split_first.y.now.coefficient = search rules in
    let made = simp (back_k, to_z-of_z w128 c.in-Some-split_first.y.now.coefficient fits_y) at c.multiple_of-then-lt-2.ensures in
    let more : c.in-Some-split_first.y.now.node < c.in-Some.x.now.node = search rules in
    let made_step = merge_step c.args.m c.args.k (merged c.args.m c.args.left.now c.args.k c.args.right.now) c.loop-x.done c.loop-x.rest.now c.loop-x.others.now c.in-Some.x.now c.in-Some-split_first.y.now c.in-Some.xs.now c.in-Some-split_first.ys.now
    c.in-Some.ensures.cases.0 c.in-Some-split_first.ensures.cases.0 so_far c.in-Some-split_first.y.now.node (multiple c.args.k c.in-Some-split_first.y.now.coefficient) (c.in-Some.x.now ∷ c.in-Some.xs.now) c.in-Some-split_first.ys.now (merged-more c.args.m c.args.k c.in-Some.x.now c.in-Some-split_first.y.now c.in-Some.xs.now c.in-Some-split_first.ys.now more) c.append-then-lt-2.new.done c.multiple_of-then-lt-2.result made c.in_ok-append-2.ensures.ok in
    simp (back_m, back_k) (subst (λ (rest : List Part). behind c.append-then-lt-2.new.done (merged c.args.m rest c.args.k c.in-Some-split_first.ys.now) ≡ merged c.args.m c.args.left.now c.args.k c.args.right.now) (sym c.in-Some.ensures.cases.0) made_step)

pub returns-in_err-append-3-clause-overflow : goal.returns-in_err-append-3-clause-overflow
returns-in_err-append-3-clause-overflow c =
    let back_m = to_z-of_z w128 c.args.m c.ranges.m in
    let back_k = to_z-of_z w128 c.args.k c.ranges.k in
    let so_far = simp (back_m, back_k) at c.loop-x.invariant in
    let fits_x : FitsSigned w128 c.in-Some.x.now.coefficient = search rules in
    let fits_y : FitsSigned w128 c.in-Some-split_first.y.now.coefficient = search rules in
    let made = simp (back_m, back_k, to_z-of_z w128 c.in-Some.x.now.coefficient fits_x, to_z-of_z w128 c.in-Some-split_first.y.now.coefficient fits_y) at c.combination_of.ensures in
    let below : c.in-Some.x.now.node ≤ c.in-Some-split_first.y.now.node = search rules in
    let above : c.in-Some-split_first.y.now.node ≤ c.in-Some.x.now.node = search rules in
    let leads : IsErrOf c.append-else-lt-2.result Overflow → merged c.args.m c.args.left.now c.args.k c.args.right.now ≡ None = λ e.
    merge_fails c.args.m c.args.k (merged c.args.m c.args.left.now c.args.k c.args.right.now) c.loop-x.done c.loop-x.rest.now c.loop-x.others.now c.in-Some.x.now c.in-Some-split_first.y.now c.in-Some.xs.now c.in-Some-split_first.ys.now
    c.in-Some.ensures.cases.0 c.in-Some-split_first.ensures.cases.0 so_far c.in-Some.x.now.node (combination c.args.m c.in-Some.x.now.coefficient c.args.k c.in-Some-split_first.y.now.coefficient) c.in-Some.xs.now c.in-Some-split_first.ys.now (merged-same c.args.m c.args.k c.in-Some.x.now c.in-Some-split_first.y.now c.in-Some.xs.now c.in-Some-split_first.ys.now below above) c.combination_of.result made (c.append-else-lt-2.ensures.overflow e) in search rules

pub loop-x-preserved : goal.loop-x-preserved
loop-x-preserved c =
    let back_m = to_z-of_z w128 c.args.m c.ranges.m in
    let back_k = to_z-of_z w128 c.args.k c.ranges.k in
    let so_far = simp (back_m, back_k) at c.loop-x.invariant in
    let fits_x : FitsSigned w128 c.in-Some.x.now.coefficient = search rules in
    let fits_y : FitsSigned w128 c.in-Some-split_first.y.now.coefficient = search rules in
    let made = simp (back_m, back_k, to_z-of_z w128 c.in-Some.x.now.coefficient fits_x, to_z-of_z w128 c.in-Some-split_first.y.now.coefficient fits_y) at c.combination_of.ensures in
    let below : c.in-Some.x.now.node ≤ c.in-Some-split_first.y.now.node = search rules in
    let above : c.in-Some-split_first.y.now.node ≤ c.in-Some.x.now.node = search rules in
    simp (back_m, back_k) (merge_step c.args.m c.args.k (merged c.args.m c.args.left.now c.args.k c.args.right.now) c.loop-x.done c.loop-x.rest.now c.loop-x.others.now c.in-Some.x.now c.in-Some-split_first.y.now c.in-Some.xs.now c.in-Some-split_first.ys.now
    c.in-Some.ensures.cases.0 c.in-Some-split_first.ensures.cases.0 so_far c.in-Some.x.now.node (combination c.args.m c.in-Some.x.now.coefficient c.args.k c.in-Some-split_first.y.now.coefficient) c.in-Some.xs.now c.in-Some-split_first.ys.now (merged-same c.args.m c.args.k c.in-Some.x.now c.in-Some-split_first.y.now c.in-Some.xs.now c.in-Some-split_first.ys.now below above) c.append-else-lt-2.new.done c.combination_of.result made c.in_ok-append-3.ensures.ok)

pub returns-clause-ok : goal.returns-clause-ok
returns-clause-ok c =
    let back_m = to_z-of_z w128 c.args.m c.ranges.m in
    let back_k = to_z-of_z w128 c.args.k c.ranges.k in
    let so_far = simp (back_m, back_k) at c.loop-x.invariant in
    let told = simp back_k at c.multiply-2.ensures.ok in
    on_ok c.multiply-2.result _ _
    (λ all e. sym so_far ∙ merge_end c.args.m c.args.k c.loop-x.done c.loop-x.rest.now c.loop-x.others.now c.in_default.ensures.cases ∙ e) told

pub returns-clause-overflow : goal.returns-clause-overflow
returns-clause-overflow c =
    let back_m = to_z-of_z w128 c.args.m c.ranges.m in
    let back_k = to_z-of_z w128 c.args.k c.ranges.k in
    let so_far = simp (back_m, back_k) at c.loop-x.invariant in
    let told = simp back_k at c.multiply-2.ensures.overflow in
    λ e. sym so_far ∙ merge_end c.args.m c.args.k c.loop-x.done c.loop-x.rest.now c.loop-x.others.now c.in_default.ensures.cases ∙ told e
