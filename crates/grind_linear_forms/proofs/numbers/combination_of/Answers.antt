use Rattle.std.proofs.Common.{FitsSigned, rules, sym, ◌∙◌}
use Rattle.std.proofs.lemmas.Int.{to_z-of_z}
use Rattle.std.specs.Int.{w128}
use Rattle.grind_linear_forms.proofs.Fits.{combination_from, combination_left, combination_right}
use Rattle.grind_linear_forms.proofs.numbers.combination_of.Goals as goal

pub returns-in_default : goal.returns-in_default
returns-in_default c =
    let left = simp (to_z-of_z w128 c.args.m c.ranges.m, to_z-of_z w128 c.args.x c.ranges.x) at c.multiple_of.ensures in
    sym (combination_left c.args.m c.args.x c.args.k c.args.y (sym left ∙ c.in_default.is))

pub returns-in_default-multiple_of : goal.returns-in_default-multiple_of
returns-in_default-multiple_of c =
    let left = simp (to_z-of_z w128 c.args.m c.ranges.m, to_z-of_z w128 c.args.x c.ranges.x) at c.multiple_of.ensures in
    let right = simp (to_z-of_z w128 c.args.k c.ranges.k, to_z-of_z w128 c.args.y c.ranges.y) at c.multiple_of-2.ensures in
    sym (combination_right c.args.m c.args.x c.args.k c.args.y c.in-Some.left (sym left ∙ c.in-Some.is) (sym right ∙ c.in_default-multiple_of.is))

pub returns : goal.returns
returns c =
    let left = simp (to_z-of_z w128 c.args.m c.ranges.m, to_z-of_z w128 c.args.x c.ranges.x) at c.multiple_of.ensures in
    let right = simp (to_z-of_z w128 c.args.k c.ranges.k, to_z-of_z w128 c.args.y c.ranges.y) at c.multiple_of-2.ensures in
    let left_fits : FitsSigned w128 c.in-Some.left = search rules in
    let right_fits : FitsSigned w128 c.in-Some-multiple_of.right = search rules in
    combination_from c.checked_add.result c.args.m c.args.x c.args.k c.args.y c.in-Some.left c.in-Some-multiple_of.right
    (sym left ∙ c.in-Some.is) (sym right ∙ c.in-Some-multiple_of.is)
    (simp (to_z-of_z w128 c.in-Some.left left_fits, to_z-of_z w128 c.in-Some-multiple_of.right right_fits) at c.checked_add.ensures)
