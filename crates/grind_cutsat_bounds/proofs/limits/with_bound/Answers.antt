use Rattle.std.proofs.Common.{pos, ◌≤ℤ◌, ◌<ℤ◌, FitsSigned, rules, arith}
use borrow.Author.Differences.{ints}
use Rattle.std.proofs.lemmas.Int.{to_z-of_z}
use Rattle.std.specs.Int.{w128}
use Rattle.grind_cutsat_bounds.proofs.LimitLemmas.{within_upper, under_upper, within_lower, negative_else}
use Rattle.grind_cutsat_bounds.proofs.limits.with_bound.Goals as goal

pub returns-then-coefficient-gt0-clause-within : goal.returns-then-coefficient-gt0-clause-within
returns-then-coefficient-gt0-clause-within c =
    let back = to_z-of_z w128 c.args.coefficient c.ranges.coefficient in
    let rest_back = to_z-of_z w128 c.args.rest c.ranges.rest in
    let fits : FitsSigned w128 c.ceiling-least.result = search rules in
    let over : pos 0 <ℤ c.args.coefficient = omega (arith, ints) in
    let ceil = simp (back, rest_back) at c.ceiling-least.ensures in
    let grows = simp (to_z-of_z w128 c.ceiling-least.result fits) at c.greater.ensures in
    within_upper c.args.limits.now.low c.args.limits.now.high c.greater.result c.args.coefficient c.args.rest
    c.ceiling-least.result over ceil grows

pub returns-then-coefficient-gt0-clause-under : goal.returns-then-coefficient-gt0-clause-under
returns-then-coefficient-gt0-clause-under c =
    let back = to_z-of_z w128 c.args.coefficient c.ranges.coefficient in
    let rest_back = to_z-of_z w128 c.args.rest c.ranges.rest in
    let fits : FitsSigned w128 c.ceiling-least.result = search rules in
    let over : pos 0 <ℤ c.args.coefficient = omega (arith, ints) in
    let ceil = simp (back, rest_back) at c.ceiling-least.ensures in
    let grows = simp (to_z-of_z w128 c.ceiling-least.result fits) at c.greater.ensures in
    under_upper c.args.limits.now.low c.args.limits.now.high c.greater.result c.args.coefficient c.args.rest
    c.ceiling-least.result over ceil grows

pub returns-clause-within : goal.returns-clause-within
returns-clause-within c =
    let back = to_z-of_z w128 c.args.coefficient c.ranges.coefficient in
    let rest_back = to_z-of_z w128 c.args.rest c.ranges.rest in
    let fits : FitsSigned w128 c.ceiling-least.result = search rules in
    let low : c.args.coefficient ≤ℤ pos 0 = omega (arith, ints) in
    let ceil = simp (back, rest_back) at c.ceiling-least.ensures in
    let grows = simp (to_z-of_z w128 c.ceiling-least.result fits) at c.greater-2.ensures in
    within_lower c.args.limits.now.low c.args.limits.now.high c.greater-2.result c.args.coefficient c.args.rest
    c.ceiling-least.result (negative_else c.args.coefficient c.requires low) ceil grows
