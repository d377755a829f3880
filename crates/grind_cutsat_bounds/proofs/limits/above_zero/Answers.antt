use Rattle.std.proofs.Common.{◌≡◌, ℤ, pos, neg_ℤ, ◌-ℤ◌, ◌<ℤ◌, FitsSigned, Option, Some, rules, arith, sym, subst}
use borrow.Author.Differences.{ints}
use Rattle.std.proofs.lemmas.Int.{to_z-of_z}
use Rattle.std.specs.Int.{w128}
use Rattle.grind_cutsat_bounds.specs.Limits.{limits_of, IsNearestOf}
use Rattle.grind_cutsat_bounds.specs.declared.limits.Nearest.TheVariants as nearest
use Rattle.grind_cutsat_bounds.proofs.LimitLemmas.{gap_between}
use Rattle.grind_cutsat_bounds.proofs.limits.above_zero.Goals as goal

pub returns-then-high-low : goal.returns-then-high-low
returns-then-high-low c =
    let fits : FitsSigned w128 c.in-Some.high = search rules in
    let low_fits : FitsSigned w128 c.args.low = c.ranges.low in
    let turned_fits : FitsSigned w128 (pos 0 -ℤ c.in-Some.high) = omega (arith, ints) in
    let over : neg_ℤ c.args.low <ℤ c.in-Some.high = omega (arith, ints) in
    let same : neg_ℤ c.in-Some.high ≡ pos 0 -ℤ c.in-Some.high = omega (arith, ints) in
    simp (to_z-of_z w128 c.in-Some.high fits, to_z-of_z w128 (pos 0 -ℤ c.in-Some.high) turned_fits)
    (subst (λ (high : Option ℤ). IsNearestOf (limits_of (Some c.args.low) high) (nearest.Gap (pos 0 -ℤ c.in-Some.high)))
    (sym c.in-Some.is)
    (subst (λ (floor : ℤ). IsNearestOf (limits_of (Some c.args.low) (Some c.in-Some.high)) (nearest.Gap floor)) same
    (gap_between c.args.low c.in-Some.high over)))
