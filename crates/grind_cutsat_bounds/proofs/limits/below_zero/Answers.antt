use Rattle.std.proofs.Common.{◌≡◌, ℤ, pos, neg_ℤ, ◌-ℤ◌, ◌≤ℤ◌, FitsSigned, Option, Some, rules, arith, sym, subst}
use borrow.Author.Differences.{ints}
use Rattle.std.proofs.lemmas.Int.{to_z-of_z}
use Rattle.std.specs.Int.{w128}
use Rattle.grind_cutsat_bounds.specs.Nearest.{IsNearest}
use Rattle.grind_cutsat_bounds.specs.Limits.{limits_of, AtLeast, IsWithin}
use Rattle.grind_cutsat_bounds.proofs.LimitLemmas.{value_below}
use Rattle.grind_cutsat_bounds.proofs.limits.below_zero.Goals as goal

pub returns-in_default : goal.returns-in_default
returns-in_default c =
    let fits : FitsSigned w128 c.args.high = c.ranges.high in
    let turned_fits : FitsSigned w128 (pos 0 -ℤ c.args.high) = omega (arith, ints) in
    let same : neg_ℤ c.args.high ≡ pos 0 -ℤ c.args.high = omega (arith, ints) in
    let allowed = subst (λ (low : Option ℤ). AtLeast low (neg_ℤ c.args.high)) (sym c.in_default.is) tt in
    simp (to_z-of_z w128 c.args.high fits, to_z-of_z w128 (pos 0 -ℤ c.args.high) turned_fits)
    (subst (λ (value : ℤ). IsNearest (IsWithin (limits_of c.args.low (Some c.args.high))) value) same
    (value_below c.args.low c.args.high c.requires allowed))

pub returns : goal.returns
returns c =
    let fits : FitsSigned w128 c.args.high = c.ranges.high in
    let low_fits : FitsSigned w128 c.in-Some.low = search rules in
    let turned_fits : FitsSigned w128 (pos 0 -ℤ c.args.high) = omega (arith, ints) in
    let same : neg_ℤ c.args.high ≡ pos 0 -ℤ c.args.high = omega (arith, ints) in
    let under : c.in-Some.low ≤ℤ neg_ℤ c.args.high = omega (arith, ints) in
    let allowed = subst (λ (low : Option ℤ). AtLeast low (neg_ℤ c.args.high)) (sym c.in-Some.is) under in
    simp (to_z-of_z w128 c.args.high fits, to_z-of_z w128 (pos 0 -ℤ c.args.high) turned_fits)
    (subst (λ (value : ℤ). IsNearest (IsWithin (limits_of c.args.low (Some c.args.high))) value) same
    (value_below c.args.low c.args.high c.requires allowed))
