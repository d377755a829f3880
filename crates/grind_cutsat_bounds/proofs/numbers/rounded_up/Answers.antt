use Rattle.std.proofs.Common.{◌≤ℤ◌, ◌<ℤ◌, ◌+ℤ◌, ◌^◌, ◌-◌, ℤ, pos, FitsSigned, rules, arith, sym, subst}
use Rattle.std.proofs.lemmas.Int.{to_z-of_z}
use borrow.Author.Differences.{ints}
use Rattle.std.specs.Int.{w128}
use Rattle.grind_lemmas.specs.Rounding.{IsCeil}
use Rattle.grind_cutsat_bounds.proofs.numbers.rounded_up.Goals as goal

pub returns-then-remainder-gt0 : goal.returns-then-remainder-gt0
returns-then-remainder-gt0 c =
    let quotient = simp (to_z-of_z w128 c.args.number c.ranges.number, to_z-of_z w128 c.args.divisor c.ranges.divisor) at c.whole_quotient-quotient.ensures in
    let rest = simp (to_z-of_z w128 c.args.number c.ranges.number, to_z-of_z w128 c.args.divisor c.ranges.divisor) at c.remainder.ensures in
    let fits : FitsSigned w128 c.whole_quotient-quotient.result = search rules in
    let number_fits : FitsSigned w128 c.args.number = c.ranges.number in
    let more : pos 0 <ℤ c.remainder.result = omega (arith, ints) in
    let rounded = c.next_quotients_round_up.ensures c.args.number c.args.divisor c.requires (subst (λ (r : ℤ). pos 0 <ℤ r) rest more) in
    let result_rounded = subst (λ (q : ℤ). IsCeil c.args.number c.args.divisor (q +ℤ pos 1)) (sym quotient) rounded in
    let small : c.args.number ≤ℤ pos (2 ^ 127 - 1) = omega (arith, ints) in
    let low : pos 0 ≤ℤ pos (2 ^ 127 - 1) = omega (arith, ints) in
    let below = c.ceilings_stay_below.ensures c.args.number c.args.divisor (c.whole_quotient-quotient.result +ℤ pos 1) (pos (2 ^ 127 - 1)) c.requires result_rounded small low in
    let next_fits : FitsSigned w128 (c.whole_quotient-quotient.result +ℤ pos 1) = omega (arith, ints) in
    simp (to_z-of_z w128 c.whole_quotient-quotient.result fits, to_z-of_z w128 (c.whole_quotient-quotient.result +ℤ pos 1) next_fits) result_rounded

pub returns : goal.returns
returns c =
    let quotient = simp (to_z-of_z w128 c.args.number c.ranges.number, to_z-of_z w128 c.args.divisor c.ranges.divisor) at c.whole_quotient-quotient.ensures in
    let rest = simp (to_z-of_z w128 c.args.number c.ranges.number, to_z-of_z w128 c.args.divisor c.ranges.divisor) at c.remainder.ensures in
    let fits : FitsSigned w128 c.whole_quotient-quotient.result = search rules in
    let less : c.remainder.result ≤ℤ pos 0 = omega (arith, ints) in
    let rounded = c.quotients_round_up.ensures c.args.number c.args.divisor c.requires (subst (λ (r : ℤ). r ≤ℤ pos 0) rest less) in
    rw (to_z-of_z w128 c.whole_quotient-quotient.result fits) (subst (λ (q : ℤ). IsCeil c.args.number c.args.divisor q) (sym quotient) rounded)
