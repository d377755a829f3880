use Rattle.std.proofs.Common.{◌<◌, ◌≤◌, ◌/◌, ℕ, pos, rules, sym, ap, ◌∙◌}
use Rattle.std.proofs.lemmas.Int.{to_z-of_z}
use Rattle.std.specs.Int.{w128}
use Rattle.grind_polynomials.specs.Polynomials.{fit_or_refuse}
use Rattle.grind_polynomials.proofs.Fits.{large-out, small-in}
use Rattle.grind_normal_forms.proofs.numbers.unit_of.Goals as goal

pub returns-then-size-gt170141183460469231731687303715884105727 :
    goal.returns-then-size-gt170141183460469231731687303715884105727
returns-then-size-gt170141183460469231731687303715884105727 c =
    let size = simp (to_z-of_z w128 c.args.lead c.ranges.lead) at c.unsigned_abs.ensures.value in
    let large : 170141183460469231731687303715884105727 < c.unsigned_abs.result / c.args.divisor = search rules in
    ap (λ (n : ℕ). fit_or_refuse (pos (n / c.args.divisor))) (sym size) ∙ large-out (c.unsigned_abs.result / c.args.divisor) large

pub returns : goal.returns
returns c =
    let size = simp (to_z-of_z w128 c.args.lead c.ranges.lead) at c.unsigned_abs.ensures.value in
    let small : c.unsigned_abs.result / c.args.divisor ≤ 170141183460469231731687303715884105727 = search rules in
    ap (λ (n : ℕ). fit_or_refuse (pos (n / c.args.divisor))) (sym size) ∙ small-in (c.unsigned_abs.result / c.args.divisor) small
