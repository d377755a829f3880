use Rattle.std.proofs.Common.{◌≡◌, ◌∷◌, [], ◌++◌, length, decimal, refl, rules, arith, ap}
use Rattle.std.specs.Int.{w128}
use Rattle.std.specs.Fmt.{signed_decimal}
use Rattle.std.proofs.lemmas.Int.{to_z-of_z}
use Rattle.grind_report.specs.Report.{spaced, paired, factor_first, IsWide}
use Rattle.grind_report.proofs.FactorLoops.{all_before, pair_printed}
use Rattle.grind_report.proofs.report.forms.put_factors.Goals as goal

pub loop-premise-preserved : goal.loop-premise-preserved
loop-premise-preserved c =
    let factor = c.in-Some-split_first.factor.now in
    let premise = c.in-Some.premise.now in
    let wide : IsWide factor = search rules in
    let number : c.put_integer.new.out ≡ c.loop-premise.out ++ spaced (signed_decimal factor ∷ []) =
    simp (to_z-of_z w128 factor wide) at c.in_ok-put_integer.ensures.text in
    let others : c.loop-premise.others.now ≡ factor ∷ c.in-Some-split_first.left.now = c.in-Some-split_first.ensures.cases.0 in
    let rest : c.loop-premise.rest.now ≡ premise ∷ c.in-Some.tail.now = c.in-Some.ensures.cases.0 in
    let counts : length c.in-Some.tail.now ≡ length c.in-Some-split_first.left.now = omega (arith, ap length others, ap length rest, c.loop-premise.invariant.1) in (
      pair_printed factor_first (signed_decimal factor ∷ []) (decimal premise ∷ []) (c.args.out.now ++ spaced (paired factor_first c.args.factors.now c.args.premises.now))
          c.loop-premise.out c.put_integer.new.out c.put_number.new.out
          c.loop-premise.others.now factor c.in-Some-split_first.left.now c.loop-premise.rest.now premise c.in-Some.tail.now
          c.loop-premise.invariant.0 others rest number c.in_ok-put_number.ensures.text refl,
      counts,
      λ h. c.loop-premise.invariant.2 (all_before IsWide c.loop-premise.others.now factor c.in-Some-split_first.left.now others wide h),
    )
