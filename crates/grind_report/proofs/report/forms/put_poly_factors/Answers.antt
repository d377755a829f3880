use Rattle.std.proofs.Common.{◌≡◌, ◌∷◌, [], ◌++◌, length, decimal, refl, arith, ap}
use Rattle.grind_report.specs.Report.{spaced, poly_words, paired, factor_behind, PolyFits}
use Rattle.grind_report.proofs.FactorLoops.{all_before, pair_printed}
use Rattle.grind_report.proofs.report.forms.put_poly_factors.Goals as goal

pub loop-line-preserved : goal.loop-line-preserved
loop-line-preserved c =
    let factor = c.in-Some-split_first.factor.now in
    let premise = c.in-Some.line.now in
    let others : c.loop-line.others.now ≡ factor ∷ c.in-Some-split_first.left.now = c.in-Some-split_first.ensures.cases.0 in
    let rest : c.loop-line.rest.now ≡ premise ∷ c.in-Some.tail.now = c.in-Some.ensures.cases.0 in
    let counts : length c.in-Some.tail.now ≡ length c.in-Some-split_first.left.now = omega (arith, ap length others, ap length rest, c.loop-line.invariant.1) in (
      pair_printed factor_behind (decimal premise ∷ []) (poly_words factor) (c.args.out.now ++ spaced (paired factor_behind c.args.factors.now c.args.premises.now))
          c.loop-line.out c.put_number.new.out c.put_poly.new.out
          c.loop-line.others.now factor c.in-Some-split_first.left.now c.loop-line.rest.now premise c.in-Some.tail.now
          c.loop-line.invariant.0 others rest c.in_ok-put_number.ensures.text c.in_ok-put_poly.ensures.text refl,
      counts,
      λ h. c.loop-line.invariant.2 (all_before PolyFits c.loop-line.others.now factor c.in-Some-split_first.left.now others c.in_ok-put_poly.ensures.fits h),
    )
