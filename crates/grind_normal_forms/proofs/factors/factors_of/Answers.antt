use Rattle.std.proofs.Common.{inl, inr, FitsSigned, IsErrOf, rules, subst}
use Rattle.std.specs.Int.{w128}
use Rattle.grind_polynomials.specs.declared.poly.PolyRefusal.TheVariants.{Overflow}
use Rattle.grind_normal_forms.specs.FinalFactors.{ArePolys, FactorsOverflow}
use Rattle.grind_polynomials.proofs.Fits.{fit_in}
use Rattle.grind_normal_forms.proofs.FinalLemmas.{none-overflows, final-factors, final-fits, spills-exceeds}
use Rattle.grind_normal_forms.proofs.factors.factors_of.Goals as goal

pub returns-in_err-factors-clause-overflow : goal.returns-in_err-factors-clause-overflow
returns-in_err-factors-clause-overflow c =
    let polys = subst ArePolys c.as_slice.ensures.value c.are_polys.ensures in
    let leads : IsErrOf c.made_factors.result Overflow → FactorsOverflow c.args.basis.now c.args.p.now = λ e. elim (c.made_factors.ensures.overflow e) [
      | inl reduces ↦ inl reduces
      | inr spills ↦ inr (spills-exceeds c.args.basis.now polys c.requires c.args.p.now c.terms-terms.ensures.keeps spills)
    ] in search rules

pub returns-clause-exact : goal.returns-clause-exact
returns-clause-exact c =
    let polys = subst ArePolys c.as_slice.ensures.value c.are_polys.ensures in
    final-factors c.args.basis.now polys c.requires c.args.p.now c.in_ok-factors.factors c.terms-terms.ensures.keeps c.in_ok-factors.ensures.ok

pub returns-clause-fits : goal.returns-clause-fits
returns-clause-fits c =
    let polys = subst ArePolys c.as_slice.ensures.value c.are_polys.ensures in
    let divisor : FitsSigned w128 c.in_ok-factors.factors.divisor = search rules in
    let own : FitsSigned w128 c.in_ok-factors.factors.own = search rules in
    final-fits c.args.basis.now polys c.requires c.args.p.now c.in_ok-factors.factors c.terms-terms.ensures.keeps c.in_ok-factors.ensures.ok
    (fit_in c.in_ok-factors.factors.divisor divisor) (fit_in c.in_ok-factors.factors.own own)

pub returns-clause-within : goal.returns-clause-within
returns-clause-within c =
    let polys = subst ArePolys c.as_slice.ensures.value c.are_polys.ensures in
    let divisor : FitsSigned w128 c.in_ok-factors.factors.divisor = search rules in
    let own : FitsSigned w128 c.in_ok-factors.factors.own = search rules in
    none-overflows c.args.basis.now c.args.p.now c.in_ok-factors.factors
    (final-factors c.args.basis.now polys c.requires c.args.p.now c.in_ok-factors.factors c.terms-terms.ensures.keeps c.in_ok-factors.ensures.ok)
    (final-fits c.args.basis.now polys c.requires c.args.p.now c.in_ok-factors.factors c.terms-terms.ensures.keeps c.in_ok-factors.ensures.ok
    (fit_in c.in_ok-factors.factors.divisor divisor) (fit_in c.in_ok-factors.factors.own own))
