use Rattle.std.proofs.Common.{◌≡◌, ℤ, neg_ℤ, Ok, Err, FitsSigned, MatchOption, rules, ap, ◌∙◌, subst}
use Rattle.std.specs.Int.{w128}
use Rattle.std.proofs.lemmas.Int.{to_z-of_z}
use Rattle.grind_polynomials.specs.declared.poly.PolyRefusal.TheVariants.{Overflow}
use Rattle.grind_polynomials.specs.Polynomials.{fit_or_refuse}
use Rattle.grind_normal_forms.specs.Pairs.{divided_by}
use Rattle.grind_ring_basis.proofs.multiples.turned.Goals as goal

pub returns-clause-fits : goal.returns-clause-fits
returns-clause-fits c =
    let fits : FitsSigned w128 c.lead_coefficient.result = search rules in
    let fits_k : FitsSigned w128 c.divided.result = search rules in
    let is = simp (to_z-of_z w128 c.lead_coefficient.result fits) at c.divided.ensures
    ∙ ap (divided_by c.args.divisor) c.lead_coefficient.ensures.value in
    subst (λ (k : ℤ). MatchOption c.negated.result (fit_or_refuse (neg_ℤ k) ≡ Err Overflow) (λ z. fit_or_refuse (neg_ℤ k) ≡ Ok z)) is
    (simp (to_z-of_z w128 c.divided.result fits_k) at c.negated.ensures)

pub returns-clause-nonzero : goal.returns-clause-nonzero
returns-clause-nonzero c = λ some none. c.lead_coefficient.ensures.nonzero some (c.lead_coefficient.ensures.value ∙ none)
