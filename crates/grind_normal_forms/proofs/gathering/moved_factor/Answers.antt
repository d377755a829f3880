use Rattle.std.proofs.Common.{FitsSigned, rules, sym, subst}
use Rattle.std.specs.Int.{w128}
use Rattle.std.proofs.lemmas.Int.{to_z-of_z}
use Rattle.grind_monomials.specs.Monomials.{IsMonomial}
use Rattle.grind_monomials.proofs.CountLemmas.{rises-quotient}
use Rattle.grind_polynomials.specs.Sums.{signed}
use Rattle.grind_polynomials.proofs.Falling.{poly-more}
use Rattle.grind_normal_forms.proofs.ReductionLemmas.{poly-scaled}
use Rattle.grind_normal_forms.proofs.gathering.moved_factor.Goals as goal

pub invariant_of-result : goal.invariant_of-result
invariant_of-result c =
    let fits_unit : FitsSigned w128 c.args.moving.now.unit = search rules in
    let told = simp (to_z-of_z w128 c.args.moving.now.unit fits_unit, c.terms.ensures.value) at c.in_ok-terms.ensures.ok in
    poly-scaled c.args.moving.now.unit c.args.q.now c.in_ok-terms.terms c.requires.unit c.terms.ensures.keeps told

pub invariant_of-result-2 : goal.invariant_of-result-2
invariant_of-result-2 c =
    let fits_unit : FitsSigned w128 c.args.moving.now.unit = search rules in
    let told = simp (to_z-of_z w128 c.args.moving.now.unit fits_unit, c.terms.ensures.value) at c.in_ok-terms.ensures.ok in
    let fits_weight : FitsSigned w128 c.args.moving.now.weight = search rules in
    let made = simp (to_z-of_z w128 c.args.moving.now.weight fits_weight) at c.in_ok-terms-2.ensures.ok in
    poly-more (signed c.args.moving.now.minus c.args.moving.now.weight) c.in_ok-more.more c.in_ok-terms.terms c.in_ok-terms-2.terms
    (subst IsMonomial (sym c.in_ok-more.ensures) (rises-quotient c.args.moving.now.monomial.now c.lead_monomial.result.now 0 c.requires.monomial))
    (poly-scaled c.args.moving.now.unit c.args.q.now c.in_ok-terms.terms c.requires.unit c.terms.ensures.keeps told) made
