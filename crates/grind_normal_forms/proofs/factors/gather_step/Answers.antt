use Rattle.std.proofs.Common.{◌⊎◌, inl, inr, true, ℤ, pos, ◌/◌, unsigned_abs, FitsSigned, IsErrOf, rules, sym, ap, ◌∙◌, refl, subst}
use Rattle.std.specs.Int.{w128, IsGcd}
use Rattle.std.proofs.lemmas.Int.{to_z-of_z}
use Rattle.grind_polynomials.specs.declared.poly.PolyRefusal.TheVariants.{Overflow}
use Rattle.grind_polynomials.specs.Polynomials.{fit_or_refuse}
use Rattle.grind_polynomials.specs.Sums.{signed}
use Rattle.grind_normal_forms.specs.Pairs.{divided_by}
use Rattle.grind_normal_forms.specs.Reduction.{target, target_of, is_negative, unit as unit_by, Breaks}
use Rattle.grind_normal_forms.specs.Gathering.{Move, factors_moved, SpillsWith}
use Rattle.grind_polynomials.proofs.Fits.{fit_is}
use Rattle.grind_normal_forms.proofs.ReductionLemmas.{rest-unit, rest-weight, unit-nonzero}
use Rattle.grind_normal_forms.proofs.Descent.{descends}
use Rattle.grind_normal_forms.proofs.GatherLemmas.{move-same}
use Rattle.grind_normal_forms.proofs.factors.gather_step.Goals as goal

pub returns-in_default-unit_of-clause-overflow : goal.returns-in_default-unit_of-clause-overflow
returns-in_default-unit_of-clause-overflow c =
    let fits_term : FitsSigned w128 c.in-Some.term.now.coefficient = search rules in
    let back_term = to_z-of_z w128 c.in-Some.term.now.coefficient fits_term in
    let fits_lead : FitsSigned w128 c.lead_coefficient-lead.result = search rules in
    let back_lead = to_z-of_z w128 c.lead_coefficient-lead.result fits_lead in
    let gcd = subst (λ (lead : ℤ). IsGcd (unsigned_abs lead) (unsigned_abs c.in-Some.term.now.coefficient) c.common_divisor-divisor.result)
    c.lead_coefficient-lead.ensures.value (simp (back_lead, back_term) at c.common_divisor-divisor.ensures.divisor) in
    let found_is = ap (target c.args.basis.now) (sym c.terms.ensures.value) ∙ c.in-Some.ensures.value in
    let over = ap (λ (lead : ℤ). fit_or_refuse (pos (unsigned_abs lead / c.common_divisor-divisor.result))) (sym c.lead_coefficient-lead.ensures.value)
    ∙ simp back_lead at c.in_default-unit_of.ensures in
    λ e. inl (record { found = target_of c.in-Some.term.now c.in-Some.element.now; found_is = found_is; break_is = record { divisor = c.common_divisor-divisor.result; divisor_is = gcd; refused = inl (rest-unit (target_of c.in-Some.term.now c.in-Some.element.now) c.common_divisor-divisor.result c.args.now.now.state.rest Overflow over) } })

pub returns-in_default-weight_of-clause-overflow : goal.returns-in_default-weight_of-clause-overflow
returns-in_default-weight_of-clause-overflow c =
    let fits_term : FitsSigned w128 c.in-Some.term.now.coefficient = search rules in
    let back_term = to_z-of_z w128 c.in-Some.term.now.coefficient fits_term in
    let fits_lead : FitsSigned w128 c.lead_coefficient-lead.result = search rules in
    let back_lead = to_z-of_z w128 c.lead_coefficient-lead.result fits_lead in
    let gcd = subst (λ (lead : ℤ). IsGcd (unsigned_abs lead) (unsigned_abs c.in-Some.term.now.coefficient) c.common_divisor-divisor.result)
    c.lead_coefficient-lead.ensures.value (simp (back_lead, back_term) at c.common_divisor-divisor.ensures.divisor) in
    let found_is = ap (target c.args.basis.now) (sym c.terms.ensures.value) ∙ c.in-Some.ensures.value in
    let unit = ap (λ (lead : ℤ). fit_or_refuse (pos (unsigned_abs lead / c.common_divisor-divisor.result))) (sym c.lead_coefficient-lead.ensures.value)
    ∙ simp back_lead at c.in-Some-unit_of.ensures in
    let over = ap (λ (lead : ℤ). fit_or_refuse (signed (is_negative lead) (divided_by c.common_divisor-divisor.result c.in-Some.term.now.coefficient))) (sym c.lead_coefficient-lead.ensures.value)
    ∙ simp (back_lead, back_term) at c.in_default-weight_of.ensures in
    λ e. inl (record { found = target_of c.in-Some.term.now c.in-Some.element.now; found_is = found_is; break_is = record { divisor = c.common_divisor-divisor.result; divisor_is = gcd; refused = inl (rest-weight (target_of c.in-Some.term.now c.in-Some.element.now) c.common_divisor-divisor.result c.args.now.now.state.rest c.in-Some-unit_of.unit Overflow unit over) } })

pub moved_factors-requires-clause-unit : goal.moved_factors-requires-clause-unit
moved_factors-requires-clause-unit c =
    let fits_term : FitsSigned w128 c.in-Some.term.now.coefficient = search rules in
    let back_term = to_z-of_z w128 c.in-Some.term.now.coefficient fits_term in
    let fits_lead : FitsSigned w128 c.lead_coefficient-lead.result = search rules in
    let back_lead = to_z-of_z w128 c.lead_coefficient-lead.result fits_lead in
    let gcd = subst (λ (lead : ℤ). IsGcd (unsigned_abs lead) (unsigned_abs c.in-Some.term.now.coefficient) c.common_divisor-divisor.result)
    c.lead_coefficient-lead.ensures.value (simp (back_lead, back_term) at c.common_divisor-divisor.ensures.divisor) in
    let found_is = ap (target c.args.basis.now) (sym c.terms.ensures.value) ∙ c.in-Some.ensures.value in
    let unit = ap (λ (lead : ℤ). fit_or_refuse (pos (unsigned_abs lead / c.common_divisor-divisor.result))) (sym c.lead_coefficient-lead.ensures.value)
    ∙ simp back_lead at c.in-Some-unit_of.ensures in
    let fits_unit : FitsSigned w128 c.in-Some-unit_of.unit = search rules in
    let back_unit = to_z-of_z w128 c.in-Some-unit_of.unit fits_unit in
    λ e. unit-nonzero (target_of c.in-Some.term.now c.in-Some.element.now) c.common_divisor-divisor.result gcd c.terms-terms.ensures.keeps c.in-Some.ensures.nonzero
    (sym (fit_is (unit_by (target_of c.in-Some.term.now c.in-Some.element.now) c.common_divisor-divisor.result) c.in-Some-unit_of.unit unit) ∙ sym back_unit ∙ e)

pub returns-in_err-list-clause-overflow : goal.returns-in_err-list-clause-overflow
returns-in_err-list-clause-overflow c =
    let fits_term : FitsSigned w128 c.in-Some.term.now.coefficient = search rules in
    let back_term = to_z-of_z w128 c.in-Some.term.now.coefficient fits_term in
    let fits_lead : FitsSigned w128 c.lead_coefficient-lead.result = search rules in
    let back_lead = to_z-of_z w128 c.lead_coefficient-lead.result fits_lead in
    let gcd = subst (λ (lead : ℤ). IsGcd (unsigned_abs lead) (unsigned_abs c.in-Some.term.now.coefficient) c.common_divisor-divisor.result)
    c.lead_coefficient-lead.ensures.value (simp (back_lead, back_term) at c.common_divisor-divisor.ensures.divisor) in
    let found_is = ap (target c.args.basis.now) (sym c.terms.ensures.value) ∙ c.in-Some.ensures.value in
    let unit = ap (λ (lead : ℤ). fit_or_refuse (pos (unsigned_abs lead / c.common_divisor-divisor.result))) (sym c.lead_coefficient-lead.ensures.value)
    ∙ simp back_lead at c.in-Some-unit_of.ensures in
    let fits_unit : FitsSigned w128 c.in-Some-unit_of.unit = search rules in
    let back_unit = to_z-of_z w128 c.in-Some-unit_of.unit fits_unit in
    let weight = ap (λ (lead : ℤ). fit_or_refuse (signed (is_negative lead) (divided_by c.common_divisor-divisor.result c.in-Some.term.now.coefficient))) (sym c.lead_coefficient-lead.ensures.value)
    ∙ simp (back_lead, back_term) at c.in-Some-weight_of.ensures in
    let fits_weight : FitsSigned w128 c.in-Some-weight_of.weight = search rules in
    let back_weight = to_z-of_z w128 c.in-Some-weight_of.weight fits_weight in
    let same = move-same c.args.minus (target_of c.in-Some.term.now c.in-Some.element.now) c.common_divisor-divisor.result c.in_ok-state.ensures.ok.divisor c.in-Some-unit_of.unit c.in-Some-weight_of.weight c.in-Some.term.now.monomial
    gcd c.in_ok-state.ensures.ok.divisor_is unit weight refl in
    let told = simp (back_unit, back_weight, c.as_slice-monomial.ensures.value, c.as_slice.ensures.value) at c.moved_factors.ensures.overflow in
    let leads : IsErrOf c.moved_factors.result Overflow → Breaks c.args.basis.now c.args.now.now.state
    ⊎ SpillsWith c.args.minus c.args.basis.now c.args.now.now.state c.args.now.now.list = λ e.
    inr (record { next = c.in_ok-state.state; steps = record { found = target_of c.in-Some.term.now c.in-Some.element.now; found_is = found_is; step_is = c.in_ok-state.ensures.ok }; refused = ap (λ (move : Move). factors_moved move true c.args.basis.now c.args.now.now.list) (sym same) ∙ told e }) in search rules

pub returns-clause-ok : goal.returns-clause-ok
returns-clause-ok c =
    let fits_term : FitsSigned w128 c.in-Some.term.now.coefficient = search rules in
    let back_term = to_z-of_z w128 c.in-Some.term.now.coefficient fits_term in
    let fits_lead : FitsSigned w128 c.lead_coefficient-lead.result = search rules in
    let back_lead = to_z-of_z w128 c.lead_coefficient-lead.result fits_lead in
    let gcd = subst (λ (lead : ℤ). IsGcd (unsigned_abs lead) (unsigned_abs c.in-Some.term.now.coefficient) c.common_divisor-divisor.result)
    c.lead_coefficient-lead.ensures.value (simp (back_lead, back_term) at c.common_divisor-divisor.ensures.divisor) in
    let found_is = ap (target c.args.basis.now) (sym c.terms.ensures.value) ∙ c.in-Some.ensures.value in
    let unit = ap (λ (lead : ℤ). fit_or_refuse (pos (unsigned_abs lead / c.common_divisor-divisor.result))) (sym c.lead_coefficient-lead.ensures.value)
    ∙ simp back_lead at c.in-Some-unit_of.ensures in
    let fits_unit : FitsSigned w128 c.in-Some-unit_of.unit = search rules in
    let back_unit = to_z-of_z w128 c.in-Some-unit_of.unit fits_unit in
    let weight = ap (λ (lead : ℤ). fit_or_refuse (signed (is_negative lead) (divided_by c.common_divisor-divisor.result c.in-Some.term.now.coefficient))) (sym c.lead_coefficient-lead.ensures.value)
    ∙ simp (back_lead, back_term) at c.in-Some-weight_of.ensures in
    let fits_weight : FitsSigned w128 c.in-Some-weight_of.weight = search rules in
    let back_weight = to_z-of_z w128 c.in-Some-weight_of.weight fits_weight in
    let same = move-same c.args.minus (target_of c.in-Some.term.now c.in-Some.element.now) c.common_divisor-divisor.result c.in_ok-state.ensures.ok.divisor c.in-Some-unit_of.unit c.in-Some-weight_of.weight c.in-Some.term.now.monomial
    gcd c.in_ok-state.ensures.ok.divisor_is unit weight refl in
    let told = simp (back_unit, back_weight, c.as_slice-monomial.ensures.value, c.as_slice.ensures.value) at c.in_ok-list.ensures.ok in
    record { steps = record { found = target_of c.in-Some.term.now c.in-Some.element.now; found_is = found_is; step_is = c.in_ok-state.ensures.ok }; more_is = ap (λ (move : Move). factors_moved move true c.args.basis.now c.args.now.now.list) (sym same) ∙ told }

pub returns-clause-descends : goal.returns-clause-descends
returns-clause-descends c =
    descends c.args.basis.now (target_of c.in-Some.term.now c.in-Some.element.now) c.args.now.now.state c.in_ok-state.state
    (ap (target c.args.basis.now) (sym c.terms.ensures.value) ∙ c.in-Some.ensures.value)
    c.terms.ensures.keeps c.terms-terms.ensures.keeps c.in-Some.ensures.nonzero c.in_ok-state.ensures.ok
