use Rattle.std.proofs.Common.{inl, inr, true, ℕ, List, ℤ, pos, ◌/◌, unsigned_abs, FitsSigned, IsErrOf, rules, sym, ap, ◌∙◌, subst}
use Rattle.std.specs.Int.{w128, IsGcd}
use Rattle.std.proofs.lemmas.Int.{to_z-of_z}
use Rattle.grind_monomials.specs.Monomials.{IsMonomial, quotient}
use Rattle.grind_monomials.proofs.CountLemmas.{rises-quotient}
use Rattle.grind_polynomials.specs.declared.poly.PolyRefusal.TheVariants.{Overflow}
use Rattle.grind_polynomials.specs.Polynomials.{fit_or_refuse}
use Rattle.grind_polynomials.specs.Sums.{and_then, signed, with_multiples}
use Rattle.grind_normal_forms.specs.Pairs.{divided_by}
use Rattle.grind_normal_forms.specs.Reduction.{target_of, is_negative, BreaksBy}
use Rattle.grind_normal_forms.proofs.ReductionLemmas.{rest-unit, rest-weight, rest-goes_on, factor-unit, poly-rest}
use Rattle.grind_normal_forms.proofs.reduction.step_by.Goals as goal

pub returns-in_default-clause-overflow : goal.returns-in_default-clause-overflow
returns-in_default-clause-overflow c =
    let fits_term : FitsSigned w128 c.args.term.now.coefficient = search rules in
    let back_term = to_z-of_z w128 c.args.term.now.coefficient fits_term in
    let fits_lead : FitsSigned w128 c.lead_coefficient-lead.result = search rules in
    let back_lead = to_z-of_z w128 c.lead_coefficient-lead.result fits_lead in
    let gcd = subst (λ (lead : ℤ). IsGcd (unsigned_abs lead) (unsigned_abs c.args.term.now.coefficient) c.common_divisor-divisor.result)
    c.lead_coefficient-lead.ensures.value (simp (back_lead, back_term) at c.common_divisor-divisor.ensures.divisor) in
    let over = ap (λ (lead : ℤ). fit_or_refuse (pos (unsigned_abs lead / c.common_divisor-divisor.result))) (sym c.lead_coefficient-lead.ensures.value)
    ∙ simp back_lead at c.in_default.ensures in
    λ e. record { divisor = c.common_divisor-divisor.result; divisor_is = gcd; refused = inl (rest-unit (target_of c.args.term.now c.args.element.now) c.common_divisor-divisor.result c.args.state.now.rest Overflow over) }

pub returns-in_default-weight_of-clause-overflow : goal.returns-in_default-weight_of-clause-overflow
returns-in_default-weight_of-clause-overflow c =
    let fits_term : FitsSigned w128 c.args.term.now.coefficient = search rules in
    let back_term = to_z-of_z w128 c.args.term.now.coefficient fits_term in
    let fits_lead : FitsSigned w128 c.lead_coefficient-lead.result = search rules in
    let back_lead = to_z-of_z w128 c.lead_coefficient-lead.result fits_lead in
    let gcd = subst (λ (lead : ℤ). IsGcd (unsigned_abs lead) (unsigned_abs c.args.term.now.coefficient) c.common_divisor-divisor.result)
    c.lead_coefficient-lead.ensures.value (simp (back_lead, back_term) at c.common_divisor-divisor.ensures.divisor) in
    let unit = ap (λ (lead : ℤ). fit_or_refuse (pos (unsigned_abs lead / c.common_divisor-divisor.result))) (sym c.lead_coefficient-lead.ensures.value)
    ∙ simp back_lead at c.in-Some.ensures in
    let over = ap (λ (lead : ℤ). fit_or_refuse (signed (is_negative lead) (divided_by c.common_divisor-divisor.result c.args.term.now.coefficient))) (sym c.lead_coefficient-lead.ensures.value)
    ∙ simp (back_lead, back_term) at c.in_default-weight_of.ensures in
    λ e. record { divisor = c.common_divisor-divisor.result; divisor_is = gcd; refused = inl (rest-weight (target_of c.args.term.now c.args.element.now) c.common_divisor-divisor.result c.args.state.now.rest c.in-Some.unit Overflow unit over) }

pub add_multiples-requires-clause-monomial : goal.add_multiples-requires-clause-monomial
add_multiples-requires-clause-monomial c =
    let is = c.as_slice-2.ensures.value ∙ c.in_ok-more.ensures ∙ ap (λ (n : List ℕ). quotient n c.lead_monomial.result.now) c.as_slice.ensures.value in
    subst IsMonomial (sym is) (rises-quotient c.args.term.now.monomial c.lead_monomial.result.now 0 c.requires.monomial)

pub returns-in_err-start-clause-overflow : goal.returns-in_err-start-clause-overflow
returns-in_err-start-clause-overflow c =
    let fits_term : FitsSigned w128 c.args.term.now.coefficient = search rules in
    let back_term = to_z-of_z w128 c.args.term.now.coefficient fits_term in
    let fits_lead : FitsSigned w128 c.lead_coefficient-lead.result = search rules in
    let back_lead = to_z-of_z w128 c.lead_coefficient-lead.result fits_lead in
    let gcd = subst (λ (lead : ℤ). IsGcd (unsigned_abs lead) (unsigned_abs c.args.term.now.coefficient) c.common_divisor-divisor.result)
    c.lead_coefficient-lead.ensures.value (simp (back_lead, back_term) at c.common_divisor-divisor.ensures.divisor) in
    let unit = ap (λ (lead : ℤ). fit_or_refuse (pos (unsigned_abs lead / c.common_divisor-divisor.result))) (sym c.lead_coefficient-lead.ensures.value)
    ∙ simp back_lead at c.in-Some.ensures in
    let weight = ap (λ (lead : ℤ). fit_or_refuse (signed (is_negative lead) (divided_by c.common_divisor-divisor.result c.args.term.now.coefficient))) (sym c.lead_coefficient-lead.ensures.value)
    ∙ simp (back_lead, back_term) at c.in-Some-weight_of.ensures in
    let more = c.in_ok-more.ensures ∙ (λ i. quotient (c.as_slice.ensures.value i) (c.lead_monomial.ensures.value i)) in
    let opened = rest-goes_on (target_of c.args.term.now c.args.element.now) c.common_divisor-divisor.result c.args.state.now.rest c.in-Some.unit c.in-Some-weight_of.weight c.in_ok-more.more
    unit weight more in
    let fits_unit : FitsSigned w128 c.in-Some.unit = search rules in
    let back_unit = to_z-of_z w128 c.in-Some.unit fits_unit in
    let told = simp (back_unit, c.terms.ensures.value) at c.scale.ensures.overflow in
    let leads : IsErrOf c.scale.result Overflow → BreaksBy (target_of c.args.term.now c.args.element.now) c.args.state.now = λ e.
    record { divisor = c.common_divisor-divisor.result; divisor_is = gcd; refused = inl (opened ∙ ap (and_then (with_multiples true c.in-Some-weight_of.weight c.in_ok-more.more c.args.element.now)) (told e)) } in search rules

pub returns-in_err-terms-clause-overflow : goal.returns-in_err-terms-clause-overflow
returns-in_err-terms-clause-overflow c =
    let fits_term : FitsSigned w128 c.args.term.now.coefficient = search rules in
    let back_term = to_z-of_z w128 c.args.term.now.coefficient fits_term in
    let fits_lead : FitsSigned w128 c.lead_coefficient-lead.result = search rules in
    let back_lead = to_z-of_z w128 c.lead_coefficient-lead.result fits_lead in
    let gcd = subst (λ (lead : ℤ). IsGcd (unsigned_abs lead) (unsigned_abs c.args.term.now.coefficient) c.common_divisor-divisor.result)
    c.lead_coefficient-lead.ensures.value (simp (back_lead, back_term) at c.common_divisor-divisor.ensures.divisor) in
    let unit = ap (λ (lead : ℤ). fit_or_refuse (pos (unsigned_abs lead / c.common_divisor-divisor.result))) (sym c.lead_coefficient-lead.ensures.value)
    ∙ simp back_lead at c.in-Some.ensures in
    let weight = ap (λ (lead : ℤ). fit_or_refuse (signed (is_negative lead) (divided_by c.common_divisor-divisor.result c.args.term.now.coefficient))) (sym c.lead_coefficient-lead.ensures.value)
    ∙ simp (back_lead, back_term) at c.in-Some-weight_of.ensures in
    let more = c.in_ok-more.ensures ∙ (λ i. quotient (c.as_slice.ensures.value i) (c.lead_monomial.ensures.value i)) in
    let opened = rest-goes_on (target_of c.args.term.now c.args.element.now) c.common_divisor-divisor.result c.args.state.now.rest c.in-Some.unit c.in-Some-weight_of.weight c.in_ok-more.more
    unit weight more in
    let fits_unit : FitsSigned w128 c.in-Some.unit = search rules in
    let back_unit = to_z-of_z w128 c.in-Some.unit fits_unit in
    let started = simp (back_unit, c.terms.ensures.value) at c.in_ok-start.ensures.ok in
    let fits_weight : FitsSigned w128 c.in-Some-weight_of.weight = search rules in
    let back_weight = to_z-of_z w128 c.in-Some-weight_of.weight fits_weight in
    let told = simp (back_weight, c.as_slice-2.ensures.value, c.terms-2.ensures.value) at c.add_multiples.ensures.overflow in
    let leads : IsErrOf c.add_multiples.result Overflow → BreaksBy (target_of c.args.term.now c.args.element.now) c.args.state.now = λ e.
    record { divisor = c.common_divisor-divisor.result; divisor_is = gcd; refused = inl (opened ∙ ap (and_then (with_multiples true c.in-Some-weight_of.weight c.in_ok-more.more c.args.element.now)) started ∙ told e) } in search rules

pub returns-in_default-product_of-clause-overflow : goal.returns-in_default-product_of-clause-overflow
returns-in_default-product_of-clause-overflow c =
    let fits_term : FitsSigned w128 c.args.term.now.coefficient = search rules in
    let back_term = to_z-of_z w128 c.args.term.now.coefficient fits_term in
    let fits_lead : FitsSigned w128 c.lead_coefficient-lead.result = search rules in
    let back_lead = to_z-of_z w128 c.lead_coefficient-lead.result fits_lead in
    let gcd = subst (λ (lead : ℤ). IsGcd (unsigned_abs lead) (unsigned_abs c.args.term.now.coefficient) c.common_divisor-divisor.result)
    c.lead_coefficient-lead.ensures.value (simp (back_lead, back_term) at c.common_divisor-divisor.ensures.divisor) in
    let unit = ap (λ (lead : ℤ). fit_or_refuse (pos (unsigned_abs lead / c.common_divisor-divisor.result))) (sym c.lead_coefficient-lead.ensures.value)
    ∙ simp back_lead at c.in-Some.ensures in
    let fits_unit : FitsSigned w128 c.in-Some.unit = search rules in
    let back_unit = to_z-of_z w128 c.in-Some.unit fits_unit in
    let fits_factor : FitsSigned w128 c.args.state.now.factor = search rules in
    let back_factor = to_z-of_z w128 c.args.state.now.factor fits_factor in
    let over = simp (back_unit, back_factor) at c.in_default-product_of.ensures in
    λ e. record { divisor = c.common_divisor-divisor.result; divisor_is = gcd; refused = inr (factor-unit (target_of c.args.term.now c.args.element.now) c.common_divisor-divisor.result c.args.state.now.factor c.in-Some.unit unit ∙ over) }

pub invariant_of-result : goal.invariant_of-result
invariant_of-result c =
    let fits_term : FitsSigned w128 c.args.term.now.coefficient = search rules in
    let back_term = to_z-of_z w128 c.args.term.now.coefficient fits_term in
    let fits_lead : FitsSigned w128 c.lead_coefficient-lead.result = search rules in
    let back_lead = to_z-of_z w128 c.lead_coefficient-lead.result fits_lead in
    let gcd = subst (λ (lead : ℤ). IsGcd (unsigned_abs lead) (unsigned_abs c.args.term.now.coefficient) c.common_divisor-divisor.result)
    c.lead_coefficient-lead.ensures.value (simp (back_lead, back_term) at c.common_divisor-divisor.ensures.divisor) in
    let unit = ap (λ (lead : ℤ). fit_or_refuse (pos (unsigned_abs lead / c.common_divisor-divisor.result))) (sym c.lead_coefficient-lead.ensures.value)
    ∙ simp back_lead at c.in-Some.ensures in
    let weight = ap (λ (lead : ℤ). fit_or_refuse (signed (is_negative lead) (divided_by c.common_divisor-divisor.result c.args.term.now.coefficient))) (sym c.lead_coefficient-lead.ensures.value)
    ∙ simp (back_lead, back_term) at c.in-Some-weight_of.ensures in
    let more = c.in_ok-more.ensures ∙ (λ i. quotient (c.as_slice.ensures.value i) (c.lead_monomial.ensures.value i)) in
    let opened = rest-goes_on (target_of c.args.term.now c.args.element.now) c.common_divisor-divisor.result c.args.state.now.rest c.in-Some.unit c.in-Some-weight_of.weight c.in_ok-more.more
    unit weight more in
    let fits_unit : FitsSigned w128 c.in-Some.unit = search rules in
    let back_unit = to_z-of_z w128 c.in-Some.unit fits_unit in
    let started = simp (back_unit, c.terms.ensures.value) at c.in_ok-start.ensures.ok in
    let fits_weight : FitsSigned w128 c.in-Some-weight_of.weight = search rules in
    let back_weight = to_z-of_z w128 c.in-Some-weight_of.weight fits_weight in
    let made = simp (back_weight, c.as_slice-2.ensures.value, c.terms-2.ensures.value) at c.in_ok-terms.ensures.ok in
    let rest = opened ∙ ap (and_then (with_multiples true c.in-Some-weight_of.weight c.in_ok-more.more c.args.element.now)) started ∙ made in
    poly-rest (target_of c.args.term.now c.args.element.now) c.common_divisor-divisor.result c.args.state.now.rest c.in_ok-terms.terms gcd c.terms-2.ensures.keeps c.requires.nonzero c.requires.monomial
    c.terms.ensures.keeps rest

pub returns-clause-ok : goal.returns-clause-ok
returns-clause-ok c =
    let fits_term : FitsSigned w128 c.args.term.now.coefficient = search rules in
    let back_term = to_z-of_z w128 c.args.term.now.coefficient fits_term in
    let fits_lead : FitsSigned w128 c.lead_coefficient-lead.result = search rules in
    let back_lead = to_z-of_z w128 c.lead_coefficient-lead.result fits_lead in
    let gcd = subst (λ (lead : ℤ). IsGcd (unsigned_abs lead) (unsigned_abs c.args.term.now.coefficient) c.common_divisor-divisor.result)
    c.lead_coefficient-lead.ensures.value (simp (back_lead, back_term) at c.common_divisor-divisor.ensures.divisor) in
    let unit = ap (λ (lead : ℤ). fit_or_refuse (pos (unsigned_abs lead / c.common_divisor-divisor.result))) (sym c.lead_coefficient-lead.ensures.value)
    ∙ simp back_lead at c.in-Some.ensures in
    let weight = ap (λ (lead : ℤ). fit_or_refuse (signed (is_negative lead) (divided_by c.common_divisor-divisor.result c.args.term.now.coefficient))) (sym c.lead_coefficient-lead.ensures.value)
    ∙ simp (back_lead, back_term) at c.in-Some-weight_of.ensures in
    let more = c.in_ok-more.ensures ∙ (λ i. quotient (c.as_slice.ensures.value i) (c.lead_monomial.ensures.value i)) in
    let opened = rest-goes_on (target_of c.args.term.now c.args.element.now) c.common_divisor-divisor.result c.args.state.now.rest c.in-Some.unit c.in-Some-weight_of.weight c.in_ok-more.more
    unit weight more in
    let fits_unit : FitsSigned w128 c.in-Some.unit = search rules in
    let back_unit = to_z-of_z w128 c.in-Some.unit fits_unit in
    let started = simp (back_unit, c.terms.ensures.value) at c.in_ok-start.ensures.ok in
    let fits_weight : FitsSigned w128 c.in-Some-weight_of.weight = search rules in
    let back_weight = to_z-of_z w128 c.in-Some-weight_of.weight fits_weight in
    let made = simp (back_weight, c.as_slice-2.ensures.value, c.terms-2.ensures.value) at c.in_ok-terms.ensures.ok in
    let rest = opened ∙ ap (and_then (with_multiples true c.in-Some-weight_of.weight c.in_ok-more.more c.args.element.now)) started ∙ made in
    let fits_factor : FitsSigned w128 c.args.state.now.factor = search rules in
    let back_factor = to_z-of_z w128 c.args.state.now.factor fits_factor in
    let factor = factor-unit (target_of c.args.term.now c.args.element.now) c.common_divisor-divisor.result c.args.state.now.factor c.in-Some.unit unit
    ∙ simp (back_unit, back_factor) at c.in-Some-product_of.ensures in
    let fits_new : FitsSigned w128 c.in-Some-product_of.factor = search rules in record {
      divisor = c.common_divisor-divisor.result;
      divisor_is = gcd;
      rest_is = rest;
      factor_is = simp (to_z-of_z w128 c.in-Some-product_of.factor fits_new) factor;
    }
