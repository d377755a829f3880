use Rattle.std.proofs.Common.{◌<◌, ◌≤◌, ℕ, true, List, length, Err, FitsSigned, IsErrOf, rules, ap, ◌∙◌, subst}
use Rattle.std.specs.Int.{w128}
use Rattle.std.proofs.lemmas.Bool.{le-ltb, lt-ltb}
use Rattle.std.proofs.lemmas.Int.{to_z-of_z}
use Rattle.grind_monomials.specs.Monomials.{IsMonomial, quotient}
use Rattle.grind_polynomials.specs.declared.poly.PolyRefusal.TheVariants.{Overflow}
use Rattle.grind_polynomials.specs.Sums.{and_then, with_multiples}
use Rattle.grind_normal_forms.specs.Pairs.{divided_by, lead_multiple, IsSPolynomial}
use Rattle.grind_normal_forms.proofs.PairLemmas.{mono-cofactor, s-over, s-within, poly-s}
use Rattle.grind_normal_forms.proofs.pairs.s_poly.Goals as goal

pub returns-then-len-gt16-clause-degree : goal.returns-then-len-gt16-clause-degree
returns-then-len-gt16-clause-degree c =
    let large : 16 < length c.in_ok-whole.whole = search rules in
    let judged = lt-ltb 16 (length (lead_multiple c.args.a.now c.args.b.now)) (subst (λ (xs : List ℕ). 16 < length xs) c.in_ok-whole.ensures large) in
    λ e. record {
      divisor = c.lead_divisor-h.result;
      divisor_is = c.lead_divisor-h.ensures.divisor;
      answer_is = s-over c.args.a.now c.args.b.now c.lead_divisor-h.result judged;
    }

pub add_multiples-requires-clause-monomial : goal.add_multiples-requires-clause-monomial
add_multiples-requires-clause-monomial c =
    mono-cofactor c.args.a.now c.args.b.now c.in_ok-whole.whole c.as_slice.result.now c.lead_monomial.result.now c.in_ok-left.left c.as_slice-3.result.now
    (subst IsMonomial c.lead_monomial.ensures.value c.lead_monomial.ensures.keeps)
    (subst IsMonomial c.lead_monomial-2.ensures.value c.lead_monomial-2.ensures.keeps)
    c.in_ok-whole.ensures c.as_slice.ensures.value c.in_ok-left.ensures c.as_slice-3.ensures.value

pub add_multiples-requires-2-clause-monomial : goal.add_multiples-requires-2-clause-monomial
add_multiples-requires-2-clause-monomial c =
    mono-cofactor c.args.a.now c.args.b.now c.in_ok-whole.whole c.as_slice-2.result.now c.lead_monomial-2.result.now c.in_ok-right.right c.as_slice-4.result.now
    (subst IsMonomial c.lead_monomial.ensures.value c.lead_monomial.ensures.keeps)
    (subst IsMonomial c.lead_monomial-2.ensures.value c.lead_monomial-2.ensures.keeps)
    c.in_ok-whole.ensures c.as_slice-2.ensures.value c.in_ok-right.ensures c.as_slice-4.ensures.value

pub returns-in_err-start-clause-overflow : goal.returns-in_err-start-clause-overflow
returns-in_err-start-clause-overflow c =
    let small : length c.in_ok-whole.whole ≤ 16 = search rules in
    let judged = le-ltb 16 (length (lead_multiple c.args.a.now c.args.b.now)) (subst (λ (xs : List ℕ). length xs ≤ 16) c.in_ok-whole.ensures small) in
    let fits_b : FitsSigned w128 c.lead_coefficient.result = search rules in
    let fits_a : FitsSigned w128 c.lead_coefficient-2.result = search rules in
    let first = simp (to_z-of_z w128 c.lead_coefficient.result fits_b) at c.divided-first.ensures
    ∙ ap (divided_by c.lead_divisor-h.result) c.lead_coefficient.ensures.value in
    let second = simp (to_z-of_z w128 c.lead_coefficient-2.result fits_a) at c.divided-second.ensures
    ∙ ap (divided_by c.lead_divisor-h.result) c.lead_coefficient-2.ensures.value in
    let left = c.in_ok-left.ensures
    ∙ (λ i. quotient ((c.as_slice.ensures.value ∙ c.in_ok-whole.ensures) i) (c.lead_monomial.ensures.value i)) in
    let right = c.in_ok-right.ensures
    ∙ (λ i. quotient ((c.as_slice-2.ensures.value ∙ c.in_ok-whole.ensures) i) (c.lead_monomial-2.ensures.value i)) in
    let fits_first : FitsSigned w128 c.divided-first.result = search rules in
    let back_first = to_z-of_z w128 c.divided-first.result fits_first in
    let told = simp (back_first, c.as_slice-3.ensures.value, c.terms.ensures.value, c.new.ensures) at c.add_multiples.ensures.overflow in
    let leads : IsErrOf c.add_multiples.result Overflow → IsSPolynomial c.args.a.now c.args.b.now (Err Overflow) = λ e. record {
      divisor = c.lead_divisor-h.result;
      divisor_is = c.lead_divisor-h.ensures.divisor;
      answer_is = s-within c.args.a.now c.args.b.now c.lead_divisor-h.result c.divided-first.result c.divided-second.result
          c.in_ok-left.left c.in_ok-right.right judged first second left right
          ∙ ap (and_then (with_multiples true c.divided-second.result c.in_ok-right.right c.args.b.now)) (told e);
    } in search rules

pub returns-in_err-terms-clause-overflow : goal.returns-in_err-terms-clause-overflow
returns-in_err-terms-clause-overflow c =
    let small : length c.in_ok-whole.whole ≤ 16 = search rules in
    let judged = le-ltb 16 (length (lead_multiple c.args.a.now c.args.b.now)) (subst (λ (xs : List ℕ). length xs ≤ 16) c.in_ok-whole.ensures small) in
    let fits_b : FitsSigned w128 c.lead_coefficient.result = search rules in
    let fits_a : FitsSigned w128 c.lead_coefficient-2.result = search rules in
    let first = simp (to_z-of_z w128 c.lead_coefficient.result fits_b) at c.divided-first.ensures
    ∙ ap (divided_by c.lead_divisor-h.result) c.lead_coefficient.ensures.value in
    let second = simp (to_z-of_z w128 c.lead_coefficient-2.result fits_a) at c.divided-second.ensures
    ∙ ap (divided_by c.lead_divisor-h.result) c.lead_coefficient-2.ensures.value in
    let left = c.in_ok-left.ensures
    ∙ (λ i. quotient ((c.as_slice.ensures.value ∙ c.in_ok-whole.ensures) i) (c.lead_monomial.ensures.value i)) in
    let right = c.in_ok-right.ensures
    ∙ (λ i. quotient ((c.as_slice-2.ensures.value ∙ c.in_ok-whole.ensures) i) (c.lead_monomial-2.ensures.value i)) in
    let fits_first : FitsSigned w128 c.divided-first.result = search rules in
    let back_first = to_z-of_z w128 c.divided-first.result fits_first in
    let started = simp (back_first, c.as_slice-3.ensures.value, c.terms.ensures.value, c.new.ensures) at c.in_ok-start.ensures.ok in
    let fits_second : FitsSigned w128 c.divided-second.result = search rules in
    let back_second = to_z-of_z w128 c.divided-second.result fits_second in
    let told = simp (back_second, c.as_slice-4.ensures.value, c.terms-2.ensures.value) at c.add_multiples-2.ensures.overflow in
    let leads : IsErrOf c.add_multiples-2.result Overflow → IsSPolynomial c.args.a.now c.args.b.now (Err Overflow) = λ e. record {
      divisor = c.lead_divisor-h.result;
      divisor_is = c.lead_divisor-h.ensures.divisor;
      answer_is = s-within c.args.a.now c.args.b.now c.lead_divisor-h.result c.divided-first.result c.divided-second.result
          c.in_ok-left.left c.in_ok-right.right judged first second left right
          ∙ ap (and_then (with_multiples true c.divided-second.result c.in_ok-right.right c.args.b.now)) started ∙ told e;
    } in search rules

pub invariant_of-result : goal.invariant_of-result
invariant_of-result c =
    let small : length c.in_ok-whole.whole ≤ 16 = search rules in
    let judged = le-ltb 16 (length (lead_multiple c.args.a.now c.args.b.now)) (subst (λ (xs : List ℕ). length xs ≤ 16) c.in_ok-whole.ensures small) in
    let fits_b : FitsSigned w128 c.lead_coefficient.result = search rules in
    let fits_a : FitsSigned w128 c.lead_coefficient-2.result = search rules in
    let first = simp (to_z-of_z w128 c.lead_coefficient.result fits_b) at c.divided-first.ensures
    ∙ ap (divided_by c.lead_divisor-h.result) c.lead_coefficient.ensures.value in
    let second = simp (to_z-of_z w128 c.lead_coefficient-2.result fits_a) at c.divided-second.ensures
    ∙ ap (divided_by c.lead_divisor-h.result) c.lead_coefficient-2.ensures.value in
    let left = c.in_ok-left.ensures
    ∙ (λ i. quotient ((c.as_slice.ensures.value ∙ c.in_ok-whole.ensures) i) (c.lead_monomial.ensures.value i)) in
    let right = c.in_ok-right.ensures
    ∙ (λ i. quotient ((c.as_slice-2.ensures.value ∙ c.in_ok-whole.ensures) i) (c.lead_monomial-2.ensures.value i)) in
    let fits_first : FitsSigned w128 c.divided-first.result = search rules in
    let back_first = to_z-of_z w128 c.divided-first.result fits_first in
    let started = simp (back_first, c.as_slice-3.ensures.value, c.terms.ensures.value, c.new.ensures) at c.in_ok-start.ensures.ok in
    let fits_second : FitsSigned w128 c.divided-second.result = search rules in
    let back_second = to_z-of_z w128 c.divided-second.result fits_second in
    let told = simp (back_second, c.as_slice-4.ensures.value, c.terms-2.ensures.value) at c.in_ok-terms.ensures.ok in
    poly-s c.args.a.now c.args.b.now c.lead_divisor-h.result c.in_ok-terms.terms c.terms.ensures.keeps c.terms-2.ensures.keeps
    (s-within c.args.a.now c.args.b.now c.lead_divisor-h.result c.divided-first.result c.divided-second.result
    c.in_ok-left.left c.in_ok-right.right judged first second left right
    ∙ ap (and_then (with_multiples true c.divided-second.result c.in_ok-right.right c.args.b.now)) started ∙ told)

pub returns-clause-ok : goal.returns-clause-ok
returns-clause-ok c =
    let small : length c.in_ok-whole.whole ≤ 16 = search rules in
    let judged = le-ltb 16 (length (lead_multiple c.args.a.now c.args.b.now)) (subst (λ (xs : List ℕ). length xs ≤ 16) c.in_ok-whole.ensures small) in
    let fits_b : FitsSigned w128 c.lead_coefficient.result = search rules in
    let fits_a : FitsSigned w128 c.lead_coefficient-2.result = search rules in
    let first = simp (to_z-of_z w128 c.lead_coefficient.result fits_b) at c.divided-first.ensures
    ∙ ap (divided_by c.lead_divisor-h.result) c.lead_coefficient.ensures.value in
    let second = simp (to_z-of_z w128 c.lead_coefficient-2.result fits_a) at c.divided-second.ensures
    ∙ ap (divided_by c.lead_divisor-h.result) c.lead_coefficient-2.ensures.value in
    let left = c.in_ok-left.ensures
    ∙ (λ i. quotient ((c.as_slice.ensures.value ∙ c.in_ok-whole.ensures) i) (c.lead_monomial.ensures.value i)) in
    let right = c.in_ok-right.ensures
    ∙ (λ i. quotient ((c.as_slice-2.ensures.value ∙ c.in_ok-whole.ensures) i) (c.lead_monomial-2.ensures.value i)) in
    let fits_first : FitsSigned w128 c.divided-first.result = search rules in
    let back_first = to_z-of_z w128 c.divided-first.result fits_first in
    let started = simp (back_first, c.as_slice-3.ensures.value, c.terms.ensures.value, c.new.ensures) at c.in_ok-start.ensures.ok in
    let fits_second : FitsSigned w128 c.divided-second.result = search rules in
    let back_second = to_z-of_z w128 c.divided-second.result fits_second in
    let told = simp (back_second, c.as_slice-4.ensures.value, c.terms-2.ensures.value) at c.in_ok-terms.ensures.ok in
    record {
      divisor = c.lead_divisor-h.result;
      divisor_is = c.lead_divisor-h.ensures.divisor;
      answer_is = s-within c.args.a.now c.args.b.now c.lead_divisor-h.result c.divided-first.result c.divided-second.result
          c.in_ok-left.left c.in_ok-right.right judged first second left right
          ∙ ap (and_then (with_multiples true c.divided-second.result c.in_ok-right.right c.args.b.now)) started ∙ told;
    }
