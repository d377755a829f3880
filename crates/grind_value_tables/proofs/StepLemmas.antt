-- Numbers of 128 bits worked out step by step, and that what they come to is the value.
use Rattle.std.proofs.Common.{◌≡◌, ◌↔◌, ℕ, suc, ◌-◌, ◌^◌, Bool, true, false, cond, ltb, List, [], ◌∷◌, length, All, ℤ, pos, negsuc, ◌+ℤ◌, ◌*ℤ◌, ◌≤ℤ◌, FitsSigned, Option, Some, None, SomeIff, IsTrue, nat_eq, of_z, arith, sym, ap, ◌∙◌, subst, refl}
use Rattle.std.specs.Option.{option_and_then}
use Rattle.std.specs.Int.{w128}
use borrow.Author.Differences.{ints}
use lib.Signed.{le_z}
use Rattle.std.proofs.lemmas.Bool.{cond-true, cond-false, lt-ltb, ltb-true, false_from_ne_true, eqb-true, eq-eqb}
use Rattle.std.proofs.lemmas.List.Elements.{All-tail}
use Rattle.std.proofs.lemmas.Option.{none-some, same_Some}
use Rattle.grind_lemmas.proofs.Rings.{linear, int_mul-assoc}
use Rattle.grind_monomials.proofs.ValueLemmas.{unit_right}
use Rattle.grind_monomials.specs.Counts.{monomial_value}
use Rattle.grind_linear_forms.specs.declared.form.Part.{Part}
use Rattle.grind_linear_forms.specs.Forms.{FormData, fit}
use Rattle.grind_linear_forms.specs.Values.{parts_value, form_value}
use Rattle.grind_polynomials.specs.declared.poly.Term.{Term}
use Rattle.grind_polynomials.specs.Values.{poly_value}
use Rattle.grind_value_tables.proofs.Meanings.{chained}
use Rattle.grind_value_tables.specs.Evaluations.{along, times_node, with_part, form_sum, term_product, with_term, poly_sum}

-- a number that fits is answered
fit_in : (z : ℤ) → FitsSigned w128 z → fit z ≡ Some z
unfolding fit
fit_in (pos n) f = cond-true (ltb n (2 ^ 127)) (Some (pos n)) None (lt-ltb n (2 ^ 127) f.sfits)
fit_in (negsuc n) f = cond-true (ltb n (2 ^ 127)) (Some (negsuc n)) None (lt-ltb n (2 ^ 127) f.sfits)

-- and no other
fit_out : (z : ℤ) → (FitsSigned w128 z → ⊥) → fit z ≡ None
unfolding fit
fit_out (pos n) f = cond-false (ltb n (2 ^ 127)) (Some (pos n)) None
    (false_from_ne_true (ltb n (2 ^ 127)) (λ e. f (record { sfits = ltb-true n (2 ^ 127) e })))
fit_out (negsuc n) f = cond-false (ltb n (2 ^ 127)) (Some (negsuc n)) None
    (false_from_ne_true (ltb n (2 ^ 127)) (λ e. f (record { sfits = ltb-true n (2 ^ 127) e })))

chosen : (b : Bool) (z y : ℤ) → cond b (Some z) None ≡ Some y → y ≡ z
chosen true z y e = sym (same_Some z y e)
chosen false z y e = absurd (none-some y e)

-- what is answered is the number
fit_is : (z y : ℤ) → fit z ≡ Some y → y ≡ z
unfolding fit
fit_is (pos n) y e = chosen (ltb n (2 ^ 127)) (pos n) y e
fit_is (negsuc n) y e = chosen (ltb n (2 ^ 127)) (negsuc n) y e

-- a checked operation answers as `fit` says
pub fit_from : (r : Option ℤ) (z : ℤ) → SomeIff r (FitsSigned w128 z) z → r ≡ fit z
fit_from None z h = sym (fit_out z h)
fit_from (Some x) z h = ap (λ (y : ℤ). Some y) h.1 ∙ sym (fit_in z h.0)

-- a step along a list that is defined, one that is not, and the end
module _ {X : Type 0} (step : ℤ → X → Option ℤ) (number : ℤ) (rest xs : List X) (x : X) (is : rest ≡ x ∷ xs) where
  pub along_more : (next : ℤ) → step number x ≡ Some next → along step number rest ≡ along step next xs
  along_more next e = rw is (rw e refl)

  pub along_none : step number x ≡ None → along step number rest ≡ None
  along_none e = rw is (rw e refl)

-- a step in a loop: what is left comes to the same
pub along_step : {X : Type 0} (P : X → Type 0) (step : ℤ → X → Option ℤ) (number next : ℤ) (rest xs : List X) (x : X) (whole : Option ℤ)
    → rest ≡ x ∷ xs → step number x ≡ Some next → All P rest × (along step number rest ≡ whole)
    → All P xs × (along step next xs ≡ whole)
along_step P step number next rest xs x whole is e so_far = (
  All-tail P x xs (subst (All P) is so_far.0),
  sym (along_more step number rest xs x is next e) ∙ so_far.1,
)

pub along_end : {X : Type 0} (step : ℤ → X → Option ℤ) (number : ℤ) (rest : List X) → length rest ≡ 0
    → along step number rest ≡ Some number
along_end step number [] e = refl
along_end step number (x ∷ xs) e = absurd (omega arith)

-- a product that is there, and a sum of it
pub summed : (r first : Option ℤ) (sum product : ℤ) → first ≡ Some product → r ≡ fit (sum +ℤ product)
    → r ≡ option_and_then (λ p. fit (sum +ℤ p)) first
summed r first sum product e h = h ∙ sym (ap (option_and_then (λ p. fit (sum +ℤ p))) e)

-- where the product does not fit there is no sum
pub no_sum : (first : Option ℤ) (sum : ℤ) → first ≡ None → None ≡ option_and_then (λ p. fit (sum +ℤ p)) first
no_sum first sum e = sym (ap (option_and_then (λ p. fit (sum +ℤ p))) e)

module _ (v : ℕ → ℤ) where
  -- a number and nodes come to the number times the value of the nodes
  nodes_value : (nodes : List ℕ) (number product : ℤ) → along (times_node v) number nodes ≡ Some product
      → product ≡ number *ℤ monomial_value v nodes
  nodes_value [] number product e = sym (same_Some number product e) ∙ sym (unit_right number)
  nodes_value (n ∷ nodes) number product e =
      let w = chained (λ next. along (times_node v) next nodes) (times_node v number n) product e in
      nodes_value nodes w.0 product w.2 ∙ ap (λ (z : ℤ). z *ℤ monomial_value v nodes) (fit_is (number *ℤ v n) w.0 w.1)
      ∙ int_mul-assoc number (v n) (monomial_value v nodes)

  -- a number and parts of a form come to the number and the value of the parts
  parts_sum : (parts : List Part) (number sum : ℤ) → along (with_part v) number parts ≡ Some sum → sum ≡ number +ℤ parts_value v parts
  parts_sum [] number sum e = let same = same_Some number sum e in omega (arith, linear)
  parts_sum (part ∷ parts) number sum e =
      let w = chained (λ next. along (with_part v) next parts) (with_part v number part) sum e in
      let p = chained (λ product. fit (number +ℤ product)) (times_node v part.coefficient part.node) w.0 w.1 in
      let product = fit_is (part.coefficient *ℤ v part.node) p.0 p.1 in
      let next = fit_is (number +ℤ p.0) w.0 p.2 in
      let rest = parts_sum parts w.0 sum w.2 in omega (arith, linear)

  -- a number and terms of a polynomial come to the number and the value of the terms
  terms_sum : (poly : List Term) (number sum : ℤ) → along (with_term v) number poly ≡ Some sum → sum ≡ number +ℤ poly_value v poly
  terms_sum [] number sum e = let same = same_Some number sum e in omega (arith, linear)
  terms_sum (term ∷ poly) number sum e =
      let w = chained (λ next. along (with_term v) next poly) (with_term v number term) sum e in
      let p = chained (λ product. fit (number +ℤ product)) (term_product v term) w.0 w.1 in
      let product = nodes_value term.monomial term.coefficient p.0 p.1 in
      let next = fit_is (number +ℤ p.0) w.0 p.2 in
      let rest = terms_sum poly w.0 sum w.2 in omega (arith, linear)

  -- what a form comes to is its value
  pub form_sum_is : (form : FormData) (sum : ℤ) → form_sum v form ≡ Some sum → sum ≡ form_value v form
  form_sum_is form sum e = let whole = parts_sum form.parts form.constant sum e in omega (arith, linear)

  -- and so it is with a polynomial
  pub poly_sum_is : (poly : List Term) (sum : ℤ) → poly_sum v poly ≡ Some sum → sum ≡ poly_value v poly
  poly_sum_is poly sum e = let whole = terms_sum poly (pos 0) sum e in omega (arith, linear)

-- a test of what is worked out is a test of the value
pub at_most_by : (sum value : ℤ) → sum ≡ value → IsTrue (le_z sum (pos 0)) ↔ (value ≤ℤ pos 0)
at_most_by sum value e = (λ h. grind (arith, ints), λ h. grind (arith, ints))

-- only the number 0 has no bit
no_bits : (z : ℤ) → FitsSigned w128 z → IsTrue (nat_eq (of_z w128 z) 0) ↔ (z ≡ pos 0)
no_bits (pos n) f = (λ e. ap pos (eqb-true n 0 e), λ e. eq-eqb n 0 (none n e))
  where
    none : (n : ℕ) → pos n ≡ pos 0 → n ≡ 0
    none n e = cc
no_bits (negsuc n) f = (
  λ e. let size = f.sfits in absurd (omega (arith, eqb-true (2 ^ 128 - suc n) 0 e)),
  λ e. absurd cc,
)

pub is_zero_by : (sum value : ℤ) → FitsSigned w128 sum → sum ≡ value → IsTrue (nat_eq (of_z w128 sum) 0) ↔ (value ≡ pos 0)
is_zero_by sum value fits e =
    let bits = no_bits sum fits in (λ h. sym e ∙ bits.0 h, λ h. bits.1 (e ∙ h))
