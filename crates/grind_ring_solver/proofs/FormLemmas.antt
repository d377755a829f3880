-- Nothing reduces a normal form, which is its own; and where it joins the basis, it is reduced to 0 by itself.
use Rattle.std.proofs.Common.{◌≡◌, ◌≢◌, ℕ, zero, suc, ◌*◌, ◌/◌, ◌<◌, ◌≤◌, Bool, true, false, List, [], ◌∷◌, ◌++◌, ℤ, pos, negsuc, ◌+ℤ◌, ◌*ℤ◌, neg_ℤ, unsigned_abs, Option, Some, None, Result, Ok, arith, sym, ap, ◌∙◌, refl, subst}
use Rattle.std.proofs.lemmas.Bool.{cond-true, cond-false}
use Rattle.std.proofs.lemmas.Nat.Gcd.{dvd_refl, le_of_dvd}
use Rattle.std.proofs.lemmas.Option.{none-some}
use Rattle.std.proofs.lemmas.List.Elements.{All-head, All-tail}
use Rattle.std.proofs.Math.Nat.{div-mul_cancel}
use Rattle.std.specs.Int.{w128, ◌∣◌}
use Rattle.std.specs.Prelude.{FitsSigned}
use borrow.Author.Differences.{ints}
use Rattle.grind_monomials.specs.Monomials.{quotient}
use Rattle.grind_monomials.proofs.Clauses.{product-nil, quotient-nil, quotient-same}
use Rattle.grind_polynomials.specs.declared.poly.Term.{Term}
use Rattle.grind_polynomials.specs.declared.poly.PolyRefusal.{PolyRefusal}
use Rattle.grind_polynomials.specs.declared.poly.PolyRefusal.TheVariants.{Overflow}
use Rattle.grind_polynomials.specs.Polynomials.{term_of, IsPoly, fit_or_refuse}
use Rattle.grind_polynomials.specs.Sums.{and_then, signed, in_front, front, behind, with_multiple, with_multiples}
use Rattle.grind_polynomials.proofs.Fits.{fit_in, ok-err, same_Ok}
use Rattle.grind_polynomials.proofs.Putting.{more-same}
use Rattle.grind_polynomials.proofs.Products.{multiple-goes_on, multiples-nil, multiples-cons}
use Rattle.grind_normal_forms.specs.declared.reduction.Reduced.{Reduced}
use Rattle.grind_normal_forms.specs.Pairs.{divided_by, lead_monomial}
use Rattle.grind_normal_forms.specs.Reduction.{reduced_of, is_one, is_negative, reducer, target_of, target, unit, weight, scaled, rest_after, factor_after, terms_by, Steps, Reduces, irreducible, step, overflow}
use Rattle.grind_normal_forms.proofs.Descent.{place-itself}
use Rattle.grind_normal_forms.proofs.Divisors.{size-nonzero, divided-by_sign}
use Rattle.grind_normal_forms.proofs.NormalLemmas.{reduces-one}
use Rattle.grind_normal_forms.proofs.ReductionLemmas.{reducer-cons, reducer-here, target-here, target-later, target-none, scaled-nil, scaled-cons, rest-goes_on, factor-unit}
use Rattle.grind_arithmetic_rules.specs.PolyRules.{CoefficientsFit}
use Rattle.grind_ring_basis.specs.declared.types.Basis.{Basis}
use Rattle.grind_ring_basis.specs.declared.types.Fact.{Fact}
use Rattle.grind_ring_basis.specs.Bases.{HasNormalForm, ReducesToZero}
use Rattle.grind_ring_solver.specs.Given.{IsIrreducible}
use Rattle.grind_ring_solver.specs.Steps.{with_element}

-- ---- nothing reduces a normal form
ends : (elements : List (List Term)) (now : Reduced) (answer : Result Reduced PolyRefusal) (made : Reduced) → Reduces elements now answer
    → answer ≡ Ok made → target elements made.rest ≡ None
ends elements now answer made (irreducible none) e =
    subst (λ (r : Reduced). target elements r.rest ≡ None) (same_Ok answer now made refl e) none
ends elements now answer made (step {next = next} steps later) e = ends elements next answer made later e
ends elements now answer made (overflow breaks) e = absurd (ok-err answer made Overflow e refl)

-- the first of the terms has no reducer
first_free : (elements : List (List Term)) (t : Term) (ts : List Term) → target elements (t ∷ ts) ≡ None
    → (reducer elements t.monomial ≡ None) × (target elements ts ≡ None)
first_free elements t ts none = at_reducer (reducer elements t.monomial) refl
  where
    at_reducer : (r : Option (List Term)) → reducer elements t.monomial ≡ r
        → (reducer elements t.monomial ≡ None) × (target elements ts ≡ None)
    at_reducer None free = (free, sym (target-later elements t ts (t ∷ ts) refl free) ∙ none)
    at_reducer (Some b) some =
        absurd (none-some (target_of t b) (sym none ∙ target-here elements t ts (t ∷ ts) b refl some))

divided_free : (elements : List (List Term)) (content : ℕ) (terms : List Term) → target elements terms ≡ None
    → target elements (terms_by content terms) ≡ None
divided_free elements content [] none = none
divided_free elements content (t ∷ ts) none =
    let free = first_free elements t ts none in
    target-later elements (term_of (divided_by content t.coefficient) t.monomial) (terms_by content ts)
    (term_of (divided_by content t.coefficient) t.monomial ∷ terms_by content ts) refl free.0
    ∙ divided_free elements content ts free.1

pub irreducible_form : (basis : Basis) (p : List Term) (normal : Reduced) → HasNormalForm basis p normal → IsIrreducible basis normal.rest
irreducible_form basis p normal has =
    subst (λ (r : Reduced). target basis.elements r.rest ≡ None) (sym has.normal_is)
    (divided_free basis.elements has.content has.made.rest
    (ends basis.elements (reduced_of (pos 1) p) (Ok has.made) has.made has.made_is refl))

-- ---- what nothing reduces is its own normal form
by_one : (z : ℤ) → divided_by 1 z ≡ z
by_one (pos n) = let same : n / 1 ≡ n = omega arith in ap pos same
by_one (negsuc n) = let same : suc n / 1 ≡ suc n = omega arith in ap (λ (k : ℕ). neg_ℤ (pos k)) same

terms_by_one : (terms : List Term) → terms_by 1 terms ≡ terms
terms_by_one [] = refl
terms_by_one (t ∷ ts) = λ i. term_of (by_one t.coefficient i) t.monomial ∷ terms_by_one ts i

pub own_form : (basis : Basis) (p : List Term) (normal : Reduced) → IsIrreducible basis p → HasNormalForm basis p normal → normal.rest ≡ p
own_form basis p normal free has =
    let made : has.made ≡ reduced_of (pos 1) p =
    same_Ok (Ok has.made) has.made (reduced_of (pos 1) p) refl
    (reduces-one basis.elements (reduced_of (pos 1) p) (Ok has.made) (Ok (reduced_of (pos 1) p)) has.made_is (irreducible free)) in
    let divides : has.content ∣ 1 = subst (λ (r : Reduced). has.content ∣ unsigned_abs r.factor) made has.content_is.factor in
    let low : has.content ≤ 1 = le_of_dvd (omega arith) divides in
    let some : 0 < has.content = has.content_positive in
    let content : has.content ≡ 1 = omega arith in
    ap (λ (r : Reduced). r.rest) has.normal_is ∙ (λ i. terms_by (content i) (made i).rest) ∙ terms_by_one p

-- ---- a polynomial less itself
one_fits : fit_or_refuse (pos 1) ≡ Ok (pos 1)
one_fits = fit_in (pos 1) (record { sfits = omega arith })

zero_fits : fit_or_refuse (pos 0) ≡ Ok (pos 0)
zero_fits = fit_in (pos 0) (record { sfits = omega arith })

once : (z : ℤ) → pos 1 *ℤ z ≡ z
once z = omega (arith, ints)

nothing_left : (z : ℤ) → z +ℤ neg_ℤ z ≡ pos 0
nothing_left z = omega (arith, ints)

once_fits : (z : ℤ) → FitsSigned w128 z → fit_or_refuse (pos 1 *ℤ z) ≡ Ok z
once_fits z fits = ap fit_or_refuse (once z) ∙ fit_in z fits

scaled-once : (terms : List Term) → CoefficientsFit terms → scaled (pos 1) terms ≡ Ok terms
scaled-once [] fits = scaled-nil (pos 1)
scaled-once (t ∷ ts) fits =
    scaled-cons (pos 1) t ts
    ∙ ap (and_then (λ c. behind (term_of c t.monomial ∷ []) (scaled (pos 1) ts)))
    (once_fits t.coefficient (All-head (λ (term : Term). FitsSigned w128 term.coefficient) t ts fits))
    ∙ ap (behind (t ∷ [])) (scaled-once ts (All-tail (λ (term : Term). FitsSigned w128 term.coefficient) t ts fits))

taken_off : (t : Term) (ts : List Term) → FitsSigned w128 t.coefficient → with_multiple true (pos 1) [] t (t ∷ ts) ≡ Ok ts
taken_off t ts fits =
    multiple-goes_on true (pos 1) [] t (t ∷ ts) t.coefficient t.monomial (once_fits t.coefficient fits) (sym (product-nil t.monomial))
    ∙ more-same (neg_ℤ t.coefficient) t.monomial t ts (place-itself t.monomial)
    ∙ ap (λ (z : ℤ). front z t.monomial ts) (nothing_left t.coefficient)
    ∙ ap (and_then (λ number. Ok (in_front number t.monomial ts))) zero_fits

all_taken_off : (terms : List Term) → CoefficientsFit terms → with_multiples true (pos 1) [] terms terms ≡ Ok []
all_taken_off [] fits = multiples-nil true (pos 1) [] []
all_taken_off (t ∷ ts) fits =
    multiples-cons true (pos 1) [] t ts (t ∷ ts)
    ∙ ap (and_then (with_multiples true (pos 1) [] ts))
    (taken_off t ts (All-head (λ (term : Term). FitsSigned w128 term.coefficient) t ts fits))
    ∙ all_taken_off ts (All-tail (λ (term : Term). FitsSigned w128 term.coefficient) t ts fits)

-- ---- one step, by itself
only_one : (q n : ℕ) → q * n ≡ n → (n ≡ 0 → ⊥) → q ≡ 1
only_one zero n e some = absurd (some (omega arith))
only_one (suc zero) n e some = refl
only_one (suc (suc k)) n e some = absurd (some (twice k n e))
  where
    twice : (k n : ℕ) → suc (suc k) * n ≡ n → n ≡ 0
    twice k n e = omega arith

by_itself : (n : ℕ) → (n ≡ 0 → ⊥) → n / n ≡ 1
by_itself n some = only_one (n / n) n (div-mul_cancel n (dvd_refl n)) some

signed_back : (minus : Bool) (z : ℤ) → signed minus (signed minus z) ≡ z
signed_back false z = refl
signed_back true z = omega (arith, ints)

quotient-itself : (m : List ℕ) → quotient m m ≡ []
quotient-itself [] = quotient-nil []
quotient-itself (x ∷ xs) = quotient-same x x xs xs (omega arith) (omega arith) ∙ quotient-itself xs

reducer-last : (elements : List (List Term)) (b : List Term) (m : List ℕ) → reducer elements m ≡ None → quotient (lead_monomial b) m ≡ []
    → reducer (elements ++ b ∷ []) m ≡ Some b
reducer-last [] b m none divides = reducer-here b [] (b ∷ []) m refl divides
reducer-last (x ∷ xs) b m none divides = at_test (is_one (quotient (lead_monomial x) m)) refl (reducer-last xs b m)
  where
    at_test : (t : Bool) → is_one (quotient (lead_monomial x) m) ≡ t
        → (reducer xs m ≡ None → quotient (lead_monomial b) m ≡ [] → reducer (xs ++ b ∷ []) m ≡ Some b)
        → reducer (x ∷ xs ++ b ∷ []) m ≡ Some b
    at_test true here later =
        absurd (none-some x (sym none ∙ reducer-cons x xs m ∙ cond-true (is_one (quotient (lead_monomial x) m)) _ _ here))
    at_test false elsewhere later =
        reducer-cons x (xs ++ b ∷ []) m ∙ cond-false (is_one (quotient (lead_monomial x) m)) _ _ elsewhere
        ∙ later (sym (reducer-cons x xs m ∙ cond-false (is_one (quotient (lead_monomial x) m)) _ _ elsewhere) ∙ none) divides

module _ (elements : List (List Term)) (t : Term) (ts : List Term) (some : t.coefficient ≢ pos 0) (fits : CoefficientsFit (t ∷ ts))
    (free : reducer elements t.monomial ≡ None) where
  unit_is : unit (target_of t (t ∷ ts)) (unsigned_abs t.coefficient) ≡ pos 1
  unit_is = ap pos (by_itself (unsigned_abs t.coefficient) (size-nonzero t.coefficient some))

  weight_is : weight (target_of t (t ∷ ts)) (unsigned_abs t.coefficient) ≡ pos 1
  weight_is =
      ap (signed (is_negative t.coefficient)) (divided-by_sign (unsigned_abs t.coefficient) t.coefficient)
      ∙ signed_back (is_negative t.coefficient) (pos (unsigned_abs t.coefficient / unsigned_abs t.coefficient))
      ∙ ap pos (by_itself (unsigned_abs t.coefficient) (size-nonzero t.coefficient some))

  unit_fits : fit_or_refuse (unit (target_of t (t ∷ ts)) (unsigned_abs t.coefficient)) ≡ Ok (pos 1)
  unit_fits = ap fit_or_refuse unit_is ∙ one_fits

  rest_gone : rest_after (target_of t (t ∷ ts)) (unsigned_abs t.coefficient) (t ∷ ts) ≡ Ok []
  rest_gone =
      rest-goes_on (target_of t (t ∷ ts)) (unsigned_abs t.coefficient) (t ∷ ts) (pos 1) (pos 1) [] unit_fits
      (ap fit_or_refuse weight_is ∙ one_fits) (sym (quotient-itself t.monomial))
      ∙ ap (and_then (with_multiples true (pos 1) [] (t ∷ ts))) (scaled-once (t ∷ ts) fits)
      ∙ all_taken_off (t ∷ ts) fits

  factor_kept : factor_after (target_of t (t ∷ ts)) (unsigned_abs t.coefficient) (pos 1) ≡ Ok (pos 1)
  factor_kept =
      factor-unit (target_of t (t ∷ ts)) (unsigned_abs t.coefficient) (pos 1) (pos 1) unit_fits
      ∙ ap fit_or_refuse (once (pos 1)) ∙ one_fits

  one_step : Steps (elements ++ (t ∷ ts) ∷ []) (reduced_of (pos 1) (t ∷ ts)) (reduced_of (pos 1) [])
  one_step = record {
    found = target_of t (t ∷ ts);
    found_is =
        target-here (elements ++ (t ∷ ts) ∷ []) t ts (t ∷ ts) (t ∷ ts) refl
        (reducer-last elements (t ∷ ts) t.monomial free (quotient-itself t.monomial));
    step_is = record {
      divisor = unsigned_abs t.coefficient;
      divisor_is = (dvd_refl (unsigned_abs t.coefficient), dvd_refl (unsigned_abs t.coefficient), λ d one two. one);
      rest_is = rest_gone;
      factor_is = factor_kept;
    };
  }

-- an element that nothing before it reduces is reduced to 0 by itself
pub zero_by_itself : (basis : Basis) (it : Fact) → it.poly ≢ [] → IsPoly it.poly → CoefficientsFit it.poly → IsIrreducible basis it.poly
    → ReducesToZero (with_element basis it) it.poly
zero_by_itself basis it some poly fits free = by_terms it.poly refl
  where
    by_terms : (terms : List Term) → it.poly ≡ terms → ReducesToZero (with_element basis it) it.poly
    by_terms [] is = absurd (some is)
    by_terms (t ∷ ts) is =
        let opened : IsPoly (t ∷ ts) = subst IsPoly is poly in
        let first = first_free basis.elements t ts (subst (λ (p : List Term). target basis.elements p ≡ None) is free) in
        let way : Reduces (basis.elements ++ (t ∷ ts) ∷ []) (reduced_of (pos 1) (t ∷ ts)) (Ok (reduced_of (pos 1) [])) =
        step (one_step basis.elements t ts opened.1 (subst CoefficientsFit is fits) first.0)
        (irreducible (target-none (basis.elements ++ (t ∷ ts) ∷ []) [] refl)) in record {
          made = reduced_of (pos 1) [];
          content = 1;
          made_is =
              subst (λ (p : List Term). Reduces (basis.elements ++ p ∷ []) (reduced_of (pos 1) p) (Ok (reduced_of (pos 1) []))) (sym is) way;
          content_is = record {
            factor = dvd_refl 1;
            rest = tt;
            greatest = λ d one two. one;
          };
          content_positive = omega arith;
          normal_is = refl;
        }
