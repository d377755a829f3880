-- The steps of a reduction, clause by clause, and that they keep polynomials.
use Rattle.std.proofs.Common.{◌≡◌, ◌≢◌, cond, ℕ, true, false, List, [], ◌∷◌, ◌++◌, length, ℤ, pos, ◌*ℤ◌, unsigned_abs, Option, Some, None, Result, Ok, Err, arith, sym, ap, ◌∙◌, refl, subst}
use Rattle.std.proofs.lemmas.Bool.{cond-true, cond-false}
use Rattle.grind_lemmas.proofs.Orders.{int_mul-zero_out}
use Rattle.grind_monomials.specs.Monomials.{IsMonomial, quotient}
use Rattle.grind_monomials.proofs.CountLemmas.{rises-quotient}
use Rattle.grind_polynomials.specs.declared.poly.Term.{Term}
use Rattle.grind_polynomials.specs.declared.poly.PolyRefusal.{PolyRefusal}
use Rattle.grind_polynomials.specs.Polynomials.{term_of, StartsBelow, IsPoly, fit_or_refuse}
use Rattle.grind_polynomials.specs.Sums.{and_then, behind, with_multiples}
use Rattle.grind_normal_forms.specs.Pairs.{lead_coefficient, lead_monomial}
use Rattle.grind_normal_forms.specs.Reduction.{is_one, reducer, Target, target_of, target_or, target, unit, weight, scaled, rest_after, factor_after, IsTargetGcd}
use Rattle.grind_polynomials.proofs.Fits.{fit_is, same_Ok}
use Rattle.grind_polynomials.proofs.Putting.{behind-step}
use Rattle.grind_polynomials.proofs.Falling.{made_of, behind-made, poly-multiples}
use Rattle.grind_normal_forms.proofs.Divisors.{size-nonzero, quotient-nonzero}
use Rattle.grind_normal_forms.proofs.PairLemmas.{nonzero-lead}

-- ---- which element reduces a monomial
pub one-is : (xs : List ℕ) → xs ≡ [] → is_one xs ≡ true
one-is xs e = ap is_one e

pub one-not : (xs : List ℕ) → (xs ≡ [] → ⊥) → is_one xs ≡ false
one-not [] e = absurd (e refl)
one-not (x ∷ xs) e = refl

pub one-empty : (xs : List ℕ) → is_one xs ≡ true → xs ≡ []
one-empty [] e = refl
one-empty (x ∷ xs) e = absurd cc

pub reducer-cons : (b : List Term) (bs : List (List Term)) (m : List ℕ)
    → reducer (b ∷ bs) m ≡ cond (is_one (quotient (lead_monomial b) m)) (Some b) (reducer bs m)
unfolding reducer
reducer-cons b bs m = refl

pub reducer-here : (b : List Term) (bs basis : List (List Term)) (m : List ℕ) → basis ≡ b ∷ bs → quotient (lead_monomial b) m ≡ []
    → reducer basis m ≡ Some b
reducer-here b bs basis m is e =
    ap (λ (all : List (List Term)). reducer all m) is ∙ reducer-cons b bs m
    ∙ cond-true (is_one (quotient (lead_monomial b) m)) _ _ (one-is (quotient (lead_monomial b) m) e)

pub reducer-later : (b : List Term) (bs basis : List (List Term)) (m : List ℕ) → basis ≡ b ∷ bs → (quotient (lead_monomial b) m ≡ [] → ⊥)
    → reducer basis m ≡ reducer bs m
reducer-later b bs basis m is e =
    ap (λ (all : List (List Term)). reducer all m) is ∙ reducer-cons b bs m
    ∙ cond-false (is_one (quotient (lead_monomial b) m)) _ _ (one-not (quotient (lead_monomial b) m) e)

pub reducer-none : (basis : List (List Term)) (m : List ℕ) → length basis ≡ 0 → reducer basis m ≡ None
unfolding reducer
reducer-none [] m e = refl
reducer-none (b ∷ bs) m e = absurd (omega arith)

-- ---- which term is reduced
target-cons : (basis : List (List Term)) (t : Term) (ts : List Term)
    → target basis (t ∷ ts) ≡ target_or t (reducer basis t.monomial) (target basis ts)
unfolding target
target-cons basis t ts = refl

pub target-here : (basis : List (List Term)) (t : Term) (ts terms : List Term) (b : List Term) → terms ≡ t ∷ ts
    → reducer basis t.monomial ≡ Some b → target basis terms ≡ Some (target_of t b)
target-here basis t ts terms b is e =
    ap (target basis) is ∙ target-cons basis t ts ∙ ap (λ (r : Option (List Term)). target_or t r (target basis ts)) e

pub target-later : (basis : List (List Term)) (t : Term) (ts terms : List Term) → terms ≡ t ∷ ts
    → reducer basis t.monomial ≡ None → target basis terms ≡ target basis ts
target-later basis t ts terms is e =
    ap (target basis) is ∙ target-cons basis t ts ∙ ap (λ (r : Option (List Term)). target_or t r (target basis ts)) e

pub target-none : (basis : List (List Term)) (terms : List Term) → length terms ≡ 0 → target basis terms ≡ None
unfolding target
target-none basis [] e = refl
target-none basis (t ∷ ts) e = absurd (omega arith)

-- ---- terms, each taken so often
pub scaled-nil : (u : ℤ) → scaled u [] ≡ Ok []
unfolding scaled
scaled-nil u = refl

pub scaled-cons : (u : ℤ) (t : Term) (ts : List Term) → scaled u (t ∷ ts)
    ≡ and_then (λ c. behind (term_of c t.monomial ∷ []) (scaled u ts)) (fit_or_refuse (u *ℤ t.coefficient))
unfolding scaled
scaled-cons u t ts = refl

module _ (u : ℤ) (whole : Result (List Term) PolyRefusal) (done terms : List Term) (t : Term) (ts : List Term)
    (is : terms ≡ t ∷ ts) (so_far : behind done (scaled u terms) ≡ whole) where
  pub scale_fails : (e : PolyRefusal) → fit_or_refuse (u *ℤ t.coefficient) ≡ Err e → whole ≡ Err e
  scale_fails e f =
      sym so_far ∙ ap (λ (all : List Term). behind done (scaled u all)) is ∙ ap (behind done) (scaled-cons u t ts)
      ∙ ap (λ (r : Result ℤ PolyRefusal). behind done (and_then (λ c. behind (term_of c t.monomial ∷ []) (scaled u ts)) r)) f

  pub scale_step : (c : ℤ) (new : List Term) → fit_or_refuse (u *ℤ t.coefficient) ≡ Ok c → new ≡ done ++ term_of c t.monomial ∷ []
      → behind new (scaled u ts) ≡ whole
  scale_step c new f e =
      ap (λ (all : List Term). behind all (scaled u ts)) e
      ∙ sym (behind-step done (term_of c t.monomial) (scaled u ts))
      ∙ sym (ap (λ (r : Result ℤ PolyRefusal). behind done (and_then (λ c. behind (term_of c t.monomial ∷ []) (scaled u ts)) r)) f)
      ∙ ap (behind done) (sym (scaled-cons u t ts)) ∙ ap (λ (all : List Term). behind done (scaled u all)) (sym is) ∙ so_far

pub scale_end : (u : ℤ) (whole : Result (List Term) PolyRefusal) (done terms : List Term) → length terms ≡ 0
    → behind done (scaled u terms) ≡ whole → done ++ [] ≡ done → whole ≡ Ok done
scale_end u whole done [] e so_far same =
    sym so_far ∙ ap (behind done) (scaled-nil u) ∙ ap (λ (all : List Term). Ok all) same
scale_end u whole done (t ∷ ts) e so_far same = absurd (omega arith)

-- what stands in front of scaled terms
pub scaled-made : (u : ℤ) (t : Term) (ts all : List Term) → scaled u (t ∷ ts) ≡ Ok all
    → (c : ℤ) × (later : List Term) × (c ≡ u *ℤ t.coefficient) × (scaled u ts ≡ Ok later) × (term_of c t.monomial ∷ later ≡ all)
scaled-made u t ts all e =
    let w = made_of (λ c. behind (term_of c t.monomial ∷ []) (scaled u ts)) (fit_or_refuse (u *ℤ t.coefficient)) all (sym (scaled-cons u t ts) ∙ e) in
    let b = behind-made (term_of w.0 t.monomial ∷ []) (scaled u ts) all w.2 in
    (w.0, b.0, fit_is (u *ℤ t.coefficient) w.0 w.1, b.1, b.2)

record ScaledKeeps (terms all : List Term) : Type 0 where
  poly : IsPoly all
  starts : (top : List ℕ) → StartsBelow top terms → StartsBelow top all

scaled-keeps : (u : ℤ) (terms all : List Term) → u ≢ pos 0 → IsPoly terms → scaled u terms ≡ Ok all → ScaledKeeps terms all
scaled-keeps u [] all some poly e =
    let none : [] ≡ all = same_Ok (scaled u []) [] all (scaled-nil u) e in record {
      poly = subst IsPoly none tt;
      starts = λ top starts. subst (StartsBelow top) none tt;
    }
scaled-keeps u (t ∷ ts) all some poly e =
    let w = scaled-made u t ts all e in
    let later = scaled-keeps u ts w.1 some poly.3 w.3 in record {
      poly = subst IsPoly w.4
          (poly.0, (λ none. poly.1 (int_mul-zero_out u t.coefficient (sym w.2 ∙ none) some)), later.starts t.monomial poly.2, later.poly);
      starts = λ top starts. subst (StartsBelow top) w.4 starts;
    }

pub poly-scaled : (u : ℤ) (terms all : List Term) → u ≢ pos 0 → IsPoly terms → scaled u terms ≡ Ok all → IsPoly all
poly-scaled u terms all some poly e = (scaled-keeps u terms all some poly e).poly

-- ---- a step
module _ (found : Target) (h : ℕ) (rest : List Term) where
  pub rest-unit : (e : PolyRefusal) → fit_or_refuse (unit found h) ≡ Err e → rest_after found h rest ≡ Err e
  unfolding rest_after
  rest-unit e over =
      ap (and_then (λ u. and_then (λ w. and_then
      (with_multiples true w (quotient found.term.monomial (lead_monomial found.element)) found.element) (scaled u rest))
      (fit_or_refuse (weight found h)))) over

  rest-opened : (u : ℤ) → fit_or_refuse (unit found h) ≡ Ok u → rest_after found h rest ≡ and_then (λ w. and_then
      (with_multiples true w (quotient found.term.monomial (lead_monomial found.element)) found.element) (scaled u rest))
      (fit_or_refuse (weight found h))
  unfolding rest_after
  rest-opened u e =
      ap (and_then (λ u. and_then (λ w. and_then
      (with_multiples true w (quotient found.term.monomial (lead_monomial found.element)) found.element) (scaled u rest))
      (fit_or_refuse (weight found h)))) e

  pub rest-weight : (u : ℤ) (e : PolyRefusal) → fit_or_refuse (unit found h) ≡ Ok u → fit_or_refuse (weight found h) ≡ Err e → rest_after found h rest ≡ Err e
  rest-weight u e one over =
      rest-opened u one
      ∙ ap (and_then (λ w. and_then
      (with_multiples true w (quotient found.term.monomial (lead_monomial found.element)) found.element) (scaled u rest))) over

  pub rest-goes_on : (u w : ℤ) (more : List ℕ) → fit_or_refuse (unit found h) ≡ Ok u → fit_or_refuse (weight found h) ≡ Ok w
      → more ≡ quotient found.term.monomial (lead_monomial found.element)
      → rest_after found h rest ≡ and_then (with_multiples true w more found.element) (scaled u rest)
  rest-goes_on u w more one two is =
      rest-opened u one
      ∙ ap (and_then (λ w. and_then
      (with_multiples true w (quotient found.term.monomial (lead_monomial found.element)) found.element) (scaled u rest))) two
      ∙ ap (λ (monomial : List ℕ). and_then (with_multiples true w monomial found.element) (scaled u rest)) (sym is)

pub factor-unit : (found : Target) (h : ℕ) (factor u : ℤ) → fit_or_refuse (unit found h) ≡ Ok u → factor_after found h factor ≡ fit_or_refuse (u *ℤ factor)
unfolding factor_after
factor-unit found h factor u e = ap (and_then (λ u. fit_or_refuse (u *ℤ factor))) e

-- what a step is made of
pub rest-made : (found : Target) (h : ℕ) (rest next : List Term) → rest_after found h rest ≡ Ok next
    → (u : ℤ) × (w : ℤ) × (start : List Term) × (u ≡ unit found h) × (w ≡ weight found h) × (scaled u rest ≡ Ok start)
    × (with_multiples true w (quotient found.term.monomial (lead_monomial found.element)) found.element start ≡ Ok next)
unfolding rest_after
rest-made found h rest next e =
    let one = made_of (λ u. and_then (λ w. and_then
    (with_multiples true w (quotient found.term.monomial (lead_monomial found.element)) found.element) (scaled u rest))
    (fit_or_refuse (weight found h))) (fit_or_refuse (unit found h)) next e in
    let two = made_of (λ w. and_then
    (with_multiples true w (quotient found.term.monomial (lead_monomial found.element)) found.element) (scaled one.0 rest))
    (fit_or_refuse (weight found h)) next one.2 in
    let three = made_of (with_multiples true two.0 (quotient found.term.monomial (lead_monomial found.element)) found.element)
    (scaled one.0 rest) next two.2 in
    (one.0, two.0, three.0, fit_is (unit found h) one.0 one.1, fit_is (weight found h) two.0 two.1, three.1, three.2)

pub unit-nonzero : (found : Target) (h : ℕ) → IsTargetGcd found h → IsPoly found.element → found.element ≢ [] → unit found h ≢ pos 0
unit-nonzero found h gcd poly some e =
    quotient-nonzero (unsigned_abs (lead_coefficient found.element)) h gcd.0
    (size-nonzero (lead_coefficient found.element) (nonzero-lead found.element poly some)) (natural e)
  where
    natural : {n : ℕ} → pos n ≡ pos 0 → n ≡ 0
    natural e = cc

pub poly-rest : (found : Target) (h : ℕ) (rest next : List Term) → IsTargetGcd found h → IsPoly found.element → found.element ≢ []
    → IsMonomial found.term.monomial → IsPoly rest → rest_after found h rest ≡ Ok next → IsPoly next
poly-rest found h rest next gcd element some mono poly e =
    let w = rest-made found h rest next e in
    poly-multiples true w.1 (quotient found.term.monomial (lead_monomial found.element)) found.element w.2 next
    (rises-quotient found.term.monomial (lead_monomial found.element) 0 mono) element
    (scaled-keeps w.0 rest w.2 (λ none. unit-nonzero found h gcd element some (sym w.3 ∙ none)) poly w.5).poly w.6
