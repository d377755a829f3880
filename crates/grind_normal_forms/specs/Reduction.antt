-- The reduction of a polynomial by others.
use Rattle.std.specs.Prelude.{◌≡◌, ◌⊎◌, ℕ, ◌/◌, ◌<◌, List, [], ◌∷◌, Option, Some, None, Result, Ok, Err, Bool, true, false, if◌then◌else◌, ℤ, pos, negsuc, ◌*ℤ◌, unsigned_abs, ⊤}
use Rattle.std.specs.Int.{IsGcd, ◌∣◌}
use Rattle.grind_monomials.specs.Monomials.{quotient}
use Rattle.grind_polynomials.specs.declared.poly.Term.{Term}
use Rattle.grind_polynomials.specs.declared.poly.PolyRefusal.{PolyRefusal}
use Rattle.grind_polynomials.specs.declared.poly.PolyRefusal.TheVariants.{Overflow}
use Rattle.grind_normal_forms.specs.declared.reduction.Reduced.{Reduced}
use Rattle.grind_polynomials.specs.Polynomials.{term_of, fit_or_refuse}
use Rattle.grind_polynomials.specs.Sums.{and_then, signed, behind, with_multiples}
use Rattle.grind_normal_forms.specs.Pairs.{divided_by, lead_coefficient, lead_monomial}

-- the factor with the rest
abbrev pub reduced_of : ℤ → List Term → Reduced
reduced_of factor rest = record { factor = factor; rest = rest }

-- there are no nodes
abbrev pub is_one : List ℕ → Bool
is_one [] = true
is_one (x ∷ xs) = false

-- the first basis element whose leading monomial divides the monomial
unfoldable pub reducer : List (List Term) → List ℕ → Option (List Term)
reducer [] monomial = None
reducer (b ∷ bs) monomial = if is_one (quotient (lead_monomial b) monomial) then Some b else reducer bs monomial

-- a term, and the basis element by which it is reduced
pub record Target : Type 0 where
  pub term : Term
  pub element : List Term

abbrev pub target_of : Term → List Term → Target
target_of term element = record { term = term; element = element }

-- the term, if there is an element that reduces it, else what is found later
abbrev pub target_or : Term → Option (List Term) → Option Target → Option Target
target_or term None later = later
target_or term (Some element) later = Some (target_of term element)

-- the first of the terms, which has the greatest monomial, that some basis element reduces, and the first such element
unfoldable pub target : List (List Term) → List Term → Option Target
target basis [] = None
target basis (term ∷ rest) = target_or term (reducer basis term.monomial) (target basis rest)

-- h is the greatest common divisor of the element's leading coefficient and the term's coefficient
abbrev pub IsTargetGcd : Target → ℕ → Type 0
IsTargetGcd found h = IsGcd (unsigned_abs (lead_coefficient found.element)) (unsigned_abs found.term.coefficient) h

abbrev pub is_negative : ℤ → Bool
is_negative (pos n) = false
is_negative (negsuc n) = true

-- what the rest is multiplied by
abbrev pub unit : Target → ℕ → ℤ
unit found h = pos (unsigned_abs (lead_coefficient found.element) / h)

-- what the element is multiplied by, besides a monomial: its product with the element's leading coefficient is that of the
-- unit with the term's coefficient
abbrev pub weight : Target → ℕ → ℤ
weight found h = signed (is_negative (lead_coefficient found.element)) (divided_by h found.term.coefficient)

-- the terms, each taken so often
unfoldable pub scaled : ℤ → List Term → Result (List Term) PolyRefusal
scaled number [] = Ok []
scaled number (term ∷ rest) =
    and_then (λ coefficient. behind (term_of coefficient term.monomial ∷ []) (scaled number rest)) (fit_or_refuse (number *ℤ term.coefficient))

-- the unit times the rest, less the weight and a monomial times the element
unfoldable pub rest_after : Target → ℕ → List Term → Result (List Term) PolyRefusal
rest_after found h rest =
    and_then (λ u. and_then (λ w. and_then
    (with_multiples true w (quotient found.term.monomial (lead_monomial found.element)) found.element) (scaled u rest))
    (fit_or_refuse (weight found h))) (fit_or_refuse (unit found h))

-- the unit times the factor
unfoldable pub factor_after : Target → ℕ → ℤ → Result ℤ PolyRefusal
factor_after found h factor = and_then (λ u. fit_or_refuse (u *ℤ factor)) (fit_or_refuse (unit found h))

-- by this term and this element, one step leads from a factor and a rest to others
pub record StepsBy (found : Target) (now next : Reduced) : Type 0 where
  pub divisor : ℕ
  pub divisor_is : IsTargetGcd found divisor
  pub rest_is : rest_after found divisor now.rest ≡ Ok next.rest
  pub factor_is : factor_after found divisor now.factor ≡ Ok next.factor

-- and so it is by the term and the element that are the target
pub record Steps (basis : List (List Term)) (now next : Reduced) : Type 0 where
  pub found : Target
  pub found_is : target basis now.rest ≡ Some found
  pub step_is : StepsBy found now next

-- in such a step a coefficient does not fit
pub record BreaksBy (found : Target) (now : Reduced) : Type 0 where
  pub divisor : ℕ
  pub divisor_is : IsTargetGcd found divisor
  pub refused : (rest_after found divisor now.rest ≡ Err Overflow) ⊎ (factor_after found divisor now.factor ≡ Err Overflow)

pub record Breaks (basis : List (List Term)) (now : Reduced) : Type 0 where
  pub found : Target
  pub found_is : target basis now.rest ≡ Some found
  pub break_is : BreaksBy found now

-- steps lead from a factor and a rest to ones that no element reduces, or to a coefficient that does not fit
pub data Reduces : List (List Term) → Reduced → Result Reduced PolyRefusal → Type 0 where
  irreducible : {basis : List (List Term)} {now : Reduced} → target basis now.rest ≡ None → Reduces basis now (Ok now)
  step : {basis : List (List Term)} {now next : Reduced} {answer : Result Reduced PolyRefusal}
      → Steps basis now next → Reduces basis next answer → Reduces basis now answer
  overflow : {basis : List (List Term)} {now : Reduced} → Breaks basis now → Reduces basis now (Err Overflow)

-- the number divides each coefficient
abbrev pub DividesEach : ℕ → List Term → Type 0
DividesEach d [] = ⊤
DividesEach d (term ∷ rest) = (d ∣ unsigned_abs term.coefficient) × DividesEach d rest

-- the greatest number that divides the factor and each coefficient
pub record IsContent (made : Reduced) (content : ℕ) : Type 0 where
  pub factor : content ∣ unsigned_abs made.factor
  pub rest : DividesEach content made.rest
  pub greatest : (d : ℕ) → d ∣ unsigned_abs made.factor → DividesEach d made.rest → d ∣ content

-- the terms with their coefficients divided
abbrev pub terms_by : ℕ → List Term → List Term
terms_by content [] = []
terms_by content (term ∷ rest) = term_of (divided_by content term.coefficient) term.monomial ∷ terms_by content rest

-- the factor and the coefficients, divided
abbrev pub reduced_by : ℕ → Reduced → Reduced
reduced_by content made = reduced_of (divided_by content made.factor) (terms_by content made.rest)

-- the normal form: what steps lead to, divided by the greatest common divisor of the factor and all coefficients
pub record IsNormal (basis : List (List Term)) (p : List Term) (normal : Reduced) : Type 0 where
  pub made : Reduced
  pub content : ℕ
  pub made_is : Reduces basis (reduced_of (pos 1) p) (Ok made)
  pub content_is : IsContent made content
  pub content_positive : 0 < content
  pub normal_is : normal ≡ reduced_by content made
