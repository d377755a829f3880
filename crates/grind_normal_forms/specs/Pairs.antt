-- The polynomial in which the leading terms of two others cancel.
use Rattle.std.specs.Prelude.{◌≡◌, ℕ, suc, ◌/◌, List, [], length, Result, Err, true, false, if◌then◌else◌, ℤ, pos, negsuc, neg_ℤ, unsigned_abs}
use Rattle.std.specs.Int.{IsGcd}
use Rattle.grind_monomials.specs.Monomials.{quotient, least_common_multiple}
use Rattle.grind_polynomials.specs.declared.poly.Term.{Term}
use Rattle.grind_polynomials.specs.declared.poly.PolyRefusal.{PolyRefusal}
use Rattle.grind_polynomials.specs.declared.poly.PolyRefusal.TheVariants.{Degree}
use Rattle.grind_polynomials.specs.Polynomials.{is_over}
pub use Rattle.grind_polynomials.specs.Polynomials.{lead_coefficient, lead_monomial}
use Rattle.grind_polynomials.specs.Sums.{and_then, with_multiples}

-- the number divided by a natural number, rounded toward 0
abbrev pub divided_by : ℕ → ℤ → ℤ
divided_by divisor (pos n) = pos (n / divisor)
divided_by divisor (negsuc n) = neg_ℤ (pos (suc n / divisor))

-- the greatest common divisor of the leading coefficients
abbrev pub IsLeadGcd : List Term → List Term → ℕ → Type 0
IsLeadGcd a b h = IsGcd (unsigned_abs (lead_coefficient a)) (unsigned_abs (lead_coefficient b)) h

-- the least common multiple of the leading monomials
abbrev pub lead_multiple : List Term → List Term → List ℕ
lead_multiple a b = least_common_multiple (lead_monomial a) (lead_monomial b)

-- where h is the greatest common divisor of the leading coefficients: a taken so often that its leading term is the
-- least common multiple of the two, less b taken so often
unfoldable pub s_polynomial : ℕ → List Term → List Term → Result (List Term) PolyRefusal
s_polynomial h a b =
    if is_over (length (lead_multiple a b)) then Err Degree
    else and_then (with_multiples true (divided_by h (lead_coefficient a)) (quotient (lead_multiple a b) (lead_monomial b)) b)
    (with_multiples false (divided_by h (lead_coefficient b)) (quotient (lead_multiple a b) (lead_monomial a)) a [])

-- what comes of the S-polynomial of a and b: a polynomial, or why there is none. The divisor is the only one that it can be
pub record IsSPolynomial (a b : List Term) (answer : Result (List Term) PolyRefusal) : Type 0 where
  pub divisor : ℕ
  pub divisor_is : IsLeadGcd a b divisor
  pub answer_is : s_polynomial divisor a b ≡ answer
