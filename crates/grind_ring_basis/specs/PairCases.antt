-- Worked cases: a least common multiple of degree 17, and the S-polynomial of `x*y - 1` and `x`.
use Rattle.std.specs.Prelude.{◌≡◌, ℕ, List, [], ◌∷◌, Ok, pos, negsuc, replicate, refl}
use Rattle.std.proofs.Common.{lit<}
use Rattle.grind_monomials.specs.Order.{place, place_by_nodes}
use Rattle.grind_monomials.specs.Monomials.{product, product_from, quotient, quotient_from}
use Rattle.grind_polynomials.specs.declared.poly.Term.{Term}
use Rattle.grind_polynomials.specs.Polynomials.{term_of, fit_or_refuse}
use Rattle.grind_polynomials.specs.Sums.{with_more, with_multiple, with_multiples}
use Rattle.grind_normal_forms.specs.Pairs.{s_polynomial}
use Rattle.grind_ring_basis.specs.Pairs.{IsTooHigh}
use Rattle.grind_ring_basis.specs.Lines.{first_multiple, second_multiple}

-- a power of a node
abbrev power : ℕ → ℕ → List Term
power n degree = term_of (pos 1) (replicate degree n) ∷ []

-- `x^9` and `y^8` have the least common multiple `x^9 * y^8`
pub too_high : IsTooHigh (power 2 9) (power 3 8)
unfolding product product_from quotient quotient_from
too_high = lit< tt

-- `x*y - 1` and `x`
abbrev first : List Term
first = term_of (pos 1) (2 ∷ 3 ∷ []) ∷ term_of (negsuc 0) [] ∷ []

abbrev second : List Term
second = term_of (pos 1) (2 ∷ []) ∷ []

-- `1 * (x*y - 1) - y * x` is -1
pub cancelled : s_polynomial 1 first second ≡ Ok (term_of (negsuc 0) [] ∷ [])
unfolding s_polynomial with_multiples with_multiple with_more fit_or_refuse place place_by_nodes product product_from quotient quotient_from
cancelled = refl

pub first_once : first_multiple 1 first second ≡ term_of (pos 1) [] ∷ []
unfolding product product_from quotient quotient_from
first_once = refl

pub second_less : second_multiple 1 first second ≡ Ok (term_of (negsuc 0) (3 ∷ []) ∷ [])
unfolding fit_or_refuse product product_from quotient quotient_from
second_less = refl
