-- Worked cases: how the terms that were taken are shared out, and which numbers fit.
use Rattle.std.specs.Prelude.{◌≡◌, ◌^◌, [], ◌∷◌, Result, Ok, Err, true, false, ℤ, pos, negsuc, ⊤, refl}
use Rattle.std.proofs.Common.{subst}
use Rattle.grind_monomials.specs.Monomials.{quotient, quotient_from}
use Rattle.grind_polynomials.specs.declared.poly.PolyRefusal.{PolyRefusal}
use Rattle.grind_polynomials.specs.Polynomials.{term_of, fit_or_refuse}
use Rattle.grind_normal_forms.specs.Gathering.{move_by}
use Rattle.grind_normal_forms.specs.FinalFactors.{reduced_terms, shares, left_by, shared_out, EachFits}

-- `6xy + 5y`: to `x` goes the first term, divided by `x`, and the second is left
pub shared_to_x : shares (term_of (pos 7) (2 ∷ []) ∷ []) (term_of (pos 6) (2 ∷ 3 ∷ []) ∷ term_of (pos 5) (3 ∷ []) ∷ [])
    ≡ term_of (pos 6) (3 ∷ []) ∷ []
unfolding shares quotient quotient_from
shared_to_x = refl

pub left_by_x : left_by (term_of (pos 7) (2 ∷ []) ∷ []) (term_of (pos 6) (2 ∷ 3 ∷ []) ∷ term_of (pos 5) (3 ∷ []) ∷ [])
    ≡ term_of (pos 5) (3 ∷ []) ∷ []
unfolding left_by quotient quotient_from
left_by_x = refl

-- to `x^2` goes neither of them, since `x^2` divides neither
pub nothing_to_x_squared : shares (term_of (pos 1) (2 ∷ 2 ∷ []) ∷ []) (term_of (pos 6) (2 ∷ 3 ∷ []) ∷ term_of (pos 5) (3 ∷ []) ∷ [])
    ≡ []
unfolding shares quotient quotient_from
nothing_to_x_squared = refl

-- of `x` and `y`, each has its term; where `y` comes first, it has both
pub each_has_one : shared_out ((term_of (pos 1) (2 ∷ []) ∷ []) ∷ (term_of (pos 1) (3 ∷ []) ∷ []) ∷ [])
    (term_of (pos 6) (2 ∷ 3 ∷ []) ∷ term_of (pos 5) (3 ∷ []) ∷ [])
    ≡ (term_of (pos 6) (3 ∷ []) ∷ []) ∷ (term_of (pos 5) [] ∷ []) ∷ []
unfolding shares left_by quotient quotient_from
each_has_one = refl

pub first_has_both : shared_out ((term_of (pos 1) (3 ∷ []) ∷ []) ∷ (term_of (pos 1) (2 ∷ []) ∷ []) ∷ [])
    (term_of (pos 6) (2 ∷ 3 ∷ []) ∷ term_of (pos 5) (3 ∷ []) ∷ [])
    ≡ (term_of (pos 6) (2 ∷ []) ∷ term_of (pos 5) [] ∷ []) ∷ [] ∷ []
unfolding shares left_by quotient quotient_from
first_has_both = refl

-- a weight of 3, then a move by 2 and a weight of 5: the first is taken 6 times in the end
pub later_units_count : reduced_terms (move_by true (pos 9) (pos 3) (2 ∷ []) ∷ move_by true (pos 2) (pos 5) (3 ∷ []) ∷ [])
    ≡ term_of (negsuc 5) (2 ∷ []) ∷ term_of (negsuc 4) (3 ∷ []) ∷ []
later_units_count = refl

-- `2^100 x + y` by `x`, and then by `2^30 y`: in the end `x` is taken 2^130 times
pub later_units_grow : reduced_terms (move_by false (pos 1) (pos (2 ^ 100)) (2 ∷ []) ∷ move_by false (pos (2 ^ 30)) (pos 1) (3 ∷ []) ∷ [])
    ≡ term_of (pos (2 ^ 130)) (2 ∷ []) ∷ term_of (pos 1) (3 ∷ []) ∷ []
later_units_grow = refl

IsRefused : Result ℤ PolyRefusal → Type 0
IsRefused (Ok number) = ⊥
IsRefused (Err refusal) = ⊤

-- -2^127 fits, and neither 2^127 nor 2^130 does
pub least_fits : EachFits (term_of (negsuc 170141183460469231731687303715884105727) [] ∷ [])
unfolding fit_or_refuse
least_fits = (refl, tt)

pub most_does_not_fit : EachFits (term_of (pos (2 ^ 127)) [] ∷ []) → ⊥
unfolding fit_or_refuse IsRefused
most_does_not_fit h = subst IsRefused h.0 tt

pub grown_does_not_fit : EachFits (term_of (pos (2 ^ 130)) [] ∷ []) → ⊥
unfolding fit_or_refuse IsRefused
grown_does_not_fit h = subst IsRefused h.0 tt
