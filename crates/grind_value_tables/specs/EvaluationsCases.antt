-- Worked cases: the form 2n - 3 and the polynomial 2nn, where n is node 0: whether a bound and an equation hold, and a value that
-- fits and one that does not.
use Rattle.std.specs.Prelude.{◌≡◌, ℕ, ◌^◌, List, [], ◌∷◌, Some, None, ℤ, pos, negsuc, refl}
use Rattle.grind_linear_forms.specs.Forms.{FormData, form_data, part_of, fit}
use Rattle.grind_polynomials.specs.declared.poly.Term.{Term}
use Rattle.grind_polynomials.specs.Polynomials.{term_of}
use Rattle.std.specs.Int.Signed.{le_z_yes}
use Rattle.grind_claims.specs.declared.claim.Claim.TheVariants.{AtMost, Zero}
use Rattle.grind_value_tables.specs.Truths.{ClaimTrue}
use Rattle.grind_value_tables.specs.Evaluations.{form_sum, poly_sum}

-- every node has this value
abbrev all_are : ℤ → ℕ → ℤ
all_are value n = value

abbrev form : FormData
form = form_data (part_of 0 (pos 2) ∷ []) (negsuc 2)

abbrev poly : List Term
poly = term_of (pos 2) (0 ∷ 0 ∷ []) ∷ []

pub form_at_five : form_sum (all_are (pos 5)) form ≡ Some (pos 7)
unfolding fit
form_at_five = refl

-- twice that is one more than fits
pub form_overflows : form_sum (all_are (pos (2 ^ 126))) form ≡ None
unfolding fit
form_overflows = refl

pub poly_at_five : poly_sum (all_are (pos 5)) poly ≡ Some (pos 50)
unfolding fit
poly_at_five = refl

pub poly_overflows : poly_sum (all_are (pos (2 ^ 63))) poly ≡ None
unfolding fit
poly_overflows = refl

pub bound_at_one : ClaimTrue (all_are (pos 1)) (AtMost form)
bound_at_one = le_z_yes tt

pub bound_at_five : ClaimTrue (all_are (pos 5)) (AtMost form) → ⊥
bound_at_five h = h.le

pub equation_at_zero : ClaimTrue (all_are (pos 0)) (Zero poly)
equation_at_zero = refl

pub equation_at_five : ClaimTrue (all_are (pos 5)) (Zero poly) → ⊥
equation_at_five h = cc
