-- What polynomials say of each other as equations.
use Rattle.std.specs.Prelude.{◌≡◌, ◌≢◌, ℕ, List, [], ◌∷◌, map, Option, Some, None, ℤ, pos, ◌+ℤ◌, ◌*ℤ◌}
use Rattle.std.specs.Option.{option_and_then}
use Rattle.grind_linear_forms.specs.Forms.{FormData, form_data, part_of, number_form}
use Rattle.grind_polynomials.specs.declared.poly.Term.{Term}
use Rattle.grind_polynomials.specs.Polynomials.{term_of}

-- the term taken k times
abbrev pub multiple_term : ℤ → Term → Term
multiple_term k term = term_of (k *ℤ term.coefficient) term.monomial

-- the polynomial taken k times, term by term
abbrev pub multiple_poly : ℤ → List Term → List Term
multiple_poly k poly = map (multiple_term k) poly

-- the polynomial is a number other than 0
abbrev pub IsOtherThanZero : List Term → Type 0
IsOtherThanZero poly = (c : ℤ) × (poly ≡ term_of c [] ∷ []) × (c ≢ pos 0)

-- the form with the term of this monomial and coefficient added: a number, or a node in front of the others; terms of degree 2
-- and more are in no linear form
abbrev pub with_term : List ℕ → ℤ → FormData → Option FormData
with_term [] c form = Some (form_data form.parts (form.constant +ℤ c))
with_term (n ∷ []) c form = Some (form_data (part_of n c ∷ form.parts) form.constant)
with_term (n ∷ m ∷ more) c form = None

-- the polynomial as a linear form, where its degree is at most 1
abbrev pub form_of : List Term → Option FormData
form_of [] = Some (number_form (pos 0))
form_of (term ∷ rest) = option_and_then (with_term term.monomial term.coefficient) (form_of rest)
