-- Worked cases: of each word a case that holds, and one that fails.
use Rattle.std.specs.Prelude.{◌≡◌, List, [], ◌∷◌, ◌++◌, Some, None, ℤ, pos, negsuc, ◌≤ℤ◌, refl}
use Rattle.std.proofs.Common.{subst}
use Rattle.grind_term_graph.specs.declared.head.Head.TheVariants as head
use Rattle.grind_term_graph.specs.declared.node.Node.{Node}
use Rattle.grind_term_graph.specs.Terms.{int, opening}
use Rattle.grind_linear_forms.specs.Forms.{FormData, form_data, part_of, number_form, fit}
use Rattle.grind_linear_forms.specs.Sums.{multiple, combination, multiplied, merged_from, merged}
use Rattle.grind_linear_forms.specs.Readings.{readings, linear}
use Rattle.grind_polynomials.specs.declared.poly.Term.{Term}
use Rattle.grind_polynomials.specs.Polynomials.{term_of}
use Rattle.grind_differences.specs.Bounds.{opposite_form, IsOver}
use Rattle.grind_differences.specs.Differences.{reading, difference, AreApartByReading}
use Rattle.grind_differences.specs.Equations.{multiple_poly, IsOtherThanZero, form_of}

-- the nodes 2 and 3 with these coefficients, and a constant
abbrev of_two : ℤ → ℤ → ℤ → FormData
of_two first second constant = form_data (part_of 2 first ∷ part_of 3 second ∷ []) constant

-- 1 less `3x - 2y + 5` is `-3x + 2y - 4`, and not its negation
pub opposite_adds_one : opposite_form (of_two (pos 3) (negsuc 1) (pos 5)) ≡ of_two (negsuc 2) (pos 2) (negsuc 3)
opposite_adds_one = refl

pub opposite_is_no_negation : opposite_form (of_two (pos 3) (negsuc 1) (pos 5)) ≡ of_two (negsuc 2) (pos 2) (negsuc 4) → ⊥
opposite_is_no_negation e = (subst (λ (form : FormData). negsuc 3 ≤ℤ form.constant) e (record { le = tt })).le

-- `x + y + 5` is over `x + y + 3` by 2, and by no more
pub over_by_two : IsOver (of_two (pos 1) (pos 1) (pos 3)) (pos 2) (of_two (pos 1) (pos 1) (pos 5))
over_by_two = (refl, record { le = tt })

pub not_over_by_three : IsOver (of_two (pos 1) (pos 1) (pos 3)) (pos 3) (of_two (pos 1) (pos 1) (pos 5)) → ⊥
not_over_by_three h = h.1.le

-- twice `3x - 2` is `6x - 4`
pub twice : multiple_poly (pos 2) (term_of (pos 3) (2 ∷ []) ∷ term_of (negsuc 1) [] ∷ []) ≡ term_of (pos 6) (2 ∷ []) ∷ term_of (negsuc 3) [] ∷ []
twice = refl

-- `3x - 2` is a linear form, and `3x * y - 2` is none
pub linear_is_form : form_of (term_of (pos 3) (2 ∷ []) ∷ term_of (negsuc 1) [] ∷ []) ≡ Some (form_data (part_of 2 (pos 3) ∷ []) (negsuc 1))
linear_is_form = refl

pub product_is_no_form : form_of (term_of (pos 3) (2 ∷ 3 ∷ []) ∷ term_of (negsuc 1) [] ∷ []) ≡ None
product_is_no_form = refl

-- a whole number of at least 1 is not 0
from_one : (z : ℤ) → pos 1 ≤ℤ z → z ≡ pos 0 → ⊥
from_one z h e = (subst (λ (it : ℤ). pos 1 ≤ℤ it) e h).le

-- there are no terms
abbrev HasNone : List Term → Type 0
HasNone [] = Unit {0}
HasNone (term ∷ rest) = ⊥

-- 5 is a number other than 0; the polynomial without terms is 0
pub five_is_not_zero : IsOtherThanZero (term_of (pos 5) [] ∷ [])
five_is_not_zero = (pos 5, refl, from_one (pos 5) (record { le = tt }))

pub zero_is_zero : IsOtherThanZero [] → ⊥
zero_is_zero h = subst HasNone h.1 tt

-- two constants x and y (2 and 3), the number 3 (4), and `x + 3` (5)
abbrev nodes : List Node
nodes = opening ++ record { head = head.Const 0; sort = int; args = [] }
    ∷ record { head = head.Const 1; sort = int; args = [] }
    ∷ record { head = head.Int (pos 3); sort = int; args = [] }
    ∷ record { head = head.Add; sort = int; args = 2 ∷ 4 ∷ [] } ∷ []

-- `x + 3` less `x` is 3
pub three_apart : difference nodes 5 2 ≡ Some (number_form (pos 3))
unfolding reading difference linear readings fit multiple combination multiplied merged_from merged
three_apart = refl

pub are_apart : AreApartByReading nodes 5 2
are_apart = (number_form (pos 3), three_apart, refl, from_one (pos 3) (record { le = tt }))

-- a formula, the node 0, has no reading
pub no_difference_of_formulas : difference nodes 0 2 ≡ None
unfolding reading difference linear readings fit multiple combination multiplied merged_from merged
no_difference_of_formulas = refl
