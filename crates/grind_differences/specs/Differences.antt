-- The readings of two whole numbers, one less the other, as linear forms and as polynomials.
use Rattle.std.specs.Prelude.{◌≡◌, ◌≢◌, ℕ, List, [], nat_eq, if◌then◌else◌, Bool, false, Option, Some, None, ℤ, pos, negsuc}
use Rattle.std.specs.Option.{option_and_then}
use Rattle.grind_term_graph.specs.declared.node.Node.{Node}
use Rattle.grind_term_graph.specs.Terms.{int, sort_at}
use Rattle.grind_linear_forms.specs.Forms.{FormData}
use Rattle.grind_linear_forms.specs.Sums.{scaled_sum}
use Rattle.grind_linear_forms.specs.Readings.{linear}
use Rattle.grind_polynomials.specs.declared.poly.Term.{Term}
use Rattle.grind_polynomials.specs.Sums.{sum_product}
use Rattle.grind_polynomials.specs.Readings.{answered, number_poly, polynomial}
use Rattle.grind_differences.specs.Bounds.{plus, IsOver}

-- the sort is that of whole numbers
abbrev pub is_number_sort : Option ℕ → Bool
is_number_sort None = false
is_number_sort (Some sort) = nat_eq sort int

-- the reading of a whole number as a linear form, where it is defined
unfoldable pub reading : List Node → ℕ → Option FormData
reading nodes n = if is_number_sort (sort_at nodes n) then linear nodes n else None

-- the reading of the first less that of the second, where it is defined
unfoldable pub difference : List Node → ℕ → ℕ → Option FormData
difference nodes a b =
    option_and_then (λ left. option_and_then (λ right. scaled_sum left (pos 1) right (negsuc 0)) (reading nodes b)) (reading nodes a)

-- the form is the reading of the first less that of the second, and a number that is added
abbrev pub IsDifferencePlus : List Node → ℕ → ℕ → ℤ → FormData → Type 0
IsDifferencePlus nodes a b number form = (base : FormData) × (difference nodes a b ≡ Some base) × (form ≡ plus base number)

-- the same, where the number that is added is at least this one
abbrev pub IsDifferenceOver : List Node → ℕ → ℕ → ℤ → FormData → Type 0
IsDifferenceOver nodes a b least form = (base : FormData) × (difference nodes a b ≡ Some base) × IsOver base least form

-- the readings of the two differ by a number other than 0
abbrev pub AreApartByReading : List Node → ℕ → ℕ → Type 0
AreApartByReading nodes a b = (form : FormData) × (difference nodes a b ≡ Some form) × (form.parts ≡ []) × (form.constant ≢ pos 0)

-- the reading of a whole number as a polynomial, where it is defined
unfoldable pub poly_reading : List Node → ℕ → Option (List Term)
poly_reading nodes n = if is_number_sort (sort_at nodes n) then polynomial nodes n else None

-- the first polynomial and the product of -1 and the second, added, where that is defined
abbrev pub less_poly : List Term → List Term → Option (List Term)
less_poly left right = answered (sum_product left (number_poly (negsuc 0)) right)

-- the polynomial of the first less that of the second, where it is defined
unfoldable pub poly_difference : List Node → ℕ → ℕ → Option (List Term)
poly_difference nodes a b =
    option_and_then (λ left. option_and_then (λ right. less_poly left right) (poly_reading nodes b)) (poly_reading nodes a)
