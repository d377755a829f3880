-- What differences, opposites and multiples mean, over whole numbers without bound.
use Rattle.std.specs.Prelude.{◌≡◌, ℕ, List, ◌++◌, Some, ℤ, pos, ◌+ℤ◌, ◌*ℤ◌, neg_ℤ}
use Rattle.grind_term_graph.specs.declared.node.Node.{Node}
use Rattle.grind_linear_forms.specs.Forms.{FormData}
use Rattle.grind_linear_forms.specs.Values.{RespectsArithmetic, form_value}
use Rattle.grind_polynomials.specs.declared.poly.Term.{Term}
use Rattle.grind_polynomials.specs.Values.{poly_value}
use Rattle.grind_differences.specs.Bounds.{opposite_form}
use Rattle.grind_differences.specs.Differences.{difference, poly_difference}
use Rattle.grind_differences.specs.Equations.{multiple_poly, form_of}

-- where a table of values respects arithmetic, the difference of two terms has the difference of their values
abbrev pub DifferencesHaveTheirValues : Type 0
DifferencesHaveTheirValues =
    (nodes : List Node) (v : ℕ → ℤ) (a b : ℕ) (form : FormData) → RespectsArithmetic nodes v →
    difference nodes a b ≡ Some form → form_value v form ≡ v a +ℤ neg_ℤ (v b)

-- and so it is with polynomials
abbrev pub PolyDifferencesHaveTheirValues : Type 0
PolyDifferencesHaveTheirValues =
    (nodes : List Node) (v : ℕ → ℤ) (a b : ℕ) (poly : List Term) → RespectsArithmetic nodes v →
    poly_difference nodes a b ≡ Some poly → poly_value v poly ≡ v a +ℤ neg_ℤ (v b)

-- a difference stays the same where the table grows
abbrev pub DifferencesStay : Type 0
DifferencesStay =
    (nodes more : List Node) (a b : ℕ) (form : FormData) → difference nodes a b ≡ Some form → difference (nodes ++ more) a b ≡ Some form

-- and so it is with polynomials
abbrev pub PolyDifferencesStay : Type 0
PolyDifferencesStay =
    (nodes more : List Node) (a b : ℕ) (poly : List Term) → poly_difference nodes a b ≡ Some poly →
    poly_difference (nodes ++ more) a b ≡ Some poly

-- the opposite of a form has 1 less the value of the form
abbrev pub OppositesHaveTheirValues : Type 0
OppositesHaveTheirValues = (v : ℕ → ℤ) (form : FormData) → form_value v (opposite_form form) ≡ pos 1 +ℤ neg_ℤ (form_value v form)

-- k times a polynomial has k times its value
abbrev pub MultiplesHaveTheirValues : Type 0
MultiplesHaveTheirValues = (v : ℕ → ℤ) (k : ℤ) (poly : List Term) → poly_value v (multiple_poly k poly) ≡ k *ℤ poly_value v poly

-- a polynomial has the value of its linear form
abbrev pub FormsOfPolysHaveTheirValues : Type 0
FormsOfPolysHaveTheirValues =
    (v : ℕ → ℤ) (poly : List Term) (form : FormData) → form_of poly ≡ Some form → form_value v form ≡ poly_value v poly
