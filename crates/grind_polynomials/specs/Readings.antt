-- How terms are read as polynomials.
use Rattle.std.specs.Prelude.{ℕ, ◌+◌, List, [], ◌∷◌, Result, Ok, Err, Option, Some, None, true, false, if◌then◌else◌, ℤ, pos}
use Rattle.grind_term_graph.specs.declared.node.Node.{Node}
use Rattle.grind_reach.specs.Readings.{Operations, read_at}
use Rattle.grind_polynomials.specs.declared.poly.Term.{Term}
use Rattle.grind_polynomials.specs.declared.poly.PolyRefusal.{PolyRefusal}
use Rattle.grind_polynomials.specs.Polynomials.{term_of, degree, is_over}
use Rattle.grind_polynomials.specs.Sums.{in_front, with_multiples, sum_product}
unfoldable pub use Rattle.grind_reach.specs.Readings.{readings}

-- the number as a polynomial
abbrev pub number_poly : ℤ → List Term
number_poly number = in_front number [] []

-- the node as a polynomial
abbrev pub node_poly : ℕ → List Term
node_poly n = term_of (pos 1) (n ∷ []) ∷ []

-- the polynomial, where there is one
abbrev pub answered : Result (List Term) PolyRefusal → Option (List Term)
answered (Ok poly) = Some poly
answered (Err refusal) = None

-- the sum of two polynomials: once the second, added to the first
abbrev pub sum_poly : List Term → List Term → Option (List Term)
sum_poly a b = answered (with_multiples false (pos 1) [] b a)

-- the negation of a polynomial: once the polynomial, taken off nothing
abbrev pub negated_poly : List Term → Option (List Term)
negated_poly a = answered (with_multiples true (pos 1) [] a [])

-- the reading of a product, the node n, from those of its factors: the product where their degrees are together at most
-- 16, else the node itself
abbrev pub product_poly : ℕ → List Term → List Term → Option (List Term)
product_poly n a b = if is_over (degree a + degree b) then Some (node_poly n) else answered (sum_product [] a b)

-- how terms are read as polynomials: a number is a constant, and a node that is read as itself is a monomial
abbrev pub poly_operations : Operations (List Term)
poly_operations = record {
  number_of = λ (number : ℤ). Some (number_poly number);
  atom_of = λ (n : ℕ). Some (node_poly n);
  sum_of = sum_poly;
  negation_of = negated_poly;
  product_of = product_poly;
}

-- the node of this number as a polynomial, where each coefficient on the way fits in 128 bits
unfoldable pub polynomial : List Node → ℕ → Option (List Term)
polynomial nodes n = read_at poly_operations nodes n
