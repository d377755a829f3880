-- What polynomials mean, over whole numbers without bound.
use Rattle.std.specs.Prelude.{◌≡◌, ℕ, ◌<◌, List, ◌++◌, length, Some, Ok, ℤ, ◌+ℤ◌, ◌*ℤ◌}
use Rattle.grind_term_graph.specs.declared.node.Node.{Node}
use Rattle.grind_reach.specs.Values.{RespectsArithmetic}
use Rattle.grind_polynomials.specs.declared.poly.Term.{Term}
use Rattle.grind_polynomials.specs.Readings.{polynomial}
use Rattle.grind_polynomials.specs.Sums.{sum_product}
use Rattle.grind_polynomials.specs.Values.{poly_value}

-- the value of a polynomial and a product is the value of the one and the product of the values of the factors
abbrev pub SumsHaveTheirValues : Type 0
SumsHaveTheirValues =
    (v : ℕ → ℤ) (a q b sum : List Term) → sum_product a q b ≡ Ok sum →
    poly_value v sum ≡ poly_value v a +ℤ (poly_value v q *ℤ poly_value v b)

-- where a table of values respects arithmetic, a term has the value of its reading
abbrev pub ReadingsHaveTheirValues : Type 0
ReadingsHaveTheirValues =
    (nodes : List Node) (v : ℕ → ℤ) (n : ℕ) (poly : List Term) → RespectsArithmetic nodes v →
    polynomial nodes n ≡ Some poly → poly_value v poly ≡ v n

-- the reading of a term stays the same where the table grows
abbrev pub ReadingsStay : Type 0
ReadingsStay =
    (nodes more : List Node) (n : ℕ) → n < length nodes → polynomial (nodes ++ more) n ≡ polynomial nodes n
