-- The readings of terms as polynomials: they stay, and they have the values of the terms.
use Rattle.std.proofs.Common.{◌≡◌, inl, inr, ℕ, ◌+◌, ◌<◌, true, false, List, [], ◌++◌, length, ℤ, pos, ◌+ℤ◌, ◌*ℤ◌, neg_ℤ, Result, Ok, Err, Some, arith, sym, ap, ◌∙◌}
use Rattle.std.proofs.lemmas.Bool.{cases_Bool, cond-true, cond-false}
use Rattle.std.proofs.lemmas.Option.{none-some, same_Some}
use borrow.Author.Differences.{ints}
use Rattle.grind_lemmas.proofs.Rings.{linear as linear_facts}
use Rattle.grind_term_graph.specs.declared.node.Node.{Node}
use Rattle.grind_reach.specs.Values.{RespectsArithmetic, KeepValues}
use Rattle.grind_reach.proofs.ReadingLemmas.{reading-stays}
use Rattle.grind_reach.proofs.ValueLemmas.{value-read}
use Rattle.grind_polynomials.specs.declared.poly.Term.{Term}
use Rattle.grind_polynomials.specs.declared.poly.PolyRefusal.{PolyRefusal}
use Rattle.grind_polynomials.specs.Polynomials.{degree, is_over}
use Rattle.grind_polynomials.specs.Sums.{with_multiples, sum_product}
use Rattle.grind_polynomials.specs.Values.{poly_value}
use Rattle.grind_polynomials.specs.Readings.{number_poly, node_poly, answered, sum_poly, negated_poly, product_poly, poly_operations, polynomial}
use Rattle.grind_polynomials.proofs.SumValues.{value-in_front, value-multiples, value-all_products}
use Rattle.grind_monomials.proofs.ValueLemmas.{unit_left, unit_right}

-- the reading of a term stays the same where the table grows
pub polynomial-stays : (nodes more : List Node) (n : ℕ) → n < length nodes → polynomial (nodes ++ more) n ≡ polynomial nodes n
unfolding polynomial
polynomial-stays nodes more n h = reading-stays poly_operations nodes more n h

-- ---- values
pub answered-some : (r : Result (List Term) PolyRefusal) (poly : List Term) → answered r ≡ Some poly → r ≡ Ok poly
answered-some (Ok p) poly e = ap (λ (p : List Term). Ok p) (same_Some p poly e)
answered-some (Err e) poly f = absurd (none-some poly f)

module _ (v : ℕ → ℤ) where
  value-number : (number : ℤ) → poly_value v (number_poly number) ≡ number
  value-number number =
      let made = value-in_front v number [] [] in
      let unit = unit_right number in omega (arith, linear_facts)

  value-node : (n : ℕ) → poly_value v (node_poly n) ≡ v n
  value-node n =
      let one = unit_left (v n *ℤ pos 1) in
      let two = unit_right (v n) in omega (arith, linear_facts)

  once : (b : ℤ) → (pos 1 *ℤ pos 1) *ℤ b ≡ b
  once b = omega (arith, ints)

  value-sum : (a b poly : List Term) → sum_poly a b ≡ Some poly → poly_value v poly ≡ poly_value v a +ℤ poly_value v b
  value-sum a b poly e =
      let made = value-multiples v false (pos 1) [] b a poly (answered-some (with_multiples false (pos 1) [] b a) poly e) in
      let one = once (poly_value v b) in omega (arith, linear_facts)

  value-negation : (a poly : List Term) → negated_poly a ≡ Some poly → poly_value v poly ≡ neg_ℤ (poly_value v a)
  value-negation a poly e =
      let made = value-multiples v true (pos 1) [] a [] poly (answered-some (with_multiples true (pos 1) [] a []) poly e) in
      let one = once (poly_value v a) in omega (arith, linear_facts)

  value-product : (n : ℕ) (a b poly : List Term) → product_poly n a b ≡ Some poly → v n ≡ poly_value v a *ℤ poly_value v b
      → poly_value v poly ≡ v n
  value-product n a b poly e is = elim (cases_Bool (is_over (degree a + degree b))) [
    | inl over ↦
        let itself = sym (cond-true (is_over (degree a + degree b)) (Some (node_poly n)) _ over) ∙ e in
        ap (poly_value v) (sym (same_Some _ _ itself)) ∙ value-node n
    | inr within ↦
        let made = value-all_products v a b [] poly
        (answered-some (sum_product [] a b) poly (sym (cond-false (is_over (degree a + degree b)) (Some (node_poly n)) _ within) ∙ e)) in
        omega (arith, linear_facts)
  ]

  operations-keep : KeepValues poly_operations (poly_value v) v
  operations-keep = record {
    numbers = λ number poly e. ap (poly_value v) (sym (same_Some _ _ e)) ∙ value-number number;
    atoms = λ n poly e. ap (poly_value v) (sym (same_Some _ _ e)) ∙ value-node n;
    sums = value-sum;
    negations = value-negation;
    products = value-product;
  }

  -- a term has the value of its reading
  pub value-polynomial : (nodes : List Node) (n : ℕ) (poly : List Term) → RespectsArithmetic nodes v → polynomial nodes n ≡ Some poly
      → poly_value v poly ≡ v n
  unfolding polynomial
  value-polynomial nodes n poly respects e = value-read poly_operations (poly_value v) v operations-keep nodes n poly respects e
