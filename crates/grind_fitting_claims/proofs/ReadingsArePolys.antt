-- The reading of a term as a polynomial is one, and none of its monomials has a degree of over 16.
use Rattle.std.proofs.Common.{◌≡◌, ℕ, zero, suc, ◌+◌, ◌≤◌, Bool, true, false, ℤ, pos, negsuc, ◌+ℤ◌, List, [], ◌∷◌, All, Ok, Option, Some, None, length, refl, sym, ◌∙◌, subst, arith}
use Rattle.std.proofs.lemmas.Bool.{ltb-false}
use Rattle.std.proofs.lemmas.Option.{none-some, same_Some}
use Rattle.std.proofs.lemmas.List.Elements.{All-nil, All-cons, All-head, All-tail}
use Rattle.grind_term_graph.specs.declared.node.Node.{Node}
use Rattle.grind_term_graph.specs.Terms.{sort_at}
use Rattle.grind_monomials.specs.declared.order.Place.{Place}
use Rattle.grind_monomials.specs.declared.order.Place.TheVariants.{Above, Same, Below}
use Rattle.grind_monomials.specs.Order.{place}
use Rattle.grind_monomials.specs.Monomials.{product}
use Rattle.grind_monomials.proofs.Clauses.{product-nil}
use Rattle.grind_monomials.proofs.CountLemmas.{length-product}
use Rattle.grind_polynomials.specs.declared.poly.Term.{Term}
use Rattle.grind_polynomials.specs.Polynomials.{term_of, IsPoly, degree, is_over}
use Rattle.grind_polynomials.specs.Sums.{signed, in_front, front, with_more, with_multiple, with_multiples, with_product, with_products, with_all_products, sum_product}
use Rattle.grind_polynomials.specs.Readings.{answered, number_poly, node_poly, sum_poly, negated_poly, product_poly, poly_operations, polynomial}
use Rattle.grind_polynomials.proofs.Fits.{same_Ok}
use Rattle.grind_polynomials.proofs.Putting.{more-nil, more-above, more-same, more-below}
use Rattle.grind_polynomials.proofs.Products.{multiples-nil, multiples-cons, products-nil, products-cons, all-nil, all-cons}
use Rattle.grind_polynomials.proofs.Falling.{made_of, front-made, behind-made, multiple-made, product-made, poly-multiples, poly-all_products}
use Rattle.grind_polynomials.proofs.ReadingLemmas.{answered-some}
use Rattle.grind_differences.specs.Differences.{is_number_sort, poly_reading}
use Rattle.grind_fitting_claims.proofs.IdealResults.{within}
use Rattle.grind_fitting_claims.proofs.ReadingsKeep.{Keep, read_is}
use Rattle.grind_fitting_claims.proofs.ReadingsAreForms.{one_is_not_zero, by_if}

-- ---- degrees
abbrev pub IsLow : Term → Type 0
IsLow term = length term.monomial ≤ 16

abbrev AreLow : List Term → Type 0
AreLow terms = All IsLow terms

in_front_low : (c : ℤ) (m : List ℕ) (rest : List Term) → length m ≤ 16 → AreLow rest → AreLow (in_front c m rest)
in_front_low (pos zero) m rest low h = h
in_front_low (pos (suc n)) m rest low h = All-cons IsLow (term_of (pos (suc n)) m) rest low h
in_front_low (negsuc n) m rest low h = All-cons IsLow (term_of (negsuc n) m) rest low h

front_low : (z : ℤ) (m : List ℕ) (rest all : List Term) → length m ≤ 16 → AreLow rest → front z m rest ≡ Ok all → AreLow all
front_low z m rest all low h e = let w = front-made z m rest all e in subst AreLow w.2 (in_front_low w.0 m rest low h)

more_low : (z : ℤ) (m : List ℕ) (terms all : List Term) → length m ≤ 16 → AreLow terms → with_more z m terms ≡ Ok all → AreLow all
more_low z m [] all low h e = front_low z m [] all low h (sym (more-nil z m) ∙ e)
more_low z m (x ∷ xs) all low h e =
    at_place (place x.monomial m) refl (λ later is. more_low z m xs later low (All-tail IsLow x xs h) is)
  where
    at_place : (p : Place) → place x.monomial m ≡ p → ((later : List Term) → with_more z m xs ≡ Ok later → AreLow later) → AreLow all
    at_place Above above later =
        let w = behind-made (x ∷ []) (with_more z m xs) all (sym (more-above z m x xs above) ∙ e) in
        subst AreLow w.2 (All-cons IsLow x w.0 (All-head IsLow x xs h) (later w.0 w.1))
    at_place Same same later =
        front_low (x.coefficient +ℤ z) m xs all low (All-tail IsLow x xs h) (sym (more-same z m x xs same) ∙ e)
    at_place Below below later = front_low z m (x ∷ xs) all low h (sym (more-below z m x xs below) ∙ e)

multiple_low : (minus : Bool) (c : ℤ) (m : List ℕ) (b : Term) (terms all : List Term) → length (product m b.monomial) ≤ 16 → AreLow terms
    → with_multiple minus c m b terms ≡ Ok all → AreLow all
multiple_low minus c m b terms all low h e =
    let w = multiple-made minus c m b terms all e in more_low (signed minus w.0) (product m b.monomial) terms all low h w.2

once_low : (minus : Bool) (bs terms all : List Term) → AreLow bs → AreLow terms → with_multiples minus (pos 1) [] bs terms ≡ Ok all → AreLow all
once_low minus [] terms all others h e =
    subst AreLow (same_Ok (with_multiples minus (pos 1) [] [] terms) terms all (multiples-nil minus (pos 1) [] terms) e) h
once_low minus (b ∷ bs) terms all others h e =
    let w = made_of (with_multiples minus (pos 1) [] bs) (with_multiple minus (pos 1) [] b terms) all
    (sym (multiples-cons minus (pos 1) [] b bs terms) ∙ e) in
    let low : length (product [] b.monomial) ≤ 16 =
    subst (λ (m : List ℕ). length m ≤ 16) (sym (product-nil b.monomial)) (All-head IsLow b bs others) in
    once_low minus bs w.0 all (All-tail IsLow b bs others) (multiple_low minus (pos 1) [] b terms w.0 low h w.1) w.2

products_low : (q : Term) (bs terms all : List Term) → AreLow terms → with_products q bs terms ≡ Ok all → AreLow all
products_low q [] terms all h e = subst AreLow (same_Ok (with_products q [] terms) terms all (products-nil q terms) e) h
products_low q (b ∷ bs) terms all h e =
    let w = made_of (with_products q bs) (with_product q b terms) all (sym (products-cons q b bs terms) ∙ e) in
    let small = ltb-false 16 (length q.monomial + length b.monomial) (within q b terms w.0 w.1) in
    let size = length-product q.monomial b.monomial in
    products_low q bs w.0 all
    (multiple_low false q.coefficient q.monomial b terms w.0 (omega arith) h (product-made q b terms w.0 w.1)) w.2

all_products_low : (qs bs terms all : List Term) → AreLow terms → with_all_products qs bs terms ≡ Ok all → AreLow all
all_products_low [] bs terms all h e = subst AreLow (same_Ok (with_all_products [] bs terms) terms all (all-nil bs terms) e) h
all_products_low (q ∷ qs) bs terms all h e =
    let w = made_of (with_all_products qs bs) (with_products q bs terms) all (sym (all-cons q qs bs terms) ∙ e) in
    all_products_low qs bs w.0 all (products_low q bs terms w.0 h w.1) w.2

-- ---- readings
pub record IsReading (poly : List Term) : Type 0 where
  pub is_poly : IsPoly poly
  pub low : All IsLow poly

abbrev AnswersPoly : Option (List Term) → Type 0
AnswersPoly answer = (poly : List Term) → answer ≡ Some poly → IsReading poly

some_is : (it : List Term) → IsReading it → AnswersPoly (Some it)
some_is it h poly e = subst IsReading (same_Some it poly e) h

none_is : AnswersPoly None
none_is poly e = absurd (none-some poly e)

positive_is : (n : ℕ) → pos (suc n) ≡ pos 0 → ⊥
positive_is n e = cc

negative_is : (n : ℕ) → negsuc n ≡ pos 0 → ⊥
negative_is n e = cc

constant_low : (c : ℤ) → IsLow (term_of c [])
constant_low c = omega arith

node_low : (n : ℕ) → IsLow (term_of (pos 1) (n ∷ []))
node_low n = omega arith

number_is : (number : ℤ) → IsReading (number_poly number)
number_is (pos zero) = record { is_poly = tt; low = All-nil IsLow }
number_is (pos (suc n)) = record {
  is_poly = (tt, positive_is n, tt, tt);
  low = All-cons IsLow (term_of (pos (suc n)) []) [] (constant_low (pos (suc n))) (All-nil IsLow);
}
number_is (negsuc n) = record {
  is_poly = (tt, negative_is n, tt, tt);
  low = All-cons IsLow (term_of (negsuc n) []) [] (constant_low (negsuc n)) (All-nil IsLow);
}

node_is : (n : ℕ) → IsReading (node_poly n)
node_is n = record {
  is_poly = ((omega arith, tt), one_is_not_zero, tt, tt);
  low = All-cons IsLow (term_of (pos 1) (n ∷ [])) [] (node_low n) (All-nil IsLow);
}

sum_goes : (a b : List Term) → IsReading a → IsReading b → AnswersPoly (sum_poly a b)
sum_goes a b left right poly e =
    let there = answered-some (with_multiples false (pos 1) [] b a) poly e in record {
      is_poly = poly-multiples false (pos 1) [] b a poly tt right.is_poly left.is_poly there;
      low = once_low false b a poly right.low left.low there;
    }

negation_goes : (a : List Term) → IsReading a → AnswersPoly (negated_poly a)
negation_goes a is poly e =
    let there = answered-some (with_multiples true (pos 1) [] a []) poly e in record {
      is_poly = poly-multiples true (pos 1) [] a [] poly tt is.is_poly tt there;
      low = once_low true a [] poly is.low (All-nil IsLow) there;
    }

real_product : (a b : List Term) → IsReading a → IsReading b → AnswersPoly (answered (sum_product [] a b))
real_product a b left right poly e =
    let there = answered-some (sum_product [] a b) poly e in record {
      is_poly = poly-all_products a b [] poly left.is_poly right.is_poly tt there;
      low = all_products_low a b [] poly (All-nil IsLow) there;
    }

product_goes : (n : ℕ) (a b : List Term) → IsReading a → IsReading b → AnswersPoly (product_poly n a b)
product_goes n a b left right =
    by_if AnswersPoly (is_over (degree a + degree b)) (Some (node_poly n)) (answered (sum_product [] a b)) (some_is (node_poly n) (node_is n))
    (real_product a b left right)

pub keep : Keep poly_operations IsReading
keep = record {
  numbers = λ number. some_is (number_poly number) (number_is number);
  atoms = λ n. some_is (node_poly n) (node_is n);
  sums = sum_goes;
  negations = negation_goes;
  products = product_goes;
}

polynomial_is : (nodes : List Node) (n : ℕ) → AnswersPoly (polynomial nodes n)
unfolding polynomial
polynomial_is nodes n = read_is poly_operations IsReading keep nodes n

pub reading_is_poly : (nodes : List Node) (n : ℕ) (poly : List Term) → poly_reading nodes n ≡ Some poly → IsReading poly
unfolding poly_reading
reading_is_poly nodes n poly e =
    by_if AnswersPoly (is_number_sort (sort_at nodes n)) (polynomial nodes n) None (polynomial_is nodes n) none_is poly e
