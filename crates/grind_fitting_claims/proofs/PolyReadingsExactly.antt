-- The reading of a term as a polynomial is defined exactly where the term is read so and each number on the way fits, and it is one.
use Rattle.std.proofs.Common.{◌≡◌, ◌↔◌, inl, inr, Bool, true, false, true≢false, cond, ℕ, ◌+◌, List, [], ◌∷◌, ℤ, pos, FitsSigned, Ok, Option, Some, None, refl, sym, ap, ◌∙◌}
use Rattle.std.specs.Prelude.{if◌then◌else◌}
use Rattle.std.specs.Int.{w128}
use Rattle.std.proofs.lemmas.Option.{same_Some}
use Rattle.std.proofs.lemmas.List.Elements.{All-nil, All-cons}
use Rattle.grind_term_graph.specs.declared.node.Node.{Node}
use Rattle.grind_term_graph.specs.Terms.{sort_at}
use Rattle.grind_reach.specs.Reached.{HaveEarlierArguments}
use Rattle.grind_polynomials.specs.declared.poly.Term.{Term}
use Rattle.grind_polynomials.specs.Polynomials.{degree, is_over}
use Rattle.grind_polynomials.specs.Sums.{with_multiples, sum_product}
use Rattle.grind_polynomials.specs.Readings.{answered, number_poly, node_poly, sum_poly, negated_poly, product_poly, poly_operations, polynomial}
use Rattle.grind_polynomials.proofs.ReadingLemmas.{answered-some}
use Rattle.grind_differences.specs.Differences.{is_number_sort, poly_reading}
use Rattle.grind_fitting_claims.specs.LinearReadings.{WithoutBounds}
use Rattle.grind_fitting_claims.specs.PolyResults.{number_at, Pair, pairs_of, with_pair_added, EachProductFits, nothing}
use Rattle.grind_fitting_claims.specs.PolyReadings.{TermFitsIn, TermsFitIn, IsPolySumOf, IsPolyProductOf, IsReadProduct, IsPolyReadAs, PolyReadingsAreExact, PolyReadingsAreOne, PolyBoundsOnlyRefuse}
use Rattle.grind_fitting_claims.proofs.MoreExactly.{one_poly}
use Rattle.grind_fitting_claims.proofs.IdealResults.{added-of, from_added, to_added, plain_of}
use Rattle.grind_fitting_claims.proofs.ReadingsArePolys.{IsReading, keep}
use Rattle.grind_fitting_claims.proofs.ReadingsExactly.{exactly}
use Rattle.grind_fitting_claims.proofs.ReadingsOnce.{one_read, weaker, by_sort}
use Rattle.grind_fitting_claims.proofs.PolySteps.{from_multiples, to_multiples}

abbrev Fit : ℤ → Type 0
Fit number = FitsSigned w128 number

-- the steps
abbrev Number : ℤ → List Term → Type 0
Number number made = made ≡ number_poly number

abbrev Itself : ℕ → List Term → Type 0
Itself n made = made ≡ node_poly n

abbrev Sum : (ℤ → Type 0) → List Term → List Term → List Term → Type 0
Sum Fits left right made =
    TermsFitIn Fits false (λ m. number_at m left) right × IsPolySumOf false (λ m. number_at m left) right made

abbrev Negation : (ℤ → Type 0) → List Term → List Term → Type 0
Negation Fits inner made = TermsFitIn Fits true nothing inner × IsPolySumOf true nothing inner made

is_it : (it made : List Term) → (Some it ≡ Some made) ↔ (made ≡ it)
is_it it made = (λ e. sym (same_Some it made e), λ e. ap (λ (p : List Term). Some p) (sym e))

sum_exact : (a b made : List Term) → IsReading a → IsReading b → (sum_poly a b ≡ Some made) ↔ Sum Fit a b made
sum_exact a b made left right = (
  λ e. from_multiples false (λ m. number_at m a) b a made right.is_poly left.is_poly (λ n. refl)
      (answered-some (with_multiples false (pos 1) [] b a) made e),
  λ h. ap answered (to_multiples false (λ m. number_at m a) b a made right.is_poly left.is_poly (λ n. refl) h.0 h.1),
)

negation_exact : (a made : List Term) → IsReading a → (negated_poly a ≡ Some made) ↔ Negation Fit a made
negation_exact a made is = (
  λ e. from_multiples true nothing a [] made is.is_poly tt (λ n. refl) (answered-some (with_multiples true (pos 1) [] a []) made e),
  λ h. ap answered (to_multiples true nothing a [] made is.is_poly tt (λ n. refl) h.0 h.1),
)

module _ (n : ℕ) (a b made : List Term) (left : IsReading a) (right : IsReading b) where
  from_products : sum_product [] a b ≡ Ok made → EachProductFits Fit nothing (pairs_of a b) × IsPolyProductOf a b made
  from_products e =
      let all = from_added nothing (pairs_of a b) [] made (plain_of a b left.is_poly right.is_poly) tt (λ m. refl) (sym (added-of a b []) ∙ e) in
      (all.fit, record { is_poly = all.poly; numbers = all.numbers })

  to_products : EachProductFits Fit nothing (pairs_of a b) → IsPolyProductOf a b made → sum_product [] a b ≡ Ok made
  to_products fits is =
      let plain = plain_of a b left.is_poly right.is_poly in
      let w = to_added nothing (pairs_of a b) [] plain tt (λ m. refl) fits in
      let all = from_added nothing (pairs_of a b) [] w.0 plain tt (λ m. refl) w.1 in
      added-of a b [] ∙ w.1 ∙ ap (λ (p : List Term). Ok p) (one_poly w.0 made all.poly is.is_poly (λ m. all.numbers m ∙ sym (is.numbers m)))

  abbrev made_by : Bool → Option (List Term)
  made_by over = if over then Some (node_poly n) else answered (sum_product [] a b)

  from_test : (over : Bool) → is_over (degree a + degree b) ≡ over → made_by over ≡ Some made → IsReadProduct Fit n a b made
  from_test true judged e = inl (judged, sym (same_Some (node_poly n) made e))
  from_test false judged e = let made_so = from_products (answered-some (sum_product [] a b) made e) in inr (judged, made_so.0, made_so.1)

  to_test : (over : Bool) → is_over (degree a + degree b) ≡ over → IsReadProduct Fit n a b made → made_by over ≡ Some made
  to_test true judged (inl h) = ap (λ (p : List Term). Some p) (sym h.1)
  to_test true judged (inr h) = absurd (true≢false (sym judged ∙ h.0))
  to_test false judged (inl h) = absurd (true≢false (sym h.0 ∙ judged))
  to_test false judged (inr h) = ap answered (to_products h.1 h.2)

  product_exact : (product_poly n a b ≡ Some made) ↔ IsReadProduct Fit n a b made
  product_exact = (λ e. from_test (is_over (degree a + degree b)) refl e, λ h. to_test (is_over (degree a + degree b)) refl h)

polynomial_exact : (nodes : List Node) → HaveEarlierArguments nodes → (n : ℕ) (poly : List Term)
    → (polynomial nodes n ≡ Some poly) ↔ IsPolyReadAs Fit nodes n poly
unfolding polynomial
polynomial_exact nodes earlier n poly =
    exactly poly_operations IsReading keep Number Itself (Sum Fit) (Negation Fit) (IsReadProduct Fit)
    (λ number made. is_it (number_poly number) made) (λ m made. is_it (node_poly m) made) sum_exact negation_exact product_exact
    nodes earlier n poly

-- ---- whole numbers
pub poly_readings_exact : PolyReadingsAreExact
unfolding poly_reading
poly_readings_exact nodes earlier n poly =
    let exact = polynomial_exact nodes earlier n poly in (
      λ e. let is = by_sort (sort_at nodes n) (polynomial nodes n) poly e in (is.0, exact.0 is.1),
      λ h. ap (λ (sort : Option ℕ). cond (is_number_sort sort) (polynomial nodes n) None) h.0 ∙ exact.1 h.1,
    )

-- ---- bounds only refuse
terms_without : (minus : Bool) (at : List ℕ → ℤ) (terms : List Term) → TermsFitIn WithoutBounds minus at terms
terms_without minus at [] = All-nil (TermFitsIn WithoutBounds minus at)
terms_without minus at (t ∷ ts) = All-cons (TermFitsIn WithoutBounds minus at) t ts (tt, tt) (terms_without minus at ts)

products_without : (at : List ℕ → ℤ) (pairs : List Pair) → EachProductFits Fit at pairs → EachProductFits WithoutBounds at pairs
products_without at [] fits = tt
products_without at (pair ∷ rest) fits = (fits.0, tt, tt, products_without (with_pair_added at pair) rest fits.3)

product_without : (n : ℕ) (a b made : List Term) → IsReadProduct Fit n a b made → IsReadProduct WithoutBounds n a b made
product_without n a b made (inl h) = inl h
product_without n a b made (inr h) = inr (h.0, products_without nothing (pairs_of a b) h.1, h.2)

pub poly_bounds_refuse : PolyBoundsOnlyRefuse
poly_bounds_refuse nodes n poly h =
    weaker Number Itself (Sum Fit) (Sum WithoutBounds) (Negation Fit) (Negation WithoutBounds) (IsReadProduct Fit) (IsReadProduct WithoutBounds)
    (λ left right made is. (terms_without false (λ m. number_at m left) right, is.1)) (λ inner made is. (terms_without true nothing inner, is.1))
    product_without nodes n poly h

-- ---- one polynomial
one_sum_of : (minus : Bool) (at : List ℕ → ℤ) (b made other : List Term) → IsPolySumOf minus at b made → IsPolySumOf minus at b other → made ≡ other
one_sum_of minus at b made other is also = one_poly made other is.is_poly also.is_poly (λ m. is.numbers m ∙ sym (also.numbers m))

one_product : (n : ℕ) (a b made other : List Term) → IsReadProduct WithoutBounds n a b made → IsReadProduct WithoutBounds n a b other → made ≡ other
one_product n a b made other (inl h) (inl g) = h.1 ∙ sym g.1
one_product n a b made other (inl h) (inr g) = absurd (true≢false (sym h.0 ∙ g.0))
one_product n a b made other (inr h) (inl g) = absurd (true≢false (sym g.0 ∙ h.0))
one_product n a b made other (inr h) (inr g) =
    let is = h.2 in
    let also = g.2 in one_poly made other is.is_poly also.is_poly (λ m. is.numbers m ∙ sym (also.numbers m))

pub poly_readings_one : PolyReadingsAreOne
poly_readings_one nodes n one other first second =
    one_read Number Itself (Sum WithoutBounds) (Negation WithoutBounds) (IsReadProduct WithoutBounds) (λ number a b h g. h ∙ sym g)
    (λ m a b h g. h ∙ sym g) (λ left right a b h g. one_sum_of false (λ m. number_at m left) right a b h.1 g.1)
    (λ inner a b h g. one_sum_of true nothing inner a b h.1 g.1) one_product nodes n one other first second
