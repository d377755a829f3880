-- The reading of a term as a linear form is defined exactly where the term is read so and each number on the way fits, and it is one.
use Rattle.std.proofs.Common.{◌≡◌, ◌↔◌, inl, inr, cond, ℕ, List, ℤ, pos, negsuc, FitsSigned, Option, Some, None, sym, ap, ◌∙◌}
use Rattle.std.specs.Int.{w128}
use Rattle.std.proofs.lemmas.Option.{same_Some}
use Rattle.grind_term_graph.specs.declared.node.Node.{Node}
use Rattle.grind_term_graph.specs.Terms.{sort_at}
use Rattle.grind_reach.specs.Reached.{HaveEarlierArguments}
use Rattle.grind_linear_forms.specs.Forms.{FormData, number_form, node_form, IsForm}
use Rattle.grind_linear_forms.specs.Readings.{form_operations, linear}
use Rattle.grind_linear_forms.proofs.ByNode.{one-form}
use Rattle.grind_differences.specs.Differences.{is_number_sort, reading}
use Rattle.grind_fitting_claims.specs.Results.{IsSumOf}
use Rattle.grind_fitting_claims.specs.LinearReadings.{AdditionsFit, IsMultipleOf, IsFittingMultiple, IsProductOf, IsReadAs, WithoutBounds, LinearReadingsAreExact, LinearReadingsAreOne, BoundsOnlyRefuse}
use Rattle.grind_fitting_claims.proofs.ReadingsAreForms.{keep}
use Rattle.grind_fitting_claims.proofs.ReadingsExactly.{exactly}
use Rattle.grind_fitting_claims.proofs.ReadingsOnce.{one_read, weaker, by_sort}
use Rattle.grind_fitting_claims.proofs.LinearSteps.{from_sum, to_sum, from_multiple, to_multiple, from_product, to_product}

abbrev Fit : ℤ → Type 0
Fit number = FitsSigned w128 number

-- the steps
abbrev Number : ℤ → FormData → Type 0
Number number made = made ≡ number_form number

abbrev Itself : ℕ → FormData → Type 0
Itself n made = made ≡ node_form n

abbrev Sum : (ℤ → Type 0) → FormData → FormData → FormData → Type 0
Sum Fits left right made = AdditionsFit Fits left right × IsSumOf (pos 1) left (pos 1) right made

abbrev Negation : (ℤ → Type 0) → FormData → FormData → Type 0
Negation Fits inner made = IsFittingMultiple Fits (negsuc 0) inner made

is_it : (it made : FormData) → (Some it ≡ Some made) ↔ (made ≡ it)
is_it it made = (λ e. sym (same_Some it made e), λ e. ap (λ (f : FormData). Some f) (sym e))

linear_exact : (nodes : List Node) → HaveEarlierArguments nodes → (n : ℕ) (form : FormData)
    → (linear nodes n ≡ Some form) ↔ IsReadAs Fit nodes n form
unfolding linear
linear_exact nodes earlier n form =
    exactly form_operations IsForm keep Number Itself (Sum Fit) (Negation Fit) (IsProductOf Fit)
    (λ number made. is_it (number_form number) made) (λ m made. is_it (node_form m) made)
    (λ a b made left right. (λ e. from_sum a b left right made e, λ h. to_sum a b left right made h.0 h.1))
    (λ a made is. (λ e. from_multiple (negsuc 0) a is made e, λ h. to_multiple (negsuc 0) a is made h))
    (λ m a b made left right. (λ e. from_product m a b left right made e, λ h. to_product m a b left right made h))
    nodes earlier n form

-- ---- whole numbers
pub readings_are_exact : LinearReadingsAreExact
unfolding reading
readings_are_exact nodes earlier n form =
    let exact = linear_exact nodes earlier n form in (
      λ e. let is = by_sort (sort_at nodes n) (linear nodes n) form e in (is.0, exact.0 is.1),
      λ h. ap (λ (sort : Option ℕ). cond (is_number_sort sort) (linear nodes n) None) h.0 ∙ exact.1 h.1,
    )

-- ---- bounds only refuse
multiple_without : (m : ℤ) (a form : FormData) → IsFittingMultiple Fit m a form → IsFittingMultiple WithoutBounds m a form
multiple_without m a form h = ((λ n. tt, tt), h.1)

product_without : (n : ℕ) (a b form : FormData) → IsProductOf Fit n a b form → IsProductOf WithoutBounds n a b form
product_without n a b form (inl h) = inl (h.0, multiple_without a.constant b form h.1)
product_without n a b form (inr (inl h)) = inr (inl (h.0, h.1, multiple_without b.constant a form h.2))
product_without n a b form (inr (inr h)) = inr (inr h)

pub bounds_refuse : BoundsOnlyRefuse
bounds_refuse nodes n form h =
    weaker Number Itself (Sum Fit) (Sum WithoutBounds) (Negation Fit) (Negation WithoutBounds) (IsProductOf Fit) (IsProductOf WithoutBounds)
    (λ left right made is. ((λ m. (tt, tt, tt), (tt, tt, tt)), is.1)) (λ inner made is. multiple_without (negsuc 0) inner made is) product_without
    nodes n form h

-- ---- products
one_multiple : (m : ℤ) (a form other : FormData) → IsMultipleOf m a form → IsMultipleOf m a other → form ≡ other
one_multiple m a form other is also =
    one-form form other is.is_form also.is_form (λ n. is.nodes n ∙ sym (also.nodes n)) (is.constants ∙ sym also.constants)

one_product : (n : ℕ) (a b form other : FormData) → IsProductOf WithoutBounds n a b form → IsProductOf WithoutBounds n a b other → form ≡ other
one_product n a b form other (inl h) (inl g) = one_multiple a.constant b form other h.1.1 g.1.1
one_product n a b form other (inl h) (inr (inl g)) = absurd (g.0 h.0)
one_product n a b form other (inl h) (inr (inr g)) = absurd (g.0 h.0)
one_product n a b form other (inr (inl h)) (inl g) = absurd (h.0 g.0)
one_product n a b form other (inr (inl h)) (inr (inl g)) = one_multiple b.constant a form other h.2.1 g.2.1
one_product n a b form other (inr (inl h)) (inr (inr g)) = absurd (g.1 h.1)
one_product n a b form other (inr (inr h)) (inl g) = absurd (h.0 g.0)
one_product n a b form other (inr (inr h)) (inr (inl g)) = absurd (h.1 g.1)
one_product n a b form other (inr (inr h)) (inr (inr g)) = h.2 ∙ sym g.2

one_addition : (left right form other : FormData) → Sum WithoutBounds left right form → Sum WithoutBounds left right other → form ≡ other
one_addition left right form other h g =
    let is = h.1 in
    let also = g.1 in
    one-form form other is.is_form also.is_form (λ n. is.nodes n ∙ sym (also.nodes n)) (is.constants ∙ sym also.constants)

pub readings_are_one : LinearReadingsAreOne
readings_are_one nodes n one other first second =
    one_read Number Itself (Sum WithoutBounds) (Negation WithoutBounds) (IsProductOf WithoutBounds) (λ number a b h g. h ∙ sym g)
    (λ m a b h g. h ∙ sym g) one_addition (λ inner a b h g. one_multiple (negsuc 0) inner a b h.1 g.1) one_product nodes n one other first second
