use Rattle.std.proofs.Common.{◌≡◌, ◌+◌, length, false, Err, FitsSigned, IsErrOf, rules, sym, ◌∙◌}
use Rattle.std.specs.Int.{w128}
use Rattle.std.proofs.lemmas.Int.{to_z-of_z}
use Rattle.grind_monomials.specs.Monomials.{product}
use Rattle.grind_polynomials.specs.declared.poly.PolyRefusal.TheVariants.{Overflow}
use Rattle.grind_polynomials.specs.Polynomials.{is_over}
use Rattle.grind_polynomials.specs.Running.{terms_of}
use Rattle.grind_polynomials.specs.Sums.{with_product}
use Rattle.grind_polynomials.proofs.Products.{product-over, product-within, multiple-refused, multiple-goes_on}
use Rattle.grind_polynomials.proofs.sum.add_one.Goals as goal

pub returns-then-is_over-clause-degree : goal.returns-then-is_over-clause-degree
returns-then-is_over-clause-degree c =
    let judged =
    (λ i. is_over (length (sym c.as_slice.ensures.value i) + length (sym c.as_slice-2.ensures.value i))) ∙ sym c.is_over.ensures ∙ c.if-is_over.true in
    λ e. product-over c.args.q.now c.args.b.now (terms_of c.args.sum.now) judged

pub returns-in_default-clause-overflow : goal.returns-in_default-clause-overflow
returns-in_default-clause-overflow c =
    let judged =
    (λ i. is_over (length (sym c.as_slice.ensures.value i) + length (sym c.as_slice-2.ensures.value i))) ∙ sym c.is_over.ensures ∙ c.if-is_over.false in
    let first : FitsSigned w128 c.args.q.now.coefficient = search rules in
    let second : FitsSigned w128 c.args.b.now.coefficient = search rules in
    let over = simp (to_z-of_z w128 c.args.q.now.coefficient first, to_z-of_z w128 c.args.b.now.coefficient second) at c.in_default.ensures in
    λ e. product-within c.args.q.now c.args.b.now (terms_of c.args.sum.now) judged
    ∙ multiple-refused false c.args.q.now.coefficient c.args.q.now.monomial c.args.b.now (terms_of c.args.sum.now) Overflow over

pub returns-in_err-add-clause-overflow : goal.returns-in_err-add-clause-overflow
returns-in_err-add-clause-overflow c =
    let judged =
    (λ i. is_over (length (sym c.as_slice.ensures.value i) + length (sym c.as_slice-2.ensures.value i))) ∙ sym c.is_over.ensures ∙ c.if-is_over.false in
    let first : FitsSigned w128 c.args.q.now.coefficient = search rules in
    let second : FitsSigned w128 c.args.b.now.coefficient = search rules in
    let number_fits : FitsSigned w128 c.in-Some.number = search rules in
    let number = simp (to_z-of_z w128 c.args.q.now.coefficient first, to_z-of_z w128 c.args.b.now.coefficient second) at c.in-Some.ensures in
    let whole = c.in_ok-monomial.ensures ∙ (λ i. product (c.as_slice-3.ensures.value i) (c.as_slice-4.ensures.value i)) in
    let told = simp (to_z-of_z w128 c.in-Some.number number_fits) at c.add.ensures.overflow in
    let leads : IsErrOf c.add.result Overflow → with_product c.args.q.now c.args.b.now (terms_of c.args.sum.now) ≡ Err Overflow = λ e.
    product-within c.args.q.now c.args.b.now (terms_of c.args.sum.now) judged
    ∙ multiple-goes_on false c.args.q.now.coefficient c.args.q.now.monomial c.args.b.now (terms_of c.args.sum.now) c.in-Some.number c.in_ok-monomial.monomial number whole
    ∙ told e in search rules

pub returns-clause-ok : goal.returns-clause-ok
returns-clause-ok c =
    let judged =
    (λ i. is_over (length (sym c.as_slice.ensures.value i) + length (sym c.as_slice-2.ensures.value i))) ∙ sym c.is_over.ensures ∙ c.if-is_over.false in
    let first : FitsSigned w128 c.args.q.now.coefficient = search rules in
    let second : FitsSigned w128 c.args.b.now.coefficient = search rules in
    let number_fits : FitsSigned w128 c.in-Some.number = search rules in
    let number = simp (to_z-of_z w128 c.args.q.now.coefficient first, to_z-of_z w128 c.args.b.now.coefficient second) at c.in-Some.ensures in
    let whole = c.in_ok-monomial.ensures ∙ (λ i. product (c.as_slice-3.ensures.value i) (c.as_slice-4.ensures.value i)) in
    product-within c.args.q.now c.args.b.now (terms_of c.args.sum.now) judged
    ∙ multiple-goes_on false c.args.q.now.coefficient c.args.q.now.monomial c.args.b.now (terms_of c.args.sum.now) c.in-Some.number c.in_ok-monomial.monomial number whole
    ∙ simp (to_z-of_z w128 c.in-Some.number number_fits) at c.in_ok-add.ensures.ok
