use Rattle.std.proofs.Common.{Ok, List, sym, ap, ◌∙◌}
use Rattle.grind_polynomials.specs.declared.poly.Term.{Term}
use Rattle.grind_polynomials.specs.Sums.{with_all_products}
use Rattle.grind_polynomials.proofs.Falling.{poly-all_products}
use Rattle.grind_polynomials.proofs.sum.add_product.Goals as goal

pub invariant_of-result : goal.invariant_of-result
invariant_of-result c =
    let start = sym c.terms.ensures.value ∙ sym c.in_ok-sum.ensures in
    poly-all_products c.args.q.now c.args.b.now c.args.a.now c.in_ok-terms.terms c.terms-2.ensures.keeps c.terms-3.ensures.keeps c.terms.ensures.keeps
    ((λ i. with_all_products (sym c.terms-2.ensures.value i) (sym c.terms-3.ensures.value i) (start i)) ∙ c.in_ok-add_all_products.ensures.ok
    ∙ ap (λ (terms : List Term). Ok terms) (sym c.in_ok-terms.ensures))
