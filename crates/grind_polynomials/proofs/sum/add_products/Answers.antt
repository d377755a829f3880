use Rattle.std.proofs.Common.{◌≡◌, Err, IsErrOf, rules}
use Rattle.grind_polynomials.specs.declared.poly.PolyRefusal.TheVariants.{Overflow, Degree}
use Rattle.grind_polynomials.specs.Running.{terms_of}
use Rattle.grind_polynomials.specs.Sums.{with_products}
use Rattle.grind_polynomials.proofs.Products.{products_step, products_fail, products_end}
use Rattle.grind_polynomials.proofs.sum.add_products.Goals as goal

pub returns-in_err-add_one-clause-overflow : goal.returns-in_err-add_one-clause-overflow
returns-in_err-add_one-clause-overflow c =
    let leads : IsErrOf c.add_one.result Overflow → with_products c.args.q.now c.args.bs.now (terms_of c.args.sum.now) ≡ Err Overflow = λ e.
    products_fail c.args.q.now (with_products c.args.q.now c.args.bs.now (terms_of c.args.sum.now)) c.loop-b.rest.now c.in-Some.b.now c.in-Some.tail.now (terms_of c.loop-b.sum) c.in-Some.ensures.cases.0 c.loop-b.invariant Overflow (c.add_one.ensures.overflow e) in search rules

pub returns-in_err-add_one-clause-degree : goal.returns-in_err-add_one-clause-degree
returns-in_err-add_one-clause-degree c =
    let leads : IsErrOf c.add_one.result Degree → with_products c.args.q.now c.args.bs.now (terms_of c.args.sum.now) ≡ Err Degree = λ e.
    products_fail c.args.q.now (with_products c.args.q.now c.args.bs.now (terms_of c.args.sum.now)) c.loop-b.rest.now c.in-Some.b.now c.in-Some.tail.now (terms_of c.loop-b.sum) c.in-Some.ensures.cases.0 c.loop-b.invariant Degree (c.add_one.ensures.degree e) in search rules

pub loop-b-preserved : goal.loop-b-preserved
loop-b-preserved c =
    products_step c.args.q.now (with_products c.args.q.now c.args.bs.now (terms_of c.args.sum.now)) c.loop-b.rest.now c.in-Some.b.now c.in-Some.tail.now (terms_of c.loop-b.sum) c.in-Some.ensures.cases.0 c.loop-b.invariant (terms_of c.add_one.new.sum) c.in_ok-add_one.ensures.ok

pub returns-clause-ok : goal.returns-clause-ok
returns-clause-ok c =
    products_end c.args.q.now (with_products c.args.q.now c.args.bs.now (terms_of c.args.sum.now)) c.loop-b.rest.now (terms_of c.loop-b.sum) c.in_default.ensures.cases c.loop-b.invariant
