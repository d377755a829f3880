use Rattle.std.proofs.Common.{◌≡◌, Err, IsErrOf, rules}
use Rattle.grind_polynomials.specs.declared.poly.PolyRefusal.TheVariants.{Overflow, Degree}
use Rattle.grind_polynomials.specs.Running.{terms_of}
use Rattle.grind_polynomials.specs.Sums.{with_all_products}
use Rattle.grind_polynomials.proofs.Products.{all_step, all_fail, all_end}
use Rattle.grind_polynomials.proofs.sum.add_all_products.Goals as goal

pub returns-in_err-add_products-clause-overflow : goal.returns-in_err-add_products-clause-overflow
returns-in_err-add_products-clause-overflow c =
    let leads : IsErrOf c.add_products.result Overflow → with_all_products c.args.qs.now c.args.bs.now (terms_of c.args.sum.now) ≡ Err Overflow = λ e.
    all_fail c.args.bs.now (with_all_products c.args.qs.now c.args.bs.now (terms_of c.args.sum.now)) c.loop-q.rest.now c.in-Some.q.now c.in-Some.tail.now (terms_of c.loop-q.sum) c.in-Some.ensures.cases.0 c.loop-q.invariant Overflow (c.add_products.ensures.overflow e) in search rules

pub returns-in_err-add_products-clause-degree : goal.returns-in_err-add_products-clause-degree
returns-in_err-add_products-clause-degree c =
    let leads : IsErrOf c.add_products.result Degree → with_all_products c.args.qs.now c.args.bs.now (terms_of c.args.sum.now) ≡ Err Degree = λ e.
    all_fail c.args.bs.now (with_all_products c.args.qs.now c.args.bs.now (terms_of c.args.sum.now)) c.loop-q.rest.now c.in-Some.q.now c.in-Some.tail.now (terms_of c.loop-q.sum) c.in-Some.ensures.cases.0 c.loop-q.invariant Degree (c.add_products.ensures.degree e) in search rules

pub loop-q-preserved : goal.loop-q-preserved
loop-q-preserved c =
    all_step c.args.bs.now (with_all_products c.args.qs.now c.args.bs.now (terms_of c.args.sum.now)) c.loop-q.rest.now c.in-Some.q.now c.in-Some.tail.now (terms_of c.loop-q.sum) c.in-Some.ensures.cases.0 c.loop-q.invariant (terms_of c.add_products.new.sum) c.in_ok-add_products.ensures.ok

pub returns-clause-ok : goal.returns-clause-ok
returns-clause-ok c =
    all_end c.args.bs.now (with_all_products c.args.qs.now c.args.bs.now (terms_of c.args.sum.now)) c.loop-q.rest.now (terms_of c.loop-q.sum) c.in_default.ensures.cases c.loop-q.invariant
