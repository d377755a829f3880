use Rattle.std.proofs.Common.{◌+◌, ◌≤◌, IsErrOf, rules}
use Rattle.std.proofs.lemmas.Bool.{le-ltb}
use Rattle.grind_polynomials.specs.declared.poly.PolyRefusal.TheVariants.{Degree}
use Rattle.grind_polynomials.specs.Polynomials.{degree}
use Rattle.grind_polynomials.proofs.Degrees.{never-degree}
use Rattle.grind_polynomials.proofs.reading.product_of.Goals as goal

pub returns-in_err-poly-2-clause-degree : goal.returns-in_err-poly-2-clause-degree
returns-in_err-poly-2-clause-degree c =
    let small : degree c.args.a.now + degree c.args.b.now ≤ 16 = search rules in
    let leads : IsErrOf c.add_product.result Degree → ⊥ = λ e.
    never-degree c.args.a.now c.args.b.now _ c.terms-left.ensures.keeps c.terms-right.ensures.keeps
    (le-ltb 16 (degree c.args.a.now + degree c.args.b.now) small) (c.add_product.ensures.degree e) in search rules
