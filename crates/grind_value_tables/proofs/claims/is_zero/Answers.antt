use Rattle.std.proofs.Common.{rules, FitsSigned, sym, ◌∙◌}
use Rattle.std.specs.Int.{w128}
use Rattle.grind_polynomials.specs.Values.{poly_value}
use Rattle.grind_value_tables.specs.Overflows.{value_of}
use Rattle.grind_value_tables.proofs.StepLemmas.{poly_sum_is, is_zero_by}
use Rattle.grind_value_tables.proofs.claims.is_zero.Goals as goal

pub returns-in-Some-clause-exact : goal.returns-in-Some-clause-exact
returns-in-Some-clause-exact c =
    let fits : FitsSigned w128 c.in-Some.sum = search rules in
    is_zero_by c.in-Some.sum (poly_value (value_of c.args.list.now) c.args.poly.now) fits
    (poly_sum_is (value_of c.args.list.now) c.args.poly.now c.in-Some.sum (sym c.poly_sum.ensures ∙ c.in-Some.is))
