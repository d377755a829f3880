use Rattle.std.proofs.Common.{sym, ◌∙◌}
use Rattle.grind_differences.proofs.PolyLemmas.{is_no_poly, is_poly}
use Rattle.grind_differences.proofs.differences.is_poly_difference.Goals as goal

pub returns-in_default : goal.returns-in_default
returns-in_default c =
    is_no_poly c.args.terms.now.nodes c.args.a c.args.b c.args.poly.now (sym c.in_ok-found.ensures ∙ c.in_default.is)

pub returns : goal.returns
returns c =
    is_poly c.args.terms.now.nodes c.args.a c.args.b c.in-Some.base c.args.poly.now c.is_same_poly.result
    (sym c.in_ok-found.ensures ∙ c.in-Some.is) c.is_same_poly.ensures
