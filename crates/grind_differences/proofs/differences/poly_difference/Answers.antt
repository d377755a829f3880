use Rattle.std.proofs.Common.{sym, ◌∙◌}
use Rattle.grind_differences.proofs.PolyLemmas.{poly_difference-left, poly_difference-right, poly_difference-from}
use Rattle.grind_differences.proofs.differences.poly_difference.Goals as goal

pub returns-in_default : goal.returns-in_default
returns-in_default c =
    sym (poly_difference-left c.args.terms.now.nodes c.args.a c.args.b (sym c.in_ok-first.ensures ∙ c.in_default.is))

pub returns-in_default-second : goal.returns-in_default-second
returns-in_default-second c =
    sym (poly_difference-right c.args.terms.now.nodes c.args.a c.args.b c.in-Some.left (sym c.in_ok-first.ensures ∙ c.in-Some.is)
    (sym c.in_ok-second.ensures ∙ c.in_default-second.is))

pub returns : goal.returns
returns c =
    c.in_ok-found.ensures
    ∙ sym (poly_difference-from c.args.terms.now.nodes c.args.a c.args.b c.in-Some.left c.in-Some-second.right
    (sym c.in_ok-first.ensures ∙ c.in-Some.is) (sym c.in_ok-second.ensures ∙ c.in-Some-second.is))
