use Rattle.std.proofs.Common.{sym, ◌∙◌}
use Rattle.grind_differences.proofs.BoundLemmas.{is_no_base, is_base}
use Rattle.grind_differences.proofs.differences.is_difference.Goals as goal

pub returns-in_default : goal.returns-in_default
returns-in_default c =
    is_no_base c.args.terms.now.nodes c.args.a c.args.b c.args.form.now (sym c.in_ok-found.ensures ∙ c.in_default.is)

pub returns : goal.returns
returns c =
    is_base c.args.terms.now.nodes c.args.a c.args.b c.in-Some.base c.args.form.now c.is_same_form.result
    (sym c.in_ok-found.ensures ∙ c.in-Some.is) c.is_same_form.ensures
