use Rattle.std.proofs.Common.{◌≡◌, sym, ◌∙◌, pos}
use Rattle.grind_linear_forms.specs.Forms.{FormData}
use Rattle.grind_differences.specs.Bounds.{plus}
use Rattle.grind_differences.proofs.BoundLemmas.{no_difference, by_difference}
use Rattle.grind_differences.proofs.differences.is_difference_plus_one.Goals as goal

pub returns-in_default : goal.returns-in_default
returns-in_default c =
    no_difference c.args.terms.now.nodes c.args.a c.args.b (λ (base form : FormData). form ≡ plus base (pos 1)) c.args.form.now (sym c.in_ok-found.ensures ∙ c.in_default.is)

pub returns : goal.returns
returns c =
    by_difference c.args.terms.now.nodes c.args.a c.args.b (λ (base form : FormData). form ≡ plus base (pos 1)) c.in-Some.base c.args.form.now c.is_plus_one.result
    (sym c.in_ok-found.ensures ∙ c.in-Some.is) c.is_plus_one.ensures
