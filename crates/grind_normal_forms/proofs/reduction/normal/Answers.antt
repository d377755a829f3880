use Rattle.std.proofs.Common.{sym, ap, ◌∙◌, subst}
use Rattle.grind_polynomials.specs.Polynomials.{IsPoly}
use Rattle.grind_normal_forms.specs.Reduction.{terms_by}
use Rattle.grind_normal_forms.proofs.ContentLemmas.{poly-by}
use Rattle.grind_normal_forms.proofs.reduction.normal.Goals as goal

pub invariant_of-result : goal.invariant_of-result
invariant_of-result c =
    subst IsPoly (sym (c.in_ok-terms.ensures.ok ∙ ap (terms_by c.content_of-content.result) c.terms.ensures.value))
    (poly-by c.content_of-content.result c.in_ok-made.made.rest c.content_of-content.ensures.content.rest c.terms.ensures.keeps)
