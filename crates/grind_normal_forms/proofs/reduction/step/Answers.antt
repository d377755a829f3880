use Rattle.std.proofs.Common.{sym, ap, ◌∙◌}
use Rattle.grind_normal_forms.specs.Reduction.{target, target_of}
use Rattle.grind_normal_forms.proofs.Descent.{descends, factor-nonzero}
use Rattle.grind_normal_forms.proofs.reduction.step.Goals as goal

pub returns-clause-descends : goal.returns-clause-descends
returns-clause-descends c =
    descends c.args.basis.now (target_of c.in-Some.term.now c.in-Some.element.now) c.args.state.now c.in_ok-next.next
    (ap (target c.args.basis.now) (sym c.terms.ensures.value) ∙ c.in-Some.ensures.value)
    c.terms.ensures.keeps c.terms-terms.ensures.keeps c.in-Some.ensures.nonzero c.in_ok-next.ensures.ok

pub returns-clause-nonzero : goal.returns-clause-nonzero
returns-clause-nonzero c =
    factor-nonzero (target_of c.in-Some.term.now c.in-Some.element.now) c.args.state.now c.in_ok-next.next
    c.terms-terms.ensures.keeps c.in-Some.ensures.nonzero c.in_ok-next.ensures.ok
