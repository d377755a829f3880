use Rattle.std.proofs.Common.{sym, ap, ◌∙◌, subst}
use Rattle.grind_polynomials.specs.Polynomials.{IsPoly}
use Rattle.grind_normal_forms.specs.Reduction.{reducer}
use Rattle.grind_normal_forms.proofs.ReductionLemmas.{target-here, target-later, target-none}
use Rattle.grind_normal_forms.proofs.reduction.target.Goals as goal

pub returns-in-Some-reducer-clause-value : goal.returns-in-Some-reducer-clause-value
returns-in-Some-reducer-clause-value c =
    sym c.loop-term.invariant.same
    ∙ target-here c.args.basis.now c.in-Some.term.now c.in-Some.tail.now c.loop-term.rest.now c.in-Some-reducer.element.now
    c.in-Some.ensures.cases.0 (ap (reducer c.args.basis.now) (sym c.as_slice.ensures.value) ∙ c.in-Some-reducer.ensures.value)

pub loop-term-preserved : goal.loop-term-preserved
loop-term-preserved c = record {
  same = sym (target-later c.args.basis.now c.in-Some.term.now c.in-Some.tail.now c.loop-term.rest.now c.in-Some.ensures.cases.0
      (ap (reducer c.args.basis.now) (sym c.as_slice.ensures.value) ∙ c.in_default-reducer.ensures.value)) ∙ c.loop-term.invariant.same;
  poly = (subst IsPoly c.in-Some.ensures.cases.0 c.loop-term.invariant.poly).3;
}

pub returns-clause-value : goal.returns-clause-value
returns-clause-value c =
    sym c.loop-term.invariant.same ∙ target-none c.args.basis.now c.loop-term.rest.now c.in_default.ensures.cases
