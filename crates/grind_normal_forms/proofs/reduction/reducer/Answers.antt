use Rattle.std.proofs.Common.{◌≢◌, ℕ, [], List, All, sym, ap, ◌∙◌, subst}
use Rattle.std.proofs.lemmas.Bool.{both_ways}
use Rattle.std.proofs.lemmas.List.Elements.{All-tail}
use Rattle.grind_monomials.specs.Monomials.{quotient}
use Rattle.grind_polynomials.specs.declared.poly.Term.{Term}
use Rattle.grind_normal_forms.proofs.ReductionLemmas.{reducer-here, reducer-later, reducer-none}
use Rattle.grind_normal_forms.proofs.reduction.reducer.Goals as goal

pub returns-then-divides-clause-value : goal.returns-then-divides-clause-value
returns-then-divides-clause-value c =
    let divides = ap (λ (m : List ℕ). quotient m c.args.monomial.now) (sym c.lead_monomial.ensures.value) ∙ c.divides.ensures.0 c.if-divides.true in
    sym c.loop-b.invariant.same
    ∙ reducer-here c.in-Some.b.now c.in-Some.tail.now c.loop-b.rest.now c.args.monomial.now c.in-Some.ensures.cases.0 divides

pub loop-b-preserved : goal.loop-b-preserved
loop-b-preserved c = record {
  same = sym (reducer-later c.in-Some.b.now c.in-Some.tail.now c.loop-b.rest.now c.args.monomial.now c.in-Some.ensures.cases.0
      (λ e. both_ways c.divides.result c.if-divides.false
      (c.divides.ensures.1 (ap (λ (m : List ℕ). quotient m c.args.monomial.now) c.lead_monomial.ensures.value ∙ e))))
      ∙ c.loop-b.invariant.same;
  nonzero = All-tail (λ (b : List Term). b ≢ []) c.in-Some.b.now c.in-Some.tail.now
      (subst (λ (bs : List (List Term)). All (λ (b : List Term). b ≢ []) bs) c.in-Some.ensures.cases.0 c.loop-b.invariant.nonzero);
}

pub returns-clause-value : goal.returns-clause-value
returns-clause-value c =
    sym c.loop-b.invariant.same ∙ reducer-none c.loop-b.rest.now c.args.monomial.now c.in_default.ensures.cases
