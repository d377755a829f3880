use Rattle.std.proofs.Common.{rules, FitsSigned, All, to_z, ◌<◌, length, sym, ◌∙◌, subst}
use Rattle.std.specs.Int.{w128}
use Rattle.std.proofs.lemmas.Int.{to_z-of_z}
use Rattle.std.proofs.lemmas.List.Elements.{All-head}
use Rattle.grind_polynomials.specs.declared.poly.Term as terms
use Rattle.grind_value_tables.specs.Overflows.{value_of}
use Rattle.grind_value_tables.specs.Evaluations as specs
use Rattle.grind_value_tables.proofs.StepLemmas.{along_step}
use Rattle.grind_value_tables.proofs.evaluation.poly_sum.Goals as goal

pub with_term-requires : goal.with_term-requires
with_term-requires c =
    let Within : terms.Term → Type 0 = λ term. All (λ n. n < length c.args.list.now) term.monomial in
    All-head Within c.in-Some.term.now c.in-Some.tail.now
    (subst (All Within) c.in-Some.ensures.cases.0 c.loop-term.invariant.0)

pub loop-term-preserved : goal.loop-term-preserved
loop-term-preserved c =
    let next_fits : FitsSigned w128 c.in-Some-with_term.next = search rules in
    simp (to_z-of_z w128 c.in-Some-with_term.next next_fits)
    (along_step (λ (term : terms.Term). All (λ n. n < length c.args.list.now) term.monomial) (specs.with_term (value_of c.args.list.now))
    (to_z w128 c.loop-term.sum-bits) c.in-Some-with_term.next c.loop-term.rest.now c.in-Some.tail.now c.in-Some.term.now
    (specs.poly_sum (value_of c.args.list.now) c.args.poly.now) c.in-Some.ensures.cases.0
    (sym c.with_term.ensures ∙ c.in-Some-with_term.is) c.loop-term.invariant)
