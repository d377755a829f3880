use Rattle.std.proofs.Common.{List, sym, ◌∙◌, subst}
use Rattle.std.proofs.lemmas.Bool.{false≢true}
use Rattle.grind_cutsat_facts.specs.declared.facts.Fact.{Fact}
use Rattle.grind_cutsat_units.specs.Passing.{IsWithout}
use Rattle.grind_cutsat_units.proofs.PassingLemmas.{without_first, said_at_hand, without_next, without_last}
use Rattle.grind_cutsat_evidence.specs.Pairs.{IsUnresolvedWith}
use Rattle.grind_cutsat_evidence.proofs.pairs.unresolved_with.Goals as goal

pub loop-fact-init : goal.loop-fact-init
loop-fact-init c =
    subst (λ (rest : List Fact). IsWithout (IsUnresolvedWith c.args.upper.now) c.args.view.now.facts.now rest)
    (sym c.as_slice-rest.ensures.value) (without_first (IsUnresolvedWith c.args.upper.now) c.args.view.now.facts.now)

pub loop-fact-preserved : goal.loop-fact-preserved
loop-fact-preserved c =
    without_next (IsUnresolvedWith c.args.upper.now) c.args.view.now.facts.now c.loop-fact.rest.now c.in-Some.tail.now c.in-Some.fact.now
    c.in-Some.ensures.cases.0 c.loop-fact.invariant
    (λ unresolved. false≢true (sym c.if-unresolved.false ∙ c.in_ok-unresolved.ensures.1 unresolved))

pub returns-then-unresolved : goal.returns-then-unresolved
returns-then-unresolved c = (
  c.in-Some.fact.now.claim,
  said_at_hand (IsUnresolvedWith c.args.upper.now) c.args.view.now.facts.now c.loop-fact.rest.now c.in-Some.tail.now
      c.in-Some.fact.now c.in-Some.ensures.cases.0 c.loop-fact.invariant,
  c.in_ok-unresolved.ensures.0 c.if-unresolved.true,
)

pub returns : goal.returns
returns c = λ post other said.
    without_last (IsUnresolvedWith c.args.upper.now) c.args.view.now.facts.now c.loop-fact.rest.now c.in_default.ensures.cases
    c.loop-fact.invariant post other said
