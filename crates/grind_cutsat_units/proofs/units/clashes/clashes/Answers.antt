use Rattle.std.proofs.Common.{List, sym, ◌∙◌, subst}
use Rattle.std.proofs.lemmas.Bool.{false≢true}
use Rattle.grind_arithmetic_rules.specs.LinearRules.{IsTooGreat}
use Rattle.grind_cutsat_facts.specs.declared.facts.Fact.{Fact}
use Rattle.grind_cutsat_units.specs.Passing.{IsWithout}
use Rattle.grind_cutsat_units.proofs.PassingLemmas.{without_first, said_at_hand, without_next, without_last}
use Rattle.grind_cutsat_units.proofs.units.clashes.clashes.Goals as goal

pub loop-fact-init : goal.loop-fact-init
loop-fact-init c =
    subst (λ (rest : List Fact). IsWithout IsTooGreat c.args.view.now.facts.now rest)
    (sym c.as_slice-rest.ensures.value) (without_first IsTooGreat c.args.view.now.facts.now)

pub loop-fact-preserved : goal.loop-fact-preserved
loop-fact-preserved c =
    without_next IsTooGreat c.args.view.now.facts.now c.loop-fact.rest.now c.in-Some.tail.now c.in-Some.fact.now
    c.in-Some.ensures.cases.0 c.loop-fact.invariant (λ great. false≢true (sym c.if-is_too_great.false ∙ c.is_too_great.ensures.1 great))

pub returns-then-is_too_great : goal.returns-then-is_too_great
returns-then-is_too_great c = (
  c.in-Some.fact.now.claim,
  said_at_hand IsTooGreat c.args.view.now.facts.now c.loop-fact.rest.now c.in-Some.tail.now
      c.in-Some.fact.now c.in-Some.ensures.cases.0 c.loop-fact.invariant,
  c.is_too_great.ensures.0 c.if-is_too_great.true,
)

pub returns : goal.returns
returns c = λ post clash.
    without_last IsTooGreat c.args.view.now.facts.now c.loop-fact.rest.now c.in_default.ensures.cases c.loop-fact.invariant
    post clash.0 clash.1 clash.2
